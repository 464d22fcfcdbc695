-- Needles in places: the tests of three and of twelve are the tests that the contracts name. Assumes nothing.
use Rattle.std.specs.Prelude.{◌≡◌, Bool, ◌||◌, List, [], ◌∷◌, ◌⊎◌, ℕ, zero, suc, ◌+◌, ◌≤◌, ◌<◌, min, max, eqb, ltb, get_or, take}
use Rattle.std.specs.List.{list_any}
use Rattle.std.proofs.lemmas.List.{nil_from_length}
use Rattle.std.proofs.Math.Path.{refl, sym, ap, fun_ext}
use Rattle.std.proofs.Common.{◌∙◌, inl, inr, not-suc-le-zero, arith, length-take, take_all, take-suc}
use Rattle.std.proofs.Math.Bool.{true, false, or_self, or-false, or_assoc}
use Rattle.std.proofs.Math.ListN.{length, get_or-eq_default}
use Rattle.std.proofs.Math.Seq.{get_or-take}
use borrow.Author.Tests.{ltb-true, ltb-false}
use Rattle.find.specs.declared.blocks.Three.{Three}
use Rattle.find.specs.declared.blocks.Twelve.{Twelve}
use Rattle.search.specs.Promise.{Gives}
use Rattle.search.specs.Search.{is, either, one_of, find, Sought}
use Rattle.search.specs.SearchLaws.{decide, one_append, find_end, find-over, sought}
use Rattle.find.specs.Blocks.{of_three, of_twelve, needle_at, trio_of, NeedleCount, Stage, Reaches}
use Rattle.find.specs.BlockLaws.{sought_same, stage_same, reaches_same, sought_from}

-- ---- needles that are repeated
three_one : (b : ℕ) → of_three (record { a = b; b = b; c = b }) ≡ is b
unfolding of_three is
three_one b = fun_ext (λ x. ap (λ (y : Bool). y || eqb x b) (or_self (eqb x b)) ∙ or_self (eqb x b))

three_two : (b c : ℕ) → of_three (record { a = b; b = c; c = c }) ≡ either b c
unfolding of_three either
three_two b c = fun_ext (λ x. or_assoc (eqb x b) (eqb x c) (eqb x c) ∙ ap (λ (y : Bool). eqb x b || y) (or_self (eqb x c)))

twelve_three : (t : Three) → of_twelve (record { first = t; second = t; third = t; fourth = t }) ≡ of_three t
unfolding of_twelve
twelve_three t = fun_ext (λ x. four (of_three t x))
  where
    four : (y : Bool) → (((y || y) || y) || y) ≡ y
    four true = refl
    four false = refl

-- ---- what the tests tell
pub twelve_told : (k : Twelve) (x : ℕ) (a b c d : Bool) → Gives (of_three k.first x) a → Gives (of_three k.second x) b → Gives (of_three k.third x) c → Gives (of_three k.fourth x) d → (((a || b) || c) || d) ≡ of_twelve k x
unfolding of_twelve
twelve_told k x a b c d ga gb gc gd = rw (ga.answer, gb.answer, gc.answer, gd.answer)

pub trio_told : (l : List ℕ) (k a b c : ℕ) → Gives (needle_at l k) a → Gives (needle_at l (k + 1)) b → Gives (needle_at l (k + 2)) c → record { a = a; b = b; c = c } ≡ trio_of l k
trio_told l k a b c ga gb gc = rw (ga.answer, gb.answer, gc.answer)

-- std's test of a list is that of the contracts
pub one_any : (l : List ℕ) (x : ℕ) → list_any (λ y. eqb x y) l ≡ one_of l x
unfolding one_of
one_any [] x = refl
one_any (y ∷ l) x = ap (λ (b : Bool). eqb x y || b) (one_any l x)

-- as many of a list as it has
pub taken : (l : List ℕ) (n m : ℕ) → m ≡ min n (length l) → take m l ≡ take n l
taken l n m e = by (decide (ltb n (length l)))
  where
    by : (ltb n (length l) ≡ true) ⊎ (ltb n (length l) ≡ false) → take m l ≡ take n l
    by (inl u) = let z : m ≡ n = omega (arith, e, ltb-true n (length l) u) in rw z
    by (inr u) = let v = ltb-false n (length l) u in take_all m l (omega (arith, e)) ∙ sym (take_all n l v)

-- ---- a list's numbers in places
get_or_else : (l : List ℕ) (j d d' : ℕ) → j < length l → get_or l j d ≡ get_or l j d'
get_or_else [] j d d' h = absurd (not-suc-le-zero h)
get_or_else (x ∷ xs) zero d d' h = refl
get_or_else (x ∷ xs) (suc j) d d' h = get_or_else xs j d d' (omega arith)

-- what stands at place j of the first n
module _ (l : List ℕ) (n j : ℕ) (some : 0 < n) where
  pub needle_there : j < n → j < length l → get_or l j 0 ≡ needle_at (take n l) j
  unfolding needle_at
  needle_there h m = sym (get_or-take n l j (get_or (take n l) 0 0) h ∙ get_or_else l j (get_or (take n l) 0 0) 0 m)

  first_else : (r : ℕ) → length (take n l) ≤ j → Gives (get_or l 0 0) r → r ≡ needle_at (take n l) j
  unfolding needle_at
  first_else r h g = g.answer ∙ sym (get_or-eq_default (take n l) (get_or (take n l) 0 0) h ∙ get_or-take n l 0 0 some)

  pub needle_else : (r : ℕ) → min n (length l) ≤ j → Gives (get_or l 0 0) r → r ≡ needle_at (take n l) j
  needle_else r h g = first_else r (omega (arith, length-take n l)) g

-- the first of a list is among it
first_in : (l : List ℕ) → 0 < length l → (x : ℕ) → (one_of l x || eqb x (get_or l 0 0)) ≡ one_of l x
unfolding one_of
first_in [] h x = absurd (not-suc-le-zero h)
first_in (y ∷ ys) h x = by (eqb x y) (one_of ys x)
  where
    by : (u v : Bool) → ((u || v) || u) ≡ (u || v)
    by true v = refl
    by false true = refl
    by false false = refl

-- one place more
one_more : (l : List ℕ) → 0 < length l → (x k : ℕ) → one_of (take (suc k) l) x ≡ (one_of (take k l) x || eqb x (needle_at l k))
unfolding one_of needle_at
one_more l h x k = by (decide (ltb k (length l)))
  where
    by : (ltb k (length l) ≡ true) ⊎ (ltb k (length l) ≡ false) → one_of (take (suc k) l) x ≡ (one_of (take k l) x || eqb x (get_or l k (get_or l 0 0)))
    by (inl u) =
        ap (λ (z : List ℕ). one_of z x) (take-suc l k (get_or l 0 0) (ltb-true k (length l) u))
        ∙ one_append (take k l) (get_or l k (get_or l 0 0) ∷ []) x
        ∙ ap (λ (y : Bool). one_of (take k l) x || y) (or-false (eqb x (get_or l k (get_or l 0 0))))
    by (inr u) =
        let v = ltb-false k (length l) u in
        ap (λ (z : List ℕ). one_of z x) (take_all (suc k) l (omega arith))
        ∙ sym (first_in l h x)
        ∙ ap (λ (z : List ℕ). one_of z x || eqb x (get_or l 0 0)) (sym (take_all k l v))
        ∙ ap (λ (n : ℕ). one_of (take k l) x || eqb x n) (sym (get_or-eq_default l (get_or l 0 0) v))

-- one place alone
single_of : (l : List ℕ) → 0 < length l → is (get_or l 0 0) ≡ one_of (take 1 l)
unfolding is one_of
single_of [] h = absurd (not-suc-le-zero h)
single_of (y ∷ ys) h = fun_ext (λ x. sym (or-false (eqb x y)))

-- three places more
three_more : (l : List ℕ) → 0 < length l → (x k : ℕ) → one_of (take (suc (suc (suc k))) l) x ≡ (one_of (take k l) x || of_three (record { a = needle_at l k; b = needle_at l (suc k); c = needle_at l (suc (suc k)) }) x)
unfolding of_three
three_more l h x k =
    one_more l h x (suc (suc k))
    ∙ ap (λ (y : Bool). y || eqb x (needle_at l (suc (suc k)))) (one_more l h x (suc k) ∙ ap (λ (y : Bool). y || eqb x (needle_at l (suc k))) (one_more l h x k))
    ∙ three (one_of (take k l) x) (eqb x (needle_at l k)) (eqb x (needle_at l (suc k))) (eqb x (needle_at l (suc (suc k))))
  where
    three : (y a b c : Bool) → (((y || a) || b) || c) ≡ (y || ((a || b) || c))
    three true a b c = refl
    three false a b c = refl

-- ---- a list of needles is tested by its places
module _ (l : List ℕ) (some : 0 < length l) where
  third : (x : ℕ) → one_of (take 3 l) x ≡ of_three (trio_of l 0) x
  unfolding one_of
  third x = three_more l some x 0

  sixth : (x : ℕ) → one_of (take 6 l) x ≡ (of_three (trio_of l 0) x || of_three (trio_of l 3) x)
  sixth x = three_more l some x 3 ∙ ap (λ (y : Bool). y || of_three (trio_of l 3) x) (third x)

  all_in : (n : ℕ) → length l ≤ n → (x : ℕ) → one_of l x ≡ one_of (take n l) x
  all_in n h x = ap (λ (z : List ℕ). one_of z x) (sym (take_all n l h))

  three_of : length l ≤ 3 → of_three (trio_of l 0) ≡ one_of l
  three_of h = fun_ext (λ x. sym (all_in 3 h x ∙ third x))

  six_of : length l ≤ 6 → of_twelve (record { first = trio_of l 0; second = trio_of l 3; third = trio_of l 0; fourth = trio_of l 3 }) ≡ one_of l
  unfolding of_twelve
  six_of h = fun_ext (λ x. twice (of_three (trio_of l 0) x) (of_three (trio_of l 3) x) ∙ sym (all_in 6 h x ∙ sixth x))
    where
      twice : (a b : Bool) → (((a || b) || a) || b) ≡ (a || b)
      twice true b = refl
      twice false true = refl
      twice false false = refl

  twelve_of : length l ≤ 12 → of_twelve (record { first = trio_of l 0; second = trio_of l 3; third = trio_of l 6; fourth = trio_of l 9 }) ≡ one_of l
  unfolding of_twelve
  twelve_of h =
      fun_ext
      (λ x. sym
      (all_in 12 h x
      ∙ three_more l some x 9
      ∙ ap (λ (y : Bool). y || of_three (trio_of l 9) x) (three_more l some x 6 ∙ ap (λ (y : Bool). y || of_three (trio_of l 6) x) (sixth x))))

-- ---- what the contracts name
module _ (s : List ℕ) (i r : ℕ) where
  pub sought_one : (b : ℕ) → Sought (of_three (record { a = b; b = b; c = b })) s i r → Sought (is b) s i r
  sought_one b w = sought_same _ _ (three_one b) s i r w

  pub sought_two : (b c : ℕ) → Sought (of_three (record { a = b; b = c; c = c })) s i r → Sought (either b c) s i r
  sought_two b c w = sought_same _ _ (three_two b c) s i r w

module _ (t : Three) (s : List ℕ) (i e r : ℕ) where
  pub stage_three : Stage (of_twelve (record { first = t; second = t; third = t; fourth = t })) s i e r → Stage (of_three t) s i e r
  stage_three w = stage_same _ _ (twelve_three t) s i e r w

  pub reaches_three : Reaches (of_twelve (record { first = t; second = t; third = t; fourth = t })) s i e r → Reaches (of_three t) s i e r
  reaches_three w = reaches_same _ _ (twelve_three t) s i e r w

-- ---- a search for the first n of a list
module _ (l : List ℕ) (n : ℕ) (s : List ℕ) (i r : ℕ) where
  pub sought_none : min n (length l) ≡ 0 → Gives (max i (length s)) r → Sought (one_of (take n l)) s i r
  unfolding one_of
  sought_none e g = rw (nil_from_length (take n l) (omega (arith, length-take n l))) (sought (one_of []) s i r (by (decide (ltb i (length s)))))
    where
      by : (ltb i (length s) ≡ true) ⊎ (ltb i (length s) ≡ false) → find (one_of []) s i ≡ r
      by (inl u) =
          let h = ltb-true i (length s) u in
          let at : length s ≡ r = omega (arith, g.answer) in
          find-over (one_of []) s i (length s) (omega arith) (omega arith) (λ j a b. refl) ∙ find_end (one_of []) s (length s) (omega arith) ∙ at
      by (inr u) =
          let h = ltb-false i (length s) u in
          let at : i ≡ r = omega (arith, g.answer) in
          find_end (one_of []) s i h ∙ at

  pub sought_single : n ≡ 1 → 0 < length l → Sought (is (get_or l 0 0)) s i r → Sought (one_of (take n l)) s i r
  sought_single e h w = rw e (sought_same _ _ (single_of l h) s i r w)

  has : (w : ℕ) → NeedleCount l n w → 0 < length (take n l)
  has w c = omega (arith, length-take n l, c.some, c.there)

  within : (w : ℕ) → min n (length l) ≤ w → length (take n l) ≤ w
  within w h = omega (arith, length-take n l)

  -- by three places, by six, by twelve
  pub sought_few : (t : Three) → NeedleCount l n 3 → Gives (trio_of (take n l) 0) t → Sought (of_three t) s i r → Sought (one_of (take n l)) s i r
  sought_few t c g w = sought_same _ _ (ap of_three g.answer ∙ three_of (take n l) (has 3 c) (within 3 c.most)) s i r w

  -- by blocks to a place k, and on from there
  module _ (e k : ℕ) (c : NeedleCount l n 12) (on : Sought (one_of (take n l)) s k r) where
    pub sought_six : (p q : Three) → n ≤ 6 → Gives (trio_of (take n l) 0) p → Gives (trio_of (take n l) 3) q → Reaches (of_twelve (record { first = p; second = q; third = p; fourth = q })) s i e k → Sought (one_of (take n l)) s i r
    sought_six p q h gp gq w = sought_from _ s i e k r (reaches_same _ _ (rw (gp.answer, gq.answer) (six_of (take n l) (has 12 c) (within 6 (omega arith)))) s i e k w) on

    pub sought_twelve : (p q u v : Three) → Gives (trio_of (take n l) 0) p → Gives (trio_of (take n l) 3) q → Gives (trio_of (take n l) 6) u → Gives (trio_of (take n l) 9) v → Reaches (of_twelve (record { first = p; second = q; third = u; fourth = v })) s i e k → Sought (one_of (take n l)) s i r
    sought_twelve p q u v gp gq gu gv w =
        sought_from _ s i e k r
        (reaches_same _ _ (rw (gp.answer, gq.answer, gu.answer, gv.answer) (twelve_of (take n l) (has 12 c) (within 12 c.most))) s i e k w) on

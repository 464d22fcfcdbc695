-- Laws of the distinct bytes of the rules: the first eleven are searched for, and the number of bytes left out is that of the others.
-- Assumes nothing.
-- The page: "Bytes searched for: fence bytes, symmetric bytes, asymmetric openers, in that order, without repeats, the first eleven kept."
-- Document 02, request 5: "Collecting the search bytes shall also report how many distinct bytes were left out."
use Rattle.std.specs.Prelude.{◌≡◌, refl, Bool, true, false, cond, ◌||◌, ◌&&◌, List, [], ◌∷◌, ◌++◌, ◌⊎◌, eqb, ltb, leb, length, get_or, take, drop}
use Rattle.std.proofs.Common.{sym as inv, ◌∙◌, inl, inr, not-suc-le-zero, arith, length-append, length-take, length-drop, take-append-drop, take_all, take-take, get_or-take, get_or-append-add, eq-eqb, eqb-true, ne_eqb, ltb-true, ltb-false, lt-ltb, le-leb, leb-true, leb-false}
use Rattle.std.proofs.Math.Path.{ap, fun_ext}
use Rattle.std.proofs.Math.Bool.{not, or-false, or_assoc}
use Prim.Native.Nat.{ℕ, zero, suc, ◌+◌, ◌-◌, ◌≤◌, ◌<◌}
use Rattle.std.proofs.Math.ListN.{get_or-append}
use Rattle.std.proofs.lemmas.List.{take-append-le}
use Rattle.std.proofs.Math.Seq.{take-append_seam, take-length}
use Rattle.search.specs.Search.{is, one_of}
use Rattle.search.specs.SearchLaws.{decide, clash, is_true, one_append, find_at}
use Rattle.common.specs.Rules.{rule_index}
use Rattle.common.specs.Turning.{Each}
use Rattle.common.specs.EachLaws.{each_append, each_take}
use Rattle.rules.specs.Columns.{Columns, columns, gained, gained_all, searched, how_many, rule_byte, left_out}
use Rattle.rules.specs.Records.{no_rule, rule_bytes, rule_mins, kept_bytes, kept_mins, AllGathered}
use Rattle.rules.specs.RecordLaws.{one_first, one_at, has_one, counted-more, gathered-left}
use Rattle.rules.specs.declared.records.FenceRule.{FenceRule}
use Rattle.rules.specs.declared.records.Gathered.{Gathered}

-- ---- without repeats
-- a list that meets a number: one that it has is passed over, another it gains at its end
abbrev pub meeting : List ℕ → ℕ → List ℕ
meeting l b = cond (one_of l b) l (l ++ (b ∷ []))

abbrev pub meeting_all : List ℕ → List ℕ → List ℕ
meeting_all l [] = l
meeting_all l (b ∷ bs) = meeting_all (meeting l b) bs

-- "without repeats": the numbers of a list, each once, in the order in which each came first
unfoldable pub distinct : List ℕ → List ℕ
distinct l = meeting_all [] l

-- no number stands at two places of a list
abbrev pub Once : List ℕ → Type 0
Once l = (i j : ℕ) → i < length l → j < length l → get_or l i 0 ≡ get_or l j 0 → i ≡ j

-- every number of a list is a byte
abbrev pub Bytes : List ℕ → Type 0
Bytes l = Each (λ b. b < 256) l

-- "fence bytes, symmetric bytes, asymmetric openers, in that order": the distinct bytes among all rules are those of this list
abbrev pub triggers : Columns → List ℕ
triggers c = c.fence_bytes ++ (c.inline.sym_bytes ++ c.inline.openers)

-- ---- a list that meets a number
-- by cases: it has the number, or gains it
met_by : (P : List ℕ → Type 0) (l : List ℕ) (b : ℕ) → (one_of l b ≡ true → P l) → (one_of l b ≡ false → P (l ++ (b ∷ []))) → P (meeting l b)
met_by P l b held new = by (decide (one_of l b))
  where
    by : (one_of l b ≡ true) ⊎ (one_of l b ≡ false) → P (meeting l b)
    by (inl u) = rw u (held u)
    by (inr u) = rw u (new u)

-- a number stands at a place of a list that has it
one_place : (l : List ℕ) (x : ℕ) → one_of l x ≡ true → (rule_index l x < length l) × (get_or l (rule_index l x) 0 ≡ x)
one_place l x e =
    let h = ltb-true (rule_index l x) (length l) (inv (has_one l x) ∙ e) in
    (h, is_true x (get_or l (rule_index l x) 0) (find_at (is x) l 0 h))

-- it has what it had, and the number
met_has : (l : List ℕ) (b x : ℕ) → one_of (meeting l b) x ≡ (one_of l x || eqb x b)
unfolding one_of
met_has l b x =
    met_by (λ (m : List ℕ). one_of m x ≡ (one_of l x || eqb x b)) l b (λ u. by u (decide (eqb x b)))
    (λ u. one_append l (b ∷ []) x ∙ ap (λ (z : Bool). one_of l x || z) (or-false (eqb x b)))
  where
    by : one_of l b ≡ true → (eqb x b ≡ true) ⊎ (eqb x b ≡ false) → one_of l x ≡ (one_of l x || eqb x b)
    by u (inl e) = let z : one_of l x ≡ true = ap (one_of l) (eqb-true x b e) ∙ u in rw z
    by u (inr e) = rw e (inv (or-false (one_of l x)))

met_all-has : (l bs : List ℕ) (x : ℕ) → one_of (meeting_all l bs) x ≡ (one_of l x || one_of bs x)
unfolding one_of
met_all-has l [] x = inv (or-false (one_of l x))
met_all-has l (b ∷ bs) x = met_all-has (meeting l b) bs x ∙ ap (λ (z : Bool). z || one_of bs x) (met_has l b x) ∙ or_assoc (one_of l x) (eqb x b) (one_of bs x)

-- its numbers stand at one place each
met_once : (l : List ℕ) (b : ℕ) → Once l → Once (meeting l b)
met_once l b w = met_by Once l b (λ u. w) longer
  where
    -- the new number stands at no place before it
    new : one_of l b ≡ false → (i : ℕ) → i < length l → get_or (l ++ (b ∷ [])) i 0 ≡ get_or (l ++ (b ∷ [])) (length l + 0) 0 → ⊥
    new u i h e = clash (one_at l b i h (inv (get_or-append l (b ∷ []) 0 i h) ∙ e ∙ get_or-append-add l (b ∷ []) 0 0)) u

    by : one_of l b ≡ false → (i j : ℕ) → i < length l + 1 → j < length l + 1 → get_or (l ++ (b ∷ [])) i 0 ≡ get_or (l ++ (b ∷ [])) j 0
        → (ltb i (length l) ≡ true) ⊎ (ltb i (length l) ≡ false) → (ltb j (length l) ≡ true) ⊎ (ltb j (length l) ≡ false) → i ≡ j
    by u i j hi hj e (inl p) (inl q) =
        let h = ltb-true i (length l) p in
        let k = ltb-true j (length l) q in
        w i j h k (inv (get_or-append l (b ∷ []) 0 i h) ∙ e ∙ get_or-append l (b ∷ []) 0 j k)
    by u i j hi hj e (inl p) (inr q) =
        let z : j ≡ length l + 0 = omega (arith, ltb-false j (length l) q) in
        absurd (new u i (ltb-true i (length l) p) (e ∙ ap (λ (k : ℕ). get_or (l ++ (b ∷ [])) k 0) z))
    by u i j hi hj e (inr p) (inl q) =
        let z : i ≡ length l + 0 = omega (arith, ltb-false i (length l) p) in
        absurd (new u j (ltb-true j (length l) q) (inv e ∙ ap (λ (k : ℕ). get_or (l ++ (b ∷ [])) k 0) z))
    by u i j hi hj e (inr p) (inr q) = omega (arith, ltb-false i (length l) p, ltb-false j (length l) q)

    longer : one_of l b ≡ false → Once (l ++ (b ∷ []))
    longer u i j hi hj e =
        let z = length-append l (b ∷ []) in
        by u i j (omega (arith, z)) (omega (arith, z)) e (decide (ltb i (length l))) (decide (ltb j (length l)))

met_all_once : (l bs : List ℕ) → Once l → Once (meeting_all l bs)
met_all_once l [] w = w
met_all_once l (b ∷ bs) w = met_all_once (meeting l b) bs (met_once l b w)

-- and are bytes, where both lists are
met_all_bytes : (l bs : List ℕ) → Bytes l → Bytes bs → Bytes (meeting_all l bs)
met_all_bytes l [] v w = v
met_all_bytes l (b ∷ bs) v w = met_all_bytes (meeting l b) bs (met_by Bytes l b (λ u. v) (λ u. each_append (λ x. x < 256) l (b ∷ []) v (w.0, tt))) w.1

-- what it had stays in front
met_front : (l : List ℕ) (b : ℕ) → (length l ≤ length (meeting l b)) × (take (length l) (meeting l b) ≡ l)
met_front l b =
    met_by (λ (m : List ℕ). (length l ≤ length m) × (take (length l) m ≡ l)) l b (λ u. (omega arith, take-length l))
    (λ u. (omega (arith, length-append l (b ∷ [])), take-append_seam l (b ∷ [])))

met_all-front : (l bs : List ℕ) → take (length l) (meeting_all l bs) ≡ l
met_all-front l [] = take-length l
met_all-front l (b ∷ bs) =
    inv (take-take (length l) (length (meeting l b)) (meeting_all (meeting l b) bs) (met_front l b).0)
    ∙ ap (take (length l)) (met_all-front (meeting l b) bs) ∙ (met_front l b).1

met_append : (l a b : List ℕ) → meeting_all l (a ++ b) ≡ meeting_all (meeting_all l a) b
met_append l [] b = refl
met_append l (x ∷ a) b = met_append (meeting l x) a b

-- ---- the distinct numbers of a list
-- they are the list's numbers
pub distinct-same : (l : List ℕ) (x : ℕ) → one_of (distinct l) x ≡ one_of l x
unfolding distinct one_of
distinct-same l x = met_all-has [] l x

-- each once
pub distinct_once : (l : List ℕ) → Once (distinct l)
unfolding distinct
distinct_once l = met_all_once [] l (λ i j h. absurd (not-suc-le-zero h))

-- in the order in which each came first: those of a list's front come before the others
pub distinct-front : (a b : List ℕ) → take (length (distinct a)) (distinct (a ++ b)) ≡ distinct a
unfolding distinct
distinct-front a b = ap (take (length (meeting_all [] a))) (met_append [] a b) ∙ met_all-front (meeting_all [] a) b

distinct_bytes : (l : List ℕ) → Bytes l → Bytes (distinct l)
unfolding distinct
distinct_bytes l w = met_all_bytes [] l tt w

-- ---- the first eleven kept
-- keeping eleven all along is keeping the first eleven of all
gained-take : (l : List ℕ) (b : ℕ) → gained (take 11 l) b ≡ take 11 (meeting l b)
gained-take l b = by (decide (leb 11 (length l)))
  where
    by : (leb 11 (length l) ≡ true) ⊎ (leb 11 (length l) ≡ false) → gained (take 11 l) b ≡ take 11 (meeting l b)
    by (inl u) =
        let h = leb-true 11 (length l) u in
        let z : leb 11 (length (take 11 l)) ≡ true = le-leb 11 (length (take 11 l)) (omega (arith, length-take 11 l)) in
        rw z (met_by (λ (m : List ℕ). take 11 l ≡ take 11 m) l b (λ v. refl) (λ v. inv (take-append-le 11 l (b ∷ []) h)))
    by (inr u) =
        let h = leb-false 11 (length l) u in
        let z : take 11 l ≡ l = take_all 11 l (omega arith) in
        let z' : length (meeting l b) ≤ 11 = met_by (λ (m : List ℕ). length m ≤ 11) l b (λ v. omega arith) (λ v. omega (arith, length-append l (b ∷ []))) in
        ap (λ (m : List ℕ). gained m b) z ∙ rw u (inv (take_all 11 (meeting l b) z'))

gained-all-take : (l bs : List ℕ) → gained_all (take 11 l) bs ≡ take 11 (meeting_all l bs)
gained-all-take l [] = refl
gained-all-take l (b ∷ bs) = ap (λ (z : List ℕ). gained_all z bs) (gained-take l b) ∙ gained-all-take (meeting l b) bs

-- "fence bytes, symmetric bytes, asymmetric openers, in that order, without repeats, the first eleven kept"
pub searched-first : (c : Columns) → searched c ≡ take 11 (distinct (triggers c))
unfolding searched distinct
searched-first c =
    let f = c.fence_bytes in
    let y = c.inline.sym_bytes in
    let o = c.inline.openers in
    ap (λ (z : List ℕ). gained_all (gained_all z y) o) (gained-all-take [] f)
    ∙ ap (λ (z : List ℕ). gained_all z o) (gained-all-take (meeting_all [] f) y)
    ∙ gained-all-take (meeting_all (meeting_all [] f) y) o
    ∙ ap (take 11) (inv (met_append [] f (y ++ o) ∙ met_append (meeting_all [] f) y o))

-- ---- how many numbers below n pass a test
-- those that pass one test and not another, and those that pass the other
counted_less : (t u : ℕ → Bool) → ((x : ℕ) → u x ≡ true → t x ≡ true) → (n : ℕ) → how_many (λ x. t x && not (u x)) n + how_many u n ≡ how_many t n
unfolding how_many
counted_less t u w zero = refl
counted_less t u w (suc n) = by (decide (u n)) (counted_less t u w n)
  where
    by : (u n ≡ true) ⊎ (u n ≡ false) → how_many (λ x. t x && not (u x)) n + how_many u n ≡ how_many t n
        → cond (t n && not (u n)) 1 0 + how_many (λ x. t x && not (u x)) n + (cond (u n) 1 0 + how_many u n) ≡ cond (t n) 1 0 + how_many t n
    by (inl e) ih = rw (e, w n e) (omega arith)
    by (inr e) ih = rw e (both (t n) ih)
      where
        both : (y : Bool) → how_many (λ x. t x && not (u x)) n + how_many u n ≡ how_many t n
            → cond (y && true) 1 0 + how_many (λ x. t x && not (u x)) n + (0 + how_many u n) ≡ cond y 1 0 + how_many t n
        both true ih = omega arith
        both false ih = omega arith

-- none: each fails
counted_none : (t : ℕ → Bool) (n x : ℕ) → how_many t n ≡ 0 → x < n → t x ≡ false
unfolding how_many
counted_none t zero x e h = absurd (not-suc-le-zero h)
counted_none t (suc n) x e h = by (decide (t n)) (decide (ltb x n)) (counted_none t n x)
  where
    by : (t n ≡ true) ⊎ (t n ≡ false) → (ltb x n ≡ true) ⊎ (ltb x n ≡ false) → (how_many t n ≡ 0 → x < n → t x ≡ false) → t x ≡ false
    by (inl u) v ih = let z : 1 + how_many t n ≡ 0 = rw u at e in absurd (omega arith)
    by (inr u) (inl v) ih = let z : 0 + how_many t n ≡ 0 = rw u at e in ih (omega arith) (ltb-true x n v)
    by (inr u) (inr v) ih = let z : x ≡ n = omega (arith, ltb-false x n v) in rw z u

none_counted : (t : ℕ → Bool) (n : ℕ) → ((x : ℕ) → x < n → t x ≡ false) → how_many t n ≡ 0
unfolding how_many
none_counted t zero w = refl
none_counted t (suc n) w = let ih = none_counted t n (λ x h. w x (omega arith)) in rw (w n (omega arith)) (omega arith)

-- of the 256 bytes as many are in a list of bytes, each once, as it is long
once_counted : (l : List ℕ) → Once l → Bytes l → how_many (one_of l) 256 ≡ length l
unfolding one_of
once_counted [] w v = none_counted (λ x. false) 256 (λ x h. refl)
once_counted (b ∷ l) w v =
    let more = counted-more (one_of l) (one_of (b ∷ l)) b (new (decide (one_of l b))) (rw (eq-eqb b b refl)) (λ x d. rw (ne_eqb x b d)) 256 in
    let z : how_many (one_of (b ∷ l)) 256 ≡ how_many (one_of l) 256 + 1 = rw (lt-ltb b 256 v.0) at more in
    let ih = once_counted l (λ i j h k e. let s = w (suc i) (suc j) (omega arith) (omega arith) e in omega arith) v.1 in
    omega (arith, z, ih)
  where
    new : (one_of l b ≡ true) ⊎ (one_of l b ≡ false) → one_of l b ≡ false
    new (inl e) = let p = one_place l b e in let s = w 0 (suc (rule_index l b)) (omega arith) (omega (arith, p.0)) (inv p.1) in absurd (omega arith)
    new (inr e) = e

-- ---- the bytes left out
module _ (c : Columns) where
  -- a rule's byte is one of all rules' bytes
  rule_byte_lem : (x : ℕ) → rule_byte c.fence_bytes c.inline.sym_bytes c.inline.openers x ≡ one_of (triggers c) x
  rule_byte_lem x =
      let y = c.inline.sym_bytes in
      let o = c.inline.openers in
      inv (one_append c.fence_bytes (y ++ o) x ∙ ap (λ (z : Bool). one_of c.fence_bytes x || z) (one_append y o x))

  -- whether a byte is left out: it is a rule's, and none of those searched for
  abbrev is_left : ℕ → Bool
  is_left x = one_of (triggers c) x && not (one_of (searched c) x)

  left_is : left_out c ≡ how_many is_left 256
  unfolding left_out
  left_is = ap (λ (t : ℕ → Bool). how_many (λ x. t x && not (one_of (searched c) x)) 256) (fun_ext rule_byte_lem)

  -- what is searched for is a rule's
  searched_rule : (x : ℕ) → one_of (searched c) x ≡ true → one_of (triggers c) x ≡ true
  searched_rule x e =
      let d = distinct (triggers c) in
      inv (distinct-same (triggers c) x) ∙ ap (λ (l : List ℕ). one_of l x) (inv (take-append-drop 11 d))
      ∙ one_first (take 11 d) (drop 11 d) x (ap (λ (l : List ℕ). one_of l x) (inv (searched-first c)) ∙ e)

  module _ (w : Bytes (triggers c)) where
    all-counted : how_many (one_of (triggers c)) 256 ≡ length (distinct (triggers c))
    all-counted =
        ap (λ (t : ℕ → Bool). how_many t 256) (inv (fun_ext (distinct-same (triggers c))))
        ∙ once_counted (distinct (triggers c)) (distinct_once (triggers c)) (distinct_bytes (triggers c) w)

    searched-counted : how_many (one_of (searched c)) 256 ≡ length (searched c)
    searched-counted =
        let d = distinct (triggers c) in
        rw (searched-first c) (once_counted (take 11 d) part (each_take (λ b. b < 256) 11 d (distinct_bytes (triggers c) w)))
      where
        part : Once (take 11 (distinct (triggers c)))
        part i j h k e =
            let d = distinct (triggers c) in
            let z = length-take 11 d in
            distinct_once (triggers c) i j (omega (arith, z)) (omega (arith, z))
            (inv (get_or-take 11 d i 0 (omega (arith, z))) ∙ e ∙ get_or-take 11 d j 0 (omega (arith, z)))

    -- "how many distinct bytes were left out": the distinct bytes among all rules less those kept
    pub left-distinct : left_out c ≡ length (distinct (triggers c)) - length (searched c)
    left-distinct = omega (arith, left_is, counted_less (one_of (triggers c)) (one_of (searched c)) searched_rule 256, all-counted, searched-counted)

    -- those behind the first eleven
    pub left_behind : left_out c ≡ length (drop 11 (distinct (triggers c)))
    left_behind =
        let d = distinct (triggers c) in
        omega (arith, left-distinct, ap length (searched-first c), length-take 11 d, length-drop 11 d)

  -- where none is left out every rule's byte is searched for
  pub none_left : left_out c ≡ 0 → (b : ℕ) → b < 256 → one_of (triggers c) b ≡ true → one_of (searched c) b ≡ true
  none_left e b h u = by (decide (one_of (searched c) b)) (counted_none is_left 256 b (inv left_is ∙ e) h)
    where
      by : (one_of (searched c) b ≡ true) ⊎ (one_of (searched c) b ≡ false) → is_left b ≡ false → one_of (searched c) b ≡ true
      by (inl v) z = v
      by (inr v) z = absurd (clash (rw (u, v)) z)

  -- and conversely
  pub all-searched : ((b : ℕ) → b < 256 → one_of (triggers c) b ≡ true → one_of (searched c) b ≡ true) → left_out c ≡ 0
  all-searched w = left_is ∙ none_counted is_left 256 (λ x h. by x h (decide (one_of (triggers c) x)))
    where
      by : (x : ℕ) → x < 256 → (one_of (triggers c) x ≡ true) ⊎ (one_of (triggers c) x ≡ false) → is_left x ≡ false
      by x h (inl u) = rw (u, w x h u)
      by x h (inr u) = rw u

-- fewer than eleven kept: each byte has found a place, and none is left out
pub few-kept : (c : Columns) → length (searched c) < 11 → left_out c ≡ 0
few-kept c h =
    let d = distinct (triggers c) in
    let short : length d ≤ 11 = omega (arith, ap length (searched-first c), length-take 11 d) in
    let all : searched c ≡ d = searched-first c ∙ take_all 11 d short in
    all-searched c (λ b _ u. ap (λ (l : List ℕ). one_of l b) all ∙ distinct-same (triggers c) b ∙ u)

-- ---- a run of fence rule records
-- a rule's byte is a byte
rules_bytes : (rules : List FenceRule) → ((j : ℕ) → j < length rules → (get_or rules j no_rule).byte < 256) → Bytes (rule_bytes rules)
rules_bytes [] w = tt
rules_bytes (r ∷ rules) w = (w 0 (omega arith), rules_bytes rules (λ j h. w (suc j) (omega arith)))

-- the rules that are kept of a run leave out the distinct bytes among all rules less those kept
pub left_records : (rules : List FenceRule) (f : Gathered) → AllGathered rules f → (y t o k n : List ℕ) → Bytes y → Bytes o
    → left_out (columns (kept_bytes f) (kept_mins f) y t o k n)
    ≡ length (distinct (triggers (columns (rule_bytes rules) (rule_mins rules) y t o k n)))
    - length (searched (columns (rule_bytes rules) (rule_mins rules) y t o k n))
left_records rules f w y t o k n v u =
    inv (gathered-left rules f w y t o k n)
    ∙ left-distinct (columns (rule_bytes rules) (rule_mins rules) y t o k n)
    (each_append (λ b. b < 256) (rule_bytes rules) (y ++ o) (rules_bytes rules w.small) (each_append (λ b. b < 256) y o v u))

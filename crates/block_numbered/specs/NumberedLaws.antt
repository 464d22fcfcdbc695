-- Laws of the numbered items: the item of a line by searches, the ways out of the turns, and that both scans find the items of the lines. Assumes nothing.
use Rattle.std.specs.Prelude.{◌≡◌, refl, Bool, true, false, ◌&&◌, ◌⊎◌, ltb, leb, get_or, take}
use Rattle.std.proofs.Math.Path.{sym, ap, subst, fun_ext}
use Rattle.std.proofs.Common.{◌∙◌, inl, inr, ⊎_elim, get_or-take, length-take-le, take_all, take-take, drop-drop}
use Rattle.std.proofs.Math.Bool.{cond, and-false}
use mathlib.Core.List.{List, [], ◌∷◌}
use Prim.Native.Nat.{ℕ, suc, ◌+◌, ◌-◌, ◌≤◌, ◌<◌}
use native.Mathlib.Omega.{arith}
use Rattle.std.proofs.Math.ListN.{length, drop, length-take, length-drop}
use Rattle.std.proofs.Math.Seq.{slice, length-slice}
use borrow.Author.Tests.{lt-ltb, le-ltb, ltb-true, ltb-false, leb-true, leb-false}
use Rattle.search.specs.Promise.{Gives}
use Rattle.search.specs.Search.{is, either, other, holds, find, Sought, back, line_start, line_end, next_line, after_line, digit}
use Rattle.search.specs.SearchLaws.{decide, clash, and_true, is_no, either_true, other_yes, other_no, other_false, holds_in, holds_true, find_ge, find_le, find_before, find_at, find-is, find_end, find-over, back_le, line-next}
use Rattle.decimal.specs.Decimal.{valued}
use Rattle.common.specs.Turn.{go, stop, found, all_found}
use Rattle.common.specs.Turning.{Ahead, Adv, Each, OnFound, Covers}
use Rattle.common.specs.TurnLaws.{collect-covers}
use Rattle.common.specs.Items.{ItemGrammar, grammar, blank, leading, beyond, leads, item_from, item_at, items_of}
use Rattle.common.specs.ItemLaws.{both, other_true, leading-is, beyond-is, leading-beyond, accepted_at, from_drop, marked_tests, Parted, marked_parted, parted_marked, Heads, heads_at, heads_front, AtMost, most_from, Walked, walked, walked_is, start_after, line_size, line-length, line_low, Led, led, led_find, led_walked, no_line, on_line, line-rest, line_reach, read_none, read-line, read_finds, read_adv, read-items, hit_adv, hit_finds, hit_covers, blank-refused, accepted-blank, blank-inside, accepted-inside}
use Rattle.block_numbered.specs.Numbered.{one_to_nine, few, numbered, item, number_then, number_from, number_line, numbers, NoDigit, DigitsApart, stream_hit, stream_turn, trail_at, read_digits, read_from, read_line, line_turn, digits_at}
use Rattle.block_numbered.specs.DigitLaws.{few_none, few_some, one_to_nine_lem, nine_yes, digits_small, leading-few, leading_many, drop-leading}
use Rattle.block_numbered.specs.declared.NumberedItem.{NumberedItem}
use Rattle.block_numbered.specs.declared.DigitRun.{DigitRun}
use Rattle.block_numbered.specs.declared.Trail.{Trail}

-- ---- digits between two places
-- where all bytes from k up to p are digits, nine at the most, they are what is read there
pub all_read : (s : List ℕ) (k p : ℕ) → k ≤ p → p ≤ length s → p - k ≤ 9 → ((j : ℕ) → k ≤ j → j < p → digit (get_or s j 0) ≡ true) → read_digits (slice k p s) ≡ slice k p s
all_read s k p h l few all =
    let size : length (take p s) ≡ p = length-take-le p s l in
    let f : find (other digit) (take p s) k ≡ p =
    find-over (other digit) (take p s) k p h (omega arith) (λ j a b. ap (other digit) (get_or-take p s j 0 b) ∙ other_no digit (get_or s j 0) (all j a b))
    ∙ find_end (other digit) (take p s) p (omega arith) in
    ap (leading digit) (take_all 9 (slice k p s) (omega (arith, length-slice k p s l)))
    ∙ leading-is digit (take p s) k (omega arith)
    ∙ ap (λ (n : ℕ). slice k n (take p s)) f
    ∙ ap (drop k) (take_all p (take p s) (omega arith))

-- the digits before a place
pub back_read : (s : List ℕ) (p : ℕ) → p ≤ length s → one_to_nine (back digit s p) ≡ true → read_digits (slice (p - back digit s p) p s) ≡ slice (p - back digit s p) p s
back_read s p h e = all_read s (p - back digit s p) p (omega arith) h (omega (arith, (one_to_nine_lem (back digit s p) e).1)) (walked digit s p h).all

-- ---- the ways out of the streaming turn
module _ (eol sep tab : ℕ) (t : ℕ → Bool) (s : List ℕ) (q p : ℕ) where
  pub stream_none : length s ≤ p → Sought t s q p → Gives (stream_turn (grammar eol sep tab t) s q) (stop q)
  unfolding stream_turn
  stream_none h w = record { answer = simp (← w.here, le-ltb p (length s) h) }

  module _ (r : Trail) (h : p < length s) (w : Sought t s q p) (x : Gives (trail_at s p (few (back digit s p))) r) where
    abbrev n : ℕ
    n = r.count

    g : n ≡ few (back digit s p)
    g = ap (λ (k : Trail). k.count) x.answer

    pub stream_digitless : n ≡ 0 → Gives (stream_turn (grammar eol sep tab t) s q) (go (p + 1))
    unfolding stream_turn
    stream_digitless e = record { answer = simp (← w.here, lt-ltb p (length s) h, few_none (back digit s p) (sym g ∙ e)) }

    module _ (y : Bool) (d : n ≡ 0 → ⊥) where
      some : (few (back digit s p) ≡ back digit s p) × (one_to_nine (back digit s p) ≡ true)
      some = few_some (back digit s p) (λ z. d (g ∙ z))

      count : n ≡ back digit s p
      count = g ∙ some.0

      -- by the tests that are left
      rest : (z : Bool) → Gives (leads eol sep tab s (p - n)) y → Gives (holds (either sep tab) s (p + 1)) z
          → stream_turn (grammar eol sep tab t) s q
          ≡ cond (y && z) (found (numbered (slice (p - n) p s) (get_or s p 0) (p + 2) (line_end eol s (p + 2))) (after_line eol s (p + 2))) (go (p + 1))
      unfolding stream_turn
      rest z a b = simp (← w.here, lt-ltb p (length s) h, some.1, ← count, ← a.answer, ← b.answer)

      pub stream_unled : y ≡ false → Gives (leads eol sep tab s (p - n)) y → Gives (stream_turn (grammar eol sep tab t) s q) (go (p + 1))
      stream_unled e a = record { answer = sym (rest (holds (either sep tab) s (p + 1)) a (record { answer = refl }) ∙ simp e) }

      module _ (z : Bool) (f : y ≡ true) where
        pub stream_bare : z ≡ false → Gives (leads eol sep tab s (p - n)) y → Gives (holds (either sep tab) s (p + 1)) z → Gives (stream_turn (grammar eol sep tab t) s q) (go (p + 1))
        stream_bare e a b = record { answer = sym (rest z a b ∙ simp (f, e)) }

        pub stream_found : (e i m : ℕ) → z ≡ true → Gives (leads eol sep tab s (p - n)) y → Gives (holds (either sep tab) s (p + 1)) z
            → Sought (is eol) s (p + 2) e → Gives (next_line (length s) e) i → Gives (get_or s p 0) m → Gives (stream_turn (grammar eol sep tab t) s q) (found (item r.number m (p + 2) e) i)
        stream_found e i m c a b l v k =
            let u : r.number ≡ valued (slice (p - n) p s) = ap (λ (j : Trail). j.number) x.answer ∙ ap (λ (j : ℕ). valued (slice (p - j) p s)) (sym g) in
            record { answer = sym (rest z a b ∙ simp (f, c, ← l.here, ← v.answer, ← k.answer, ← u)) }

pub ruleset stream_rules = (stream_none, stream_digitless, stream_unled, stream_bare, stream_found)

-- ---- the item of a line by searches: u is the text up to the line's end, p the first byte from a on that is no separator or tab
read_nine : (l : List ℕ) → length (read_digits l) ≤ 9
read_nine l = omega (arith, leading-beyond digit (take 9 l), length-take 9 l)

module _ (g : ItemGrammar) (u : List ℕ) (a p : ℕ) (h : a ≤ length u) (e : find (other (blank g)) u a ≡ p) where
  lead : a + length (leading (blank g) (drop a u)) ≡ p
  lead = omega (arith, find_ge (other (blank g)) u a, ap length (leading-is (blank g) u a h), length-slice a (find (other (blank g)) u a) u (find_le (other (blank g)) u a h))

  behind : beyond (blank g) (drop a u) ≡ drop p u
  behind = beyond-is (blank g) u a h ∙ ap (λ (k : ℕ). drop k u) e

  -- behind digits ds that end at j
  then_drop : (ds : List ℕ) (j : ℕ) → number_then g ds j (drop j u) ≡ cond (one_to_nine (length ds) && accepted_at g u j) (numbered ds (get_or u j 0) (j + 2) (length u) ∷ []) []
  then_drop ds j = ap (λ (l : List NumberedItem). cond (one_to_nine (length ds)) l []) (from_drop g (numbered ds) u j) ∙ by (one_to_nine (length ds)) (accepted_at g u j)
    where
      by : (x y : Bool) → cond x (cond y (numbered ds (get_or u j 0) (j + 2) (length u) ∷ []) []) [] ≡ cond (x && y) (numbered ds (get_or u j 0) (j + 2) (length u) ∷ []) []
      by true y = refl
      by false y = refl

  read_search : (j : ℕ) → p + length (read_digits (drop p u)) ≡ j
      → read_line g a (drop a u) ≡ cond (one_to_nine (length (read_digits (drop p u))) && accepted_at g u j) (numbered (read_digits (drop p u)) (get_or u j 0) (j + 2) (length u) ∷ []) []
  unfolding read_line
  read_search j f =
      ap (λ (k : ℕ). read_from g k (beyond (blank g) (drop a u))) lead
      ∙ ap (read_from g p) behind
      ∙ ap (number_then g (read_digits (drop p u)) (p + length (read_digits (drop p u)))) (drop-drop (length (read_digits (drop p u))) p u)
      ∙ ap (λ (k : ℕ). number_then g (read_digits (drop p u)) k (drop k u)) f
      ∙ then_drop (read_digits (drop p u)) j

  number_search : (j : ℕ) → p ≤ length u → find (other digit) u p ≡ j
      → number_line g a (drop a u) ≡ cond (one_to_nine (j - p) && accepted_at g u j) (numbered (slice p j u) (get_or u j 0) (j + 2) (length u) ∷ []) []
  unfolding number_line
  number_search j l f =
      let m = find_ge (other digit) u p in
      let n = find_le (other digit) u p l in
      let ds : leading digit (drop p u) ≡ slice p j u = leading-is digit u p l ∙ ap (λ (k : ℕ). slice p k u) f in
      let c : length (slice p j u) ≡ j - p = length-slice p j u (omega arith) in
      let k : p + length (slice p j u) ≡ j = omega arith in
      ap (λ (k : ℕ). number_from g k (beyond (blank g) (drop a u))) lead
      ∙ ap (number_from g p) behind
      ∙ ap (λ (d : List ℕ). number_then g d (p + length d) (beyond digit (drop p u))) ds
      ∙ ap (λ (k : ℕ). number_then g (slice p j u) k (beyond digit (drop p u))) k
      ∙ ap (number_then g (slice p j u) j) (beyond-is digit u p l ∙ ap (λ (k : ℕ). drop k u) f)
      ∙ then_drop (slice p j u) j
      ∙ ap (λ (k : ℕ). cond (one_to_nine k && accepted_at g u j) (numbered (slice p j u) (get_or u j 0) (j + 2) (length u) ∷ []) []) c

-- ---- the ways out of the line turn
module _ (eol sep tab : ℕ) (t : ℕ → Bool) (s : List ℕ) (q : ℕ)
    (e p i : ℕ) (r : DigitRun) (h : q < length s) (w : Sought (is eol) s q e) (v : Sought (other (either sep tab)) (take e s) q p) (d : Gives (digits_at p (read_digits (drop p (take e s)))) r) where
  size : length (take e s) ≡ e
  size = sym (line_size eol s q e w h)

  ds : List ℕ
  ds = read_digits (drop p (take e s))

  stop_at : p + length ds ≡ r.end
  unfolding ds
  stop_at = sym (ap (λ (k : DigitRun). k.end) d.answer)

  line_go : (one_to_nine (length ds) && accepted_at (grammar eol sep tab t) (take e s) r.end) ≡ false → Gives (next_line (length s) e) i → Gives (line_turn (grammar eol sep tab t) s q) (go i)
  unfolding ds
  line_go f l = record { answer = sym (read-line (grammar eol sep tab t) (read_line (grammar eol sep tab t)) s q e i [] h w (read_search (grammar eol sep tab t) (take e s) q p (line_reach eol s q e w h) (sym v.here) r.end stop_at ∙ simp f) l) }

  pub line_digitless : r.end ≤ p → Gives (next_line (length s) e) i → Gives (line_turn (grammar eol sep tab t) s q) (go i)
  line_digitless f = line_go (rw (le-ltb 0 (length ds) (omega (arith, stop_at))))

  pub line-short : e ≤ r.end → Gives (next_line (length s) e) i → Gives (line_turn (grammar eol sep tab t) s q) (go i)
  line-short f = line_go (rw (le-ltb (r.end + 1) (length (take e s)) (omega (arith, size))) (and-false (one_to_nine (length ds))))

  module _ (m : ℕ) (y : Bool) where
    tests : (z : Bool) → Gives (get_or (take e s) r.end 0) m → Gives (t m) y → Gives (holds (either sep tab) (take e s) (r.end + 1)) z → accepted_at (grammar eol sep tab t) (take e s) r.end ≡ (z && y)
    tests z = marked_tests (grammar eol sep tab t) (take e s) r.end m y z

    pub line-passed : y ≡ false → Gives (get_or (take e s) r.end 0) m → Gives (t m) y → Gives (next_line (length s) e) i → Gives (line_turn (grammar eol sep tab t) s q) (go i)
    line-passed f b a =
        line_go (rw (tests (holds (either sep tab) (take e s) (r.end + 1)) b a (record { answer = refl }), f, and-false (holds (either sep tab) (take e s) (r.end + 1))) (and-false (one_to_nine (length ds))))

    module _ (z : Bool) (f : y ≡ true) where
      pub line-bare : z ≡ false → Gives (get_or (take e s) r.end 0) m → Gives (t m) y → Gives (holds (either sep tab) (take e s) (r.end + 1)) z → Gives (next_line (length s) e) i
          → Gives (line_turn (grammar eol sep tab t) s q) (go i)
      line-bare c b a k = line_go (rw (tests z b a k, c) (and-false (one_to_nine (length ds))))

      pub line_found_lem : p < r.end → z ≡ true → Gives (get_or (take e s) r.end 0) m → Gives (t m) y → Gives (holds (either sep tab) (take e s) (r.end + 1)) z → Gives (next_line (length s) e) i
          → Gives (line_turn (grammar eol sep tab t) s q) (found (item r.number m (r.end + 2) e) i)
      unfolding ds
      line_found_lem j c b a k l = record {
        answer =
            sym (read-line (grammar eol sep tab t) (read_line (grammar eol sep tab t)) s q e i (item r.number m (r.end + 2) e ∷ []) h w
            (read_search (grammar eol sep tab t) (take e s) q p (line_reach eol s q e w h) (sym v.here) r.end stop_at
            ∙ rw (nine_yes (length ds) (omega (arith, stop_at)) (read_nine (drop p (take e s))), tests z b a k, c, f, size, ← b.answer)
            (ap (λ (n : ℕ). item n m (r.end + 2) e ∷ []) (sym (ap (λ (k : DigitRun). k.number) d.answer)))) l);
      }

pub ruleset line_rules = (read_none, line_digitless, line-short, line-passed, line-bare, line_found_lem)

-- ---- what either scan finds is headed by its delimiter, whatever the bytes are
abbrev pub Delimits : List ℕ → NumberedItem → Type 0
Delimits s i = Heads s i.delimiter i.span.start

module _ (g : ItemGrammar) (s : List ℕ) (q : ℕ) where
  hit_heads : (p n : ℕ) → OnFound (Delimits s) (stream_hit g s p n)
  hit_heads p n =
      let led = leads g.eol g.sep g.tab s (p - n) in
      let behind = holds (blank g) s (p + 1) in
      both (OnFound (Delimits s)) (one_to_nine n && (led && behind)) _ _
      (λ v. heads_at s p (holds_true (blank g) s (p + 1) (and_true led behind (and_true (one_to_nine n) (led && behind) v).1).1).0) (λ v. tt)

  pub stream_heads : OnFound (Delimits s) (stream_turn g s q)
  unfolding stream_turn
  stream_heads = hit_finds g (λ p. stream_hit g s p (back digit s p)) s (Delimits s) q (λ p y. hit_heads p (back digit s p))

  pub line_heads : OnFound (Delimits s) (line_turn g s q)
  line_heads =
      let e = line_end g.eol s q in
      let u = take e s in
      let p = find (other (blank g)) u q in
      let ds = read_digits (drop p u) in
      let j = p + length ds in
      read_finds g (read_line g) s (Delimits s) q
      (λ h. subst (Each (Delimits s)) (sym (read_search g u q p (line_low g.eol s q (omega arith)) refl j refl))
      (both (Each (Delimits s)) (one_to_nine (length ds) && accepted_at g u j) _ _
      (λ v. (heads_front g s e j (line-length g.eol s q (omega arith)) (and_true (one_to_nine (length ds)) (accepted_at g u j) v).1, tt)) (λ v. tt)))

-- ---- every turn moves on within the text
-- where an item's content lies that is found between q and n, behind its delimiter and the byte after that; and how large its number is
abbrev pub Lies : ℕ → ℕ → NumberedItem → Type 0
Lies q n i = (i.span.start ≤ i.span.end) × (i.span.end ≤ n) × (i.number < 1000000000) × (q + 2 ≤ i.span.start)

module _ (g : ItemGrammar) (s : List ℕ) where
  hit_ahead : (q p : ℕ) → q ≤ p → p < length s → Ahead Lies q (length s) (stream_hit g s p (back digit s p))
  hit_ahead q p h l =
      both (Ahead Lies q (length s)) (one_to_nine n && (leads g.eol g.sep g.tab s (p - n) && holds (blank g) s (p + 1))) _ _
      (λ u.
      let v = and_true (one_to_nine n) (leads g.eol g.sep g.tab s (p - n) && holds (blank g) s (p + 1)) u in
      let w = and_true (leads g.eol g.sep g.tab s (p - n)) (holds (blank g) s (p + 1)) v.1 in
      let m = (holds_true (blank g) s (p + 1) w.1).0 in
      let a = find_ge (is g.eol) s (p + 2) in
      let b = find_le (is g.eol) s (p + 2) (omega arith) in
      (omega arith, omega arith, (omega arith, omega arith, small v.0, omega arith)))
      (λ u. (omega arith, omega arith))
    where
      n : ℕ
      n = back digit s p

      small : one_to_nine n ≡ true → valued (slice (p - n) p s) < 1000000000
      small e = subst (λ (d : List ℕ). valued d < 1000000000) (back_read s p (omega arith) e) (digits_small (take 9 (slice (p - n) p s)) (read_nine (slice (p - n) p s)))

  pub stream_adv : Adv Lies (stream_turn g s) (length s)
  unfolding stream_turn
  stream_adv = hit_adv g (λ p. stream_hit g s p (back digit s p)) s Lies hit_ahead

  -- behind digits that write a small number
  then_most : (q e n k : ℕ) (ds l : List ℕ) → q ≤ k → k + length l ≡ e → e ≤ n → (one_to_nine (length ds) ≡ true → valued ds < 1000000000) → AtMost (Lies q n) (number_then g ds k l)
  then_most q e n k ds l c f m small = both (AtMost (Lies q n)) (one_to_nine (length ds)) _ _ (λ y. most_from g (numbered ds) (Lies q n) k l (λ x j a b. (a, omega arith, small y, omega arith))) (λ y. tt)

  pub read_most : (q e n : ℕ) (l : List ℕ) → q + length l ≡ e → e ≤ n → AtMost (Lies q n) (read_line g q l)
  unfolding read_line
  read_most q e n l f m =
      let r = beyond (blank g) l in
      let ds = read_digits r in
      then_most q e n (q + length (leading (blank g) l) + length ds) ds (drop (length ds) r) (omega arith)
      (omega (arith, leading-beyond (blank g) l, length-drop (length (read_digits (beyond (blank g) l))) (beyond (blank g) l), leading-beyond digit (take 9 (beyond (blank g) l)), length-take 9 (beyond (blank g) l))) m
      (λ y. digits_small (take 9 r) (read_nine r))

  pub line_adv : Adv Lies (line_turn g s) (length s)
  line_adv = read_adv g (read_line g) s Lies read_most

  -- ---- where no digit is accepted, the line scan's nine digits are all
  module _ (apart : NoDigit g) where
    same_from : (p : ℕ) (l : List ℕ) → read_from g p l ≡ number_from g p l
    same_from p l = by (decide (leb (length (leading digit l)) 9))
      where
        none : (k x : ℕ) (r : List ℕ) → digit x ≡ true → item_from g (numbered (read_digits l)) k (x ∷ r) ≡ []
        none k x [] e = refl
        none k x (y ∷ r) e = rw (apart x e)

        by : (leb (length (leading digit l)) 9 ≡ true) ⊎ (leb (length (leading digit l)) 9 ≡ false) → read_from g p l ≡ number_from g p l
        by (inl u) =
            let e = leading-few digit 9 l (leb-true (length (leading digit l)) 9 u) in
            ap (λ (d : List ℕ). number_then g d (p + length d) (drop (length d) l)) e ∙ ap (number_then g (leading digit l) (p + length (leading digit l))) (drop-leading digit l)
        by (inr u) =
            let w = leading_many digit 9 l (leb-false (length (leading digit l)) 9 u) in
            let x = w.1 in
            ap (λ (d : List ℕ). number_then g (read_digits l) (p + length (read_digits l)) d) (ap (λ (k : ℕ). drop k l) w.0 ∙ x.2)
            ∙ ap (λ (d : List NumberedItem). cond (one_to_nine (length (read_digits l))) d []) (none (p + length (read_digits l)) x.0 x.1 x.3)
            ∙ empty (one_to_nine (length (read_digits l)))
            ∙ sym (simp (u, and-false))
          where
            empty : (c : Bool) → cond {A = List NumberedItem} c [] [] ≡ []
            empty true = refl
            empty false = refl

    pub same_line : (a : ℕ) (l : List ℕ) → read_line g a l ≡ number_line g a l
    unfolding read_line number_line
    same_line a l = same_from (a + length (leading (blank g) l)) (beyond (blank g) l)

  -- ---- a line begins at a, has its digits from p up to j, and its delimiter at j
  pub record Has (a p j : ℕ) : Type 0 where
    pub leads : Led g s a p
    pub some : p < j
    pub most : j - p ≤ 9
    pub digits : (i : ℕ) → p ≤ i → i < j → digit (get_or s i 0) ≡ true
    pub ended : digit (get_or s j 0) ≡ false
    pub marks : Parted g s (line_end g.eol s a) j

  module _ (a : ℕ) (h : a ≤ length s) where
    abbrev u : List ℕ
    u = take (line_end g.eol s a) s

    -- a place has nothing, or has its digits and their delimiter
    number_cases : (item_at g (number_line g) s a ≡ []) ⊎ ((p : ℕ) × (j : ℕ) × Has a p j)
    number_cases = by (decide (line_start g.eol s a)) (decide (one_to_nine (j - p) && accepted_at g u j))
      where
        p : ℕ
        p = find (other (blank g)) u a

        j : ℕ
        j = find (other digit) u p

        high : p ≤ length u
        high = find_le (other (blank g)) u a (line_low g.eol s a h)

        by : (line_start g.eol s a ≡ true) ⊎ (line_start g.eol s a ≡ false) → ((one_to_nine (j - p) && accepted_at g u j) ≡ true) ⊎ ((one_to_nine (j - p) && accepted_at g u j) ≡ false)
            → (item_at g (number_line g) s a ≡ []) ⊎ ((p : ℕ) × (j : ℕ) × Has a p j)
        by (inr b) c = inl (no_line g (number_line g) s a b)
        by (inl b) (inr c) = inl (on_line g (number_line g) s a b ∙ number_search g u a p (line_low g.eol s a h) refl j high refl ∙ simp c)
        by (inl b) (inl c) =
            let e = line_end g.eol s a in
            let v = and_true (one_to_nine (j - p)) (accepted_at g u j) c in
            let o = one_to_nine_lem (j - p) v.0 in
            let w = marked_parted g s e j (line-length g.eol s a h) v.1 in
            let m = w.inside in
            inr (
              p,
              j,
              record {
                leads = led g s a h p (omega arith) b refl;
                some = omega arith;
                most = o.1;
                digits = λ i x l. sym (ap digit (get_or-take e s i 0 (omega arith))) ∙ other_false digit (get_or u i 0) (find_before (other digit) u p i x l);
                ended = sym (ap digit (get_or-take e s j 0 (omega arith))) ∙ other_true digit (get_or u j 0) (find_at (other digit) u p (omega (arith, line-length g.eol s a h)));
                marks = w;
              },
            )

    -- nothing, where an item would be absurd
    pub nothing : ((p j : ℕ) → Has a p j → ⊥) → item_at g (number_line g) s a ≡ []
    nothing n = ⊎_elim (λ e. e) (λ x. absurd (n x.0 x.1 x.2)) number_cases

    pub has_number : (p j : ℕ) → Has a p j → item_at g (number_line g) s a ≡ numbered (slice p j s) (get_or s j 0) (j + 2) (line_end g.eol s a) ∷ []
    has_number p j w =
        let e = line_end g.eol s a in
        let m = w.marks.inside in
        let o = w.some in
        let y : get_or u j 0 ≡ get_or s j 0 = get_or-take e s j 0 (omega arith) in
        let f : find (other (blank g)) u a ≡ p = led_find g s a h p (omega arith) w.leads in
        let k : find (other digit) u p ≡ j =
        find-is (other digit) u p j (omega arith) (omega (arith, line-length g.eol s a h)) (λ i b l. ap (other digit) (get_or-take e s i 0 (omega arith)) ∙ other_no digit (get_or s i 0) (w.digits i b l))
        (ap (other digit) y ∙ other_yes digit (get_or s j 0) w.ended) in
        let c : slice p j u ≡ slice p j s = ap (drop p) (take-take j e s (omega arith)) in
        on_line g (number_line g) s a w.leads.begins
        ∙ number_search g u a p (line_low g.eol s a h) f j (omega (arith, line-length g.eol s a h)) k
        ∙ rw (nine_yes (j - p) (omega arith) w.most, parted_marked g s e j (line-length g.eol s a h) w.marks, c, y, line-length g.eol s a h)

-- ---- the streaming scan answers for the places that it passes, where the bytes are apart
module _ (g : ItemGrammar) (s : List ℕ) (c : DigitsApart g) where
  blank-digit : (x : ℕ) → blank g x ≡ true → digit x ≡ false
  blank-digit x e = ⊎_elim (λ v. ap digit v ∙ c.sep_digit) (λ v. ap digit v ∙ c.tab_digit) (either_true g.sep g.tab x e)

  digit-blank : (x : ℕ) → digit x ≡ true → blank g x ≡ false
  digit-blank x e = ⊎_elim (λ v. absurd (clash e (blank-digit x v))) (λ v. v) (decide (blank g x))

  accepted-digit : (x : ℕ) → g.accepts x ≡ true → digit x ≡ false
  accepted-digit x e = ⊎_elim (λ v. absurd (clash e (c.not_digit x v))) (λ v. v) (decide (digit x))

  digit-inside : (x : ℕ) → digit x ≡ true → x ≡ g.eol → ⊥
  digit-inside x e f = clash e (ap digit f ∙ c.eol_digit)

  -- before an item's delimiter nothing on its line is accepted
  line_refused : (a p j k : ℕ) → Has g s a p j → a ≤ k → k < j → g.accepts (get_or s k 0) ≡ false
  line_refused a p j k w h l =
      ⊎_elim (λ (v : ltb k p ≡ true). blank-refused g c.apart (get_or s k 0) (w.leads.blanks k h (ltb-true k p v))) (λ v. c.not_digit (get_or s k 0) (w.digits k (ltb-false k p v) l)) (decide (ltb k p))

  -- the delimiter of a line that begins between q and the first accepted byte h from q on is that byte
  first_hit : (q h a p j : ℕ) → find g.accepts s q ≡ h → g.accepts (get_or s h 0) ≡ true → q ≤ a → a ≤ h → Has g s a p j → j ≡ h
  first_hit q h a p j f y l m w = by (decide (ltb j h)) (decide (ltb h j))
    where
      by : (ltb j h ≡ true) ⊎ (ltb j h ≡ false) → (ltb h j ≡ true) ⊎ (ltb h j ≡ false) → j ≡ h
      by (inl u) v = let x = ltb-true j h u in absurd (clash w.marks.accepted (find_before g.accepts s q j (omega (arith, w.leads.low, w.some)) (omega arith)))
      by (inr u) (inl v) = absurd (clash y (line_refused a p j h w m (ltb-true h j v)))
      by (inr u) (inr v) = omega (arith, ltb-false j h u, ltb-false h j v)

  -- an item's digits and blanks are what the scan walks back over
  before_digits : (a p j i : ℕ) → Has g s a p j → suc i ≡ p → digit (get_or s i 0) ≡ false
  before_digits a p j i w e = by (decide (ltb i a))
    where
      by : (ltb i a ≡ true) ⊎ (ltb i a ≡ false) → digit (get_or s i 0) ≡ false
      by (inl u) = let n : suc i ≡ a = omega (arith, ltb-true i a u, w.leads.low) in ap digit (start_after g.eol s a i w.leads.begins n) ∙ c.eol_digit
      by (inr u) = blank-digit (get_or s i 0) (w.leads.blanks i (ltb-false i a u) (omega arith))

  back-digits : (a p j : ℕ) → Has g s a p j → Walked digit s j p
  back-digits a p j w = record { low = omega (arith, w.some); all = w.digits; last = λ i e. before_digits a p j i w e }

  walked_to : (a r p : ℕ) → p < length s → Has g s a r p → (r ≡ p - back digit s p) × (a ≡ r - back (blank g) s r)
  walked_to a r p l w =
      let e : r ≡ p - back digit s p = walked_is digit s p r (p - back digit s p) (back-digits a r p w) (walked digit s p (omega arith)) in
      (e, walked_is (blank g) s r a (r - back (blank g) s r) (led_walked g c.apart s a r w.leads) (walked (blank g) s r (omega arith)))

  -- and what it walks back over, where its tests hold, is an item's
  stands : (p k a : ℕ) → p + 1 < length s → g.accepts (get_or s p 0) ≡ true → blank g (get_or s (p + 1) 0) ≡ true → k < p → p - k ≤ 9 → ((i : ℕ) → k ≤ i → i < p → digit (get_or s i 0) ≡ true)
      → Walked (blank g) s k a → line_start g.eol s a ≡ true → Has g s a k p × (line_end g.eol s a ≡ line_end g.eol s (p + 2))
  stands p k a h y sp lt most ds b st =
      let low = b.low in
      let e : line_end g.eol s a ≡ line_end g.eol s (p + 2) = find-over (is g.eol) s a (p + 2) (omega arith) (omega arith) (λ j x m. is_no g.eol (get_or s j 0) (inner j x m)) in
      let f = find_ge (is g.eol) s (p + 2) in (
        record {
          leads = record { begins = st; low = low; blanks = b.all; solid = digit-blank (get_or s k 0) (ds k (omega arith) lt) };
          some = lt;
          most = most;
          digits = ds;
          ended = accepted-digit (get_or s p 0) y;
          marks = record { inside = omega arith; accepted = y; parted = sp };
        },
        e,
      )
    where
      inner : (j : ℕ) → a ≤ j → j < p + 2 → get_or s j 0 ≡ g.eol → ⊥
      inner j u v f = side (decide (ltb j k)) (decide (ltb j p)) (decide (ltb p j))
        where
          side : (ltb j k ≡ true) ⊎ (ltb j k ≡ false) → (ltb j p ≡ true) ⊎ (ltb j p ≡ false) → (ltb p j ≡ true) ⊎ (ltb p j ≡ false) → ⊥
          side (inl x) z w = blank-inside g c.apart (get_or s j 0) (b.all j u (ltb-true j k x)) f
          side (inr x) (inl z) w = digit-inside (get_or s j 0) (ds j (ltb-false j k x) (ltb-true j p z)) f
          side (inr x) (inr z) (inl w) = let q : j ≡ p + 1 = omega (arith, ltb-true p j w) in blank-inside g c.apart (get_or s (p + 1) 0) sp (ap (λ (n : ℕ). get_or s n 0) (sym q) ∙ f)
          side (inr x) (inr z) (inr w) = let q : j ≡ p = omega (arith, ltb-false j p z, ltb-false p j w) in accepted-inside g c.apart (get_or s p 0) y (ap (λ (n : ℕ). get_or s n 0) (sym q) ∙ f)

  -- where the scan stands, the byte before is neither separator, tab nor digit: no line that began earlier has its delimiter from here on
  abbrev Past : ℕ → Type 0
  Past q = q < length s → (i : ℕ) → suc i ≡ q → (blank g (get_or s i 0) ≡ false) × (digit (get_or s i 0) ≡ false)

  past_hit : (p : ℕ) → g.accepts (get_or s p 0) ≡ true → Past (p + 1)
  past_hit p y h i e = let n : i ≡ p = omega arith in rw n (accepted-blank g c.apart (get_or s p 0) y, accepted-digit (get_or s p 0) y)

  past-line : (a : ℕ) → line_start g.eol s a ≡ true → Past a
  past-line a st h i e =
      let f = start_after g.eol s a i st e in
      (⊎_elim (λ u. absurd (blank-inside g c.apart (get_or s i 0) u f)) (λ u. u) (decide (blank g (get_or s i 0))), ap digit f ∙ c.eol_digit)

  failed : (q p : ℕ) → q ≤ p → p < length s → find g.accepts s q ≡ p → g.accepts (get_or s p 0) ≡ true → ((a r : ℕ) → a ≤ p → Has g s a r p → ⊥)
      → Covers (item_at g (number_line g) s) Past (length s) q (go (p + 1))
  failed q p h l f y never = (
    omega arith,
    omega arith,
    past_hit p y,
    λ a x z. nothing g s a (omega arith) (λ r j w. never a r (omega arith) (subst (Has g s a r) (first_hit q p a r j f y x (omega arith) w) w)),
  )

  hit_answers : (q p : ℕ) → q ≤ p → p < length s → find g.accepts s q ≡ p → Past q → g.accepts (get_or s p 0) ≡ true → Covers (item_at g (number_line g) s) Past (length s) q (stream_hit g s p (back digit s p))
  unfolding leads
  hit_answers q p h l f i y =
      both (Covers (item_at g (number_line g) s) Past (length s) q) (one_to_nine n && (line_start g.eol s b && holds (blank g) s (p + 1))) _ _
      (λ u.
      let v = and_true (one_to_nine n) (line_start g.eol s b && holds (blank g) s (p + 1)) u in
      let o = one_to_nine_lem n v.0 in
      let w = and_true (line_start g.eol s b) (holds (blank g) s (p + 1)) v.1 in
      let m = holds_true (blank g) s (p + 1) w.1 in
      let t : n ≤ p = back_le digit s p in
      let x = stands p k b m.0 y m.1 (omega arith) (omega arith) bd.all bb w.0 in
      let z = find_ge (is g.eol) s (p + 2) in
      let low = bb.low in (
        omega arith,
        (λ d. past-line (after_line g.eol s (p + 2)) (line-next g.eol s (p + 2) (omega arith) d) d),
        b,
        ahead (omega arith) (decide (ltb b q)),
        omega arith,
        has_number g s b (omega arith) k p x.0 ∙ ap (λ (e : ℕ). numbered (slice k p s) (get_or s p 0) (p + 2) e ∷ []) x.1,
        (λ a d e. nothing g s a (omega arith) (λ r j r'.
            let w' = subst (Has g s a r) (first_hit q p a r j f y d (omega arith) r') r' in
            let d' = walked_to a r p l w' in
            let e' : a ≡ b = d'.1 ∙ ap (λ (j : ℕ). j - back (blank g) s j) d'.0 in
            omega arith)),
        (λ a d e. line-rest g (number_line g) s b b (omega arith) (omega arith) a d (omega (arith, x.1))),
      ))
      (λ u. failed q p h l f y (λ a r m w. clash (tests a r m w) u))
    where
      n : ℕ
      n = back digit s p

      k : ℕ
      k = p - n

      b : ℕ
      b = k - back (blank g) s k

      bd : Walked digit s p k
      bd = walked digit s p (omega arith)

      bb : Walked (blank g) s k b
      bb = walked (blank g) s k (omega arith)

      tests : (a r : ℕ) → a ≤ p → Has g s a r p → (one_to_nine n && (line_start g.eol s b && holds (blank g) s (p + 1))) ≡ true
      tests a r x w =
          let d = walked_to a r p l w in
          let e : b ≡ a = sym (d.1 ∙ ap (λ (j : ℕ). j - back (blank g) s j) d.0) in
          let m : p + 1 < length s = omega (arith, w.marks.inside, find_le (is g.eol) s a (omega arith)) in
          let o : one_to_nine n ≡ true = nine_yes n (omega (arith, w.some)) (omega (arith, w.most, back_le digit s p)) in
          rw (o, e, w.leads.begins) (holds_in (blank g) s (p + 1) m ∙ w.marks.parted)

      ahead : k < p → (ltb b q ≡ true) ⊎ (ltb b q ≡ false) → q ≤ b
      ahead lt (inl u) =
          let m = ltb-true b q u in
          let e : suc (q - 1) ≡ q = omega arith in
          let z = i (omega arith) (q - 1) e in
          absurd (⊎_elim (λ (v : ltb (q - 1) k ≡ true). clash (bb.all (q - 1) (omega arith) (ltb-true (q - 1) k v)) z.0)
          (λ v. clash (bd.all (q - 1) (ltb-false (q - 1) k v) (omega arith)) z.1) (decide (ltb (q - 1) k)))
      ahead lt (inr u) = ltb-false b q u

  stream_covers : (q : ℕ) → q ≤ length s → Past q → Covers (item_at g (number_line g) s) Past (length s) q (stream_turn g s q)
  unfolding stream_turn
  stream_covers =
      hit_covers g (λ p. stream_hit g s p (back digit s p)) s (item_at g (number_line g) s) Past hit_answers
      (λ q l a x y. nothing g s a (omega arith) (λ r j w.
      let e = w.marks.inside in
      let m = find_le (is g.eol) s a (omega arith) in
      clash w.marks.accepted (find_before g.accepts s q j (omega (arith, w.leads.low, w.some)) (omega arith))))

  -- ---- both scans find the items of the lines, from the text's start
  -- the streaming scan by every grammar whose bytes are apart
  pub streamed_items : all_found (stream_turn g s) (length s) 0 ≡ numbers g s
  unfolding items_of
  streamed_items = collect-covers (stream_turn g s) (item_at g (number_line g) s) Past (length s) stream_covers (suc (length s)) 0 (omega arith) (omega arith) (λ l i e. absurd (omega arith))

-- the line scan by every grammar, as it reads a line
pub lined_read : (g : ItemGrammar) (s : List ℕ) → all_found (line_turn g s) (length s) 0 ≡ items_of g (read_line g) s
lined_read g s = read-items g (read_line g) s Lies (read_most g s)

-- and by every grammar that accepts no digit, the items of the page
pub lined_items : (g : ItemGrammar) (s : List ℕ) → NoDigit g → all_found (line_turn g s) (length s) 0 ≡ numbers g s
lined_items g s apart = lined_read g s ∙ ap (λ (f : ℕ → List ℕ → List NumberedItem). items_of g f s) (fun_ext (λ a. fun_ext (same_line g s apart a)))

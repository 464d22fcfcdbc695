-- Laws of the marker items: the item of a line by searches, the ways out of the turns, and that both scans find the items of the lines. Assumes nothing.
use Rattle.std.specs.Prelude.{◌≡◌, refl, Bool, true, false, cond, ◌&&◌, List, [], ◌∷◌, ◌⊎◌, ltb, get_or, take}
use Rattle.std.proofs.Math.Path.{sym, ap}
use Rattle.std.proofs.Common.{subst, ◌∙◌, inl, inr, ⊎_elim, get_or-take}
use Rattle.std.proofs.Math.Bool.{and-false}
use Prim.Native.Nat.{ℕ, suc, ◌+◌, ◌-◌, ◌≤◌, ◌<◌}
use native.Mathlib.Omega.{arith}
use Rattle.std.proofs.Math.ListN.{length, drop}
use Rattle.std.proofs.Math.Seq.{length-slice}
use borrow.Author.Tests.{lt-ltb, le-ltb, ltb-true, ltb-false}
use Rattle.search.specs.Promise.{Gives}
use Rattle.search.specs.Search.{is, either, other, holds, find, Sought, back, line_start, line_end, next_line, after_line}
use Rattle.search.specs.SearchLaws.{decide, clash, and_true, is_no, holds_in, holds_true, find_ge, find_le, find_before, find-over, line-next}
use Rattle.common.specs.Turn.{Turn, go, stop, found, all_found, None}
use Rattle.common.specs.Turning.{Ahead, Adv, Each, OnFound, Covers}
use Rattle.common.specs.TurnLaws.{collect-covers}
use Rattle.common.specs.Items.{ItemGrammar, grammar, blank, Apart, leading, beyond, leads, item_from, item_at, items_of}
use Rattle.common.specs.ItemLaws.{both, leading-is, beyond-is, leading-beyond, accepted_at, from_drop, marked_tests, Parted, marked_parted, parted_marked, Heads, heads_at, heads_front, AtMost, most_from, Walked, walked, walked_is, start_after, AtLine, at_start, line_size, line-length, line_low, Led, led, led_find, led_walked, no_line, on_line, line-rest, line_reach, read_none, read-line, read_finds, read_adv, read-items, hit_adv, hit_finds, hit_covers, blank-refused, accepted-blank, blank-inside, accepted-inside}
use Rattle.block_marker.specs.Marker.{mark, mark_line, markers, stream_hit, HitSays, stream_turn, line_turn}
use Rattle.block_marker.specs.declared.MarkerItem.{MarkerItem}

-- ---- the item of a line by searches: u is the text up to the line's end, p the first byte from a on that is no separator or tab
module _ (g : ItemGrammar) (u : List ℕ) (a p : ℕ) (h : a ≤ length u) (e : find (other (blank g)) u a ≡ p) where
  mark_search : mark_line g a (drop a u) ≡ cond (accepted_at g u p) (mark (get_or u p 0) (p + 2) (length u) ∷ []) []
  unfolding mark_line
  mark_search =
      let l = find_ge (other (blank g)) u a in
      let m = find_le (other (blank g)) u a h in
      let k : a + length (leading (blank g) (drop a u)) ≡ p = omega (arith, ap length (leading-is (blank g) u a h), length-slice a (find (other (blank g)) u a) u m) in
      ap (λ (k : ℕ). item_from g mark k (beyond (blank g) (drop a u))) k ∙ ap (item_from g mark p) (beyond-is (blank g) u a h ∙ ap (λ (k : ℕ). drop k u) e) ∙ from_drop g mark u p

  mark_yes : accepted_at g u p ≡ true → mark_line g a (drop a u) ≡ mark (get_or u p 0) (p + 2) (length u) ∷ []
  mark_yes y = mark_search ∙ simp y

  mark_no : accepted_at g u p ≡ false → mark_line g a (drop a u) ≡ []
  mark_no y = mark_search ∙ simp y

-- ---- the ways out of a hit, whatever the scan accepts
module _ (eol sep tab : ℕ) (s : List ℕ) (p : ℕ) (y : Bool) (g : Gives (leads eol sep tab s p) y) where
  pub hit_passed : (e n : ℕ) → y ≡ false → Sought (is eol) s p e → Gives (next_line (length s) e) n → HitSays eol sep tab s p (go n)
  hit_passed e n f x m = record { hit = λ t. record { answer = simp (← g.answer, f, ← x.here, ← m.answer) } }

  module _ (z : Bool) (f : y ≡ true) (k : Gives (holds (either sep tab) s (p + 1)) z) where
    pub hit_bare : (e n : ℕ) → z ≡ false → Sought (is eol) s p e → Gives (next_line (length s) e) n → HitSays eol sep tab s p (go n)
    hit_bare e n c x m = record { hit = λ t. record { answer = simp (← g.answer, f, ← k.answer, c, ← x.here, ← m.answer) } }

    pub hit_found : (e n m : ℕ) → z ≡ true → Sought (is eol) s (p + 2) e → Gives (next_line (length s) e) n → Gives (get_or s p 0) m → HitSays eol sep tab s p (found (mark m (p + 2) e) n)
    hit_found e n m c x l b = record { hit = λ t. record { answer = simp (← g.answer, f, ← k.answer, c, ← x.here, ← l.answer, ← b.answer) } }

pub ruleset hit_rules = (hit_passed, hit_bare, hit_found)

-- ---- the ways out of the streaming turn
module _ (eol sep tab : ℕ) (t : ℕ → Bool) (s : List ℕ) (q p : ℕ) where
  pub stream_none : length s ≤ p → Sought t s q p → Gives (stream_turn (grammar eol sep tab t) s q) (stop q)
  unfolding stream_turn
  stream_none h w = record { answer = simp (← w.here, le-ltb p (length s) h) }

  pub stream_hit_lem : (v : Turn MarkerItem) → p < length s → Sought t s q p → HitSays eol sep tab s p v → Gives (stream_turn (grammar eol sep tab t) s q) v
  unfolding stream_turn
  stream_hit_lem v h w g = record { answer = (g.hit t).answer ∙ sym (simp (← w.here, lt-ltb p (length s) h)) }

pub ruleset stream_rules = (stream_none, stream_hit_lem)

-- ---- the ways out of the line turn
module _ (eol sep tab : ℕ) (t : ℕ → Bool) (s : List ℕ) (q : ℕ)
    (e p : ℕ) (h : q < length s) (w : Sought (is eol) s q e) (v : Sought (other (either sep tab)) (take e s) q p) where
  size : length (take e s) ≡ e
  size = sym (line_size eol s q e w h)

  line_go : (n : ℕ) → accepted_at (grammar eol sep tab t) (take e s) p ≡ false → Gives (next_line (length s) e) n → Gives (line_turn (grammar eol sep tab t) s q) (go n)
  line_go n f l = record {
    answer = sym (read-line (grammar eol sep tab t) (mark_line (grammar eol sep tab t)) s q e n [] h w (mark_no (grammar eol sep tab t) (take e s) q p (line_reach eol s q e w h) (sym v.here) f) l);
  }

  pub line-blank : (n : ℕ) → e ≤ p → Gives (next_line (length s) e) n → Gives (line_turn (grammar eol sep tab t) s q) (go n)
  line-blank n i = line_go n (rw (le-ltb (p + 1) (length (take e s)) (omega (arith, size))))

  module _ (m n : ℕ) (y : Bool) where
    tests : (z : Bool) → Gives (get_or (take e s) p 0) m → Gives (t m) y → Gives (holds (either sep tab) (take e s) (p + 1)) z → accepted_at (grammar eol sep tab t) (take e s) p ≡ (z && y)
    tests z = marked_tests (grammar eol sep tab t) (take e s) p m y z

    pub line-passed : y ≡ false → Gives (get_or (take e s) p 0) m → Gives (t m) y → Gives (next_line (length s) e) n → Gives (line_turn (grammar eol sep tab t) s q) (go n)
    line-passed f b a = line_go n (tests (holds (either sep tab) (take e s) (p + 1)) b a (record { answer = refl }) ∙ rw f (and-false (holds (either sep tab) (take e s) (p + 1))))

    module _ (z : Bool) (f : y ≡ true) where
      pub line-bare : z ≡ false → Gives (get_or (take e s) p 0) m → Gives (t m) y → Gives (holds (either sep tab) (take e s) (p + 1)) z → Gives (next_line (length s) e) n → Gives (line_turn (grammar eol sep tab t) s q) (go n)
      line-bare c b a k = line_go n (tests z b a k ∙ rw c)

      pub line_found_lem : z ≡ true → Gives (get_or (take e s) p 0) m → Gives (t m) y → Gives (holds (either sep tab) (take e s) (p + 1)) z → Gives (next_line (length s) e) n
          → Gives (line_turn (grammar eol sep tab t) s q) (found (mark m (p + 2) e) n)
      line_found_lem c b a k l = record {
        answer =
            sym (read-line (grammar eol sep tab t) (mark_line (grammar eol sep tab t)) s q e n (mark m (p + 2) e ∷ []) h w
            (mark_yes (grammar eol sep tab t) (take e s) q p (line_reach eol s q e w h) (sym v.here) (tests z b a k ∙ rw (c, f)) ∙ rw (size, b.answer)) l);
      }

pub ruleset line_rules = (read_none, line-blank, line-passed, line-bare, line_found_lem)

-- ---- what either scan finds is headed by its marker, whatever the bytes are
abbrev pub Marks : List ℕ → MarkerItem → Type 0
Marks s i = Heads s i.marker i.span.start

module _ (g : ItemGrammar) (s : List ℕ) (q : ℕ) where
  pub stream_heads : OnFound (Marks s) (stream_turn g s q)
  unfolding stream_turn
  stream_heads =
      hit_finds g (stream_hit g s) s (Marks s) q
      (λ p y. both (OnFound (Marks s)) (leads g.eol g.sep g.tab s p && holds (blank g) s (p + 1)) _ _
      (λ v. heads_at s p (holds_true (blank g) s (p + 1) (and_true (leads g.eol g.sep g.tab s p) (holds (blank g) s (p + 1)) v).1).0) (λ v. tt))

  pub line_heads : OnFound (Marks s) (line_turn g s q)
  line_heads =
      let e = line_end g.eol s q in
      let u = take e s in
      let p = find (other (blank g)) u q in
      read_finds g (mark_line g) s (Marks s) q
      (λ h. subst (Each (Marks s)) (sym (mark_search g u q p (line_low g.eol s q (omega arith)) refl))
      (both (Each (Marks s)) (accepted_at g u p) _ _ (λ v. (heads_front g s e p (line-length g.eol s q (omega arith)) v, tt)) (λ v. tt)))

-- ---- every turn moves on within the text
-- where an item's content lies that is found between q and n: behind its marker and the byte after that
abbrev pub Lies : ℕ → ℕ → MarkerItem → Type 0
Lies q n i = (i.span.start ≤ i.span.end) × (i.span.end ≤ n) × (q + 2 ≤ i.span.start)

module _ (g : ItemGrammar) (s : List ℕ) where
  hit_ahead : (q p : ℕ) → q ≤ p → p < length s → Ahead Lies q (length s) (stream_hit g s p)
  hit_ahead q p h l =
      both (Ahead Lies q (length s)) (leads g.eol g.sep g.tab s p && holds (blank g) s (p + 1)) _ _
      (λ u.
      let v = and_true (leads g.eol g.sep g.tab s p) (holds (blank g) s (p + 1)) u in
      let m = (holds_true (blank g) s (p + 1) v.1).0 in
      let a = find_ge (is g.eol) s (p + 2) in
      let b = find_le (is g.eol) s (p + 2) (omega arith) in
      (omega arith, omega arith, (omega arith, omega arith, omega arith)))
      (λ u. let a = find_ge (is g.eol) s p in (omega arith, omega arith))

  pub stream_adv : Adv Lies (stream_turn g s) (length s)
  unfolding stream_turn
  stream_adv = hit_adv g (stream_hit g s) s Lies hit_ahead

  pub mark_most : (q e n : ℕ) (l : List ℕ) → q + length l ≡ e → e ≤ n → AtMost (Lies q n) (mark_line g q l)
  unfolding mark_line
  mark_most q e n l f m = most_from g mark (Lies q n) (q + length (leading (blank g) l)) (beyond (blank g) l) (λ x k a b. (a, omega (arith, leading-beyond (blank g) l), omega arith))

  pub line_adv : Adv Lies (line_turn g s) (length s)
  line_adv = read_adv g (mark_line g) s Lies mark_most

  -- ---- a line begins at a and has its marker at p
  pub record Has (a p : ℕ) : Type 0 where
    pub leads : Led g s a p
    pub marks : Parted g s (line_end g.eol s a) p

  module _ (a : ℕ) (h : a ≤ length s) where
    abbrev u : List ℕ
    u = take (line_end g.eol s a) s

    -- a place has nothing, or has its marker
    mark_cases : (item_at g (mark_line g) s a ≡ []) ⊎ ((p : ℕ) × Has a p)
    mark_cases = by (decide (line_start g.eol s a)) (decide (accepted_at g u p))
      where
        p : ℕ
        p = find (other (blank g)) u a

        by : (line_start g.eol s a ≡ true) ⊎ (line_start g.eol s a ≡ false) → (accepted_at g u p ≡ true) ⊎ (accepted_at g u p ≡ false) → (item_at g (mark_line g) s a ≡ []) ⊎ ((p : ℕ) × Has a p)
        by (inr b) c = inl (no_line g (mark_line g) s a b)
        by (inl b) (inr c) = inl (on_line g (mark_line g) s a b ∙ mark_no g u a p (line_low g.eol s a h) refl c)
        by (inl b) (inl c) =
            let e = line_end g.eol s a in
            let w = marked_parted g s e p (line-length g.eol s a h) c in
            let m = w.inside in
            inr (
              p,
              record {
                leads = led g s a h p (omega arith) b refl;
                marks = w;
              },
            )

    -- nothing, where a marker would be absurd
    pub nothing : ((p : ℕ) → Has a p → ⊥) → item_at g (mark_line g) s a ≡ []
    nothing n = ⊎_elim (λ e. e) (λ x. absurd (n x.0 x.1)) mark_cases

    pub has-mark : (p : ℕ) → Has a p → item_at g (mark_line g) s a ≡ mark (get_or s p 0) (p + 2) (line_end g.eol s a) ∷ []
    has-mark p w =
        let e = line_end g.eol s a in
        let m = w.marks.inside in
        let x : get_or u p 0 ≡ get_or s p 0 = get_or-take e s p 0 (omega arith) in
        let f : find (other (blank g)) u a ≡ p = led_find g s a h p (omega arith) w.leads in
        on_line g (mark_line g) s a w.leads.begins ∙ mark_yes g u a p (line_low g.eol s a h) f (parted_marked g s e p (line-length g.eol s a h) w.marks) ∙ rw (line-length g.eol s a h, x)

-- ---- the streaming scan answers for the places that it passes, where the bytes are apart
module _ (g : ItemGrammar) (s : List ℕ) (apart : Apart g) where
  -- the marker of a line that begins between q and the first accepted byte p from q on is that byte
  first_hit : (q p a r : ℕ) → find g.accepts s q ≡ p → g.accepts (get_or s p 0) ≡ true → q ≤ a → a ≤ p → Has g s a r → r ≡ p
  first_hit q p a r f y h l w = by (decide (ltb r p)) (decide (ltb p r))
    where
      by : (ltb r p ≡ true) ⊎ (ltb r p ≡ false) → (ltb p r ≡ true) ⊎ (ltb p r ≡ false) → r ≡ p
      by (inl u) v = let m = ltb-true r p u in absurd (clash w.marks.accepted (find_before g.accepts s q r (omega (arith, w.leads.low)) (omega arith)))
      by (inr u) (inl v) = let m = ltb-true p r v in absurd (clash y (blank-refused g apart (get_or s p 0) (w.leads.blanks p l m)))
      by (inr u) (inr v) = omega (arith, ltb-false r p u, ltb-false p r v)

  -- and the line begins where the blanks before it do
  first-line : (p a k : ℕ) → Walked (blank g) s p k → Has g s a p → a ≡ k
  first-line p a k b w = walked_is (blank g) s p a k (led_walked g apart s a p w.leads) b

  -- an accepted byte p, with blanks back to where a line begins and one behind it, is the marker of that line
  leads-line : (p k : ℕ) → Walked (blank g) s p k → line_start g.eol s k ≡ true → p + 1 < length s → g.accepts (get_or s p 0) ≡ true → blank g (get_or s (p + 1) 0) ≡ true
      → Has g s k p × (line_end g.eol s k ≡ line_end g.eol s (p + 2))
  leads-line p k b st l y sp =
      let low = b.low in
      let e : line_end g.eol s k ≡ line_end g.eol s (p + 2) = find-over (is g.eol) s k (p + 2) (omega arith) (omega arith) (λ j h m. is_no g.eol (get_or s j 0) (inner j h m)) in
      let f = find_ge (is g.eol) s (p + 2) in
      (record { leads = record { begins = st; low = low; blanks = b.all; solid = accepted-blank g apart (get_or s p 0) y }; marks = record { inside = omega arith; accepted = y; parted = sp } }, e)
    where
      inner : (j : ℕ) → k ≤ j → j < p + 2 → get_or s j 0 ≡ g.eol → ⊥
      inner j h m f = side (decide (ltb j p)) (decide (ltb p j))
        where
          side : (ltb j p ≡ true) ⊎ (ltb j p ≡ false) → (ltb p j ≡ true) ⊎ (ltb p j ≡ false) → ⊥
          side (inl u) v = blank-inside g apart (get_or s j 0) (b.all j h (ltb-true j p u)) f
          side (inr u) (inl v) = let q : j ≡ p + 1 = omega (arith, ltb-true p j v) in blank-inside g apart (get_or s (p + 1) 0) sp (ap (λ (n : ℕ). get_or s n 0) (sym q) ∙ f)
          side (inr u) (inr v) = let q : j ≡ p = omega (arith, ltb-false j p u, ltb-false p j v) in accepted-inside g apart (get_or s p 0) y (ap (λ (n : ℕ). get_or s n 0) (sym q) ∙ f)

  -- a hit p that is no marker rules out every line up to the end of its own
  failed : (q p : ℕ) → q ≤ p → p < length s → find g.accepts s q ≡ p → g.accepts (get_or s p 0) ≡ true → ((a : ℕ) → a ≤ p → Has g s a p → ⊥)
      → Covers (item_at g (mark_line g) s) (AtLine g.eol s) (length s) q (go (after_line g.eol s p))
  failed q p h l f y never = let e = find_ge (is g.eol) s p in (omega arith, omega arith, line-next g.eol s p (omega arith), none)
    where
      none : None (item_at g (mark_line g) s) q (after_line g.eol s p)
      none a x z = side (decide (ltb p a))
        where
          side : (ltb p a ≡ true) ⊎ (ltb p a ≡ false) → item_at g (mark_line g) s a ≡ []
          side (inl u) = line-rest g (mark_line g) s p p (omega arith) (omega arith) a (ltb-true p a u) z
          side (inr u) =
              let m = ltb-false p a u in
              nothing g s a (omega arith) (λ r w. never a m (subst (Has g s a) (first_hit q p a r f y x m w) w))

  hit_answers : (q p : ℕ) → q ≤ p → p < length s → find g.accepts s q ≡ p → AtLine g.eol s q → g.accepts (get_or s p 0) ≡ true → Covers (item_at g (mark_line g) s) (AtLine g.eol s) (length s) q (stream_hit g s p)
  unfolding leads
  hit_answers q p h l f i y =
      both (Covers (item_at g (mark_line g) s) (AtLine g.eol s) (length s) q) (line_start g.eol s k && holds (blank g) s (p + 1)) _ _
      (λ u.
      let v = and_true (line_start g.eol s k) (holds (blank g) s (p + 1)) u in
      let m = holds_true (blank g) s (p + 1) v.1 in
      let w = leads-line p k b v.0 m.0 y m.1 in
      let x = find_ge (is g.eol) s (p + 2) in
      let low = b.low in
      let from : q ≤ k = ahead (decide (ltb k q)) in (
        omega arith,
        line-next g.eol s (p + 2) (omega arith),
        k,
        from,
        omega arith,
        has-mark g s k (omega arith) p w.0 ∙ ap (λ (e : ℕ). mark (get_or s p 0) (p + 2) e ∷ []) w.1,
        (λ a c d. nothing g s a (omega arith) (λ r z.
            let e = first-line p a k b (subst (Has g s a) (first_hit q p a r f y c (omega arith) z) z) in
            omega arith)),
        (λ a c d. line-rest g (mark_line g) s k k (omega arith) (omega arith) a c (omega (arith, w.1))),
      ))
      (λ u. failed q p h l f y (λ a m w. clash (tests a w) u))
    where
      k : ℕ
      k = p - back (blank g) s p

      b : Walked (blank g) s p k
      b = walked (blank g) s p (omega arith)

      tests : (a : ℕ) → Has g s a p → (line_start g.eol s k && holds (blank g) s (p + 1)) ≡ true
      tests a w =
          let e = first-line p a k b w in
          let m : p + 1 < length s = omega (arith, w.marks.inside, w.leads.low, find_le (is g.eol) s a (omega (arith, w.leads.low))) in
          rw (← e, w.leads.begins) (holds_in (blank g) s (p + 1) m ∙ w.marks.parted)

      ahead : (ltb k q ≡ true) ⊎ (ltb k q ≡ false) → q ≤ k
      ahead (inl u) =
          let m = ltb-true k q u in
          let n : suc (q - 1) ≡ q = omega arith in
          absurd (blank-inside g apart (get_or s (q - 1) 0) (b.all (q - 1) (omega arith) (omega arith)) (start_after g.eol s q (q - 1) (i (omega arith)) n))
      ahead (inr u) = ltb-false k q u

  pub stream_covers : (q : ℕ) → q ≤ length s → AtLine g.eol s q → Covers (item_at g (mark_line g) s) (AtLine g.eol s) (length s) q (stream_turn g s q)
  unfolding stream_turn
  stream_covers =
      hit_covers g (stream_hit g s) s (item_at g (mark_line g) s) (AtLine g.eol s) hit_answers
      (λ q l a x y. nothing g s a (omega arith) (λ r w.
      let e = w.marks.inside in
      let m = find_le (is g.eol) s a (omega arith) in
      clash w.marks.accepted (find_before g.accepts s q r (omega (arith, w.leads.low)) (omega arith))))

-- ---- both scans find the items of the lines, from the text's start
-- the line scan by every grammar
pub lined_items : (g : ItemGrammar) (s : List ℕ) → all_found (line_turn g s) (length s) 0 ≡ markers g s
lined_items g s = read-items g (mark_line g) s Lies (mark_most g s)

-- the streaming scan by every grammar whose bytes are apart
pub streamed_items : (g : ItemGrammar) (s : List ℕ) → Apart g → all_found (stream_turn g s) (length s) 0 ≡ markers g s
unfolding items_of
streamed_items g s apart =
    collect-covers (stream_turn g s) (item_at g (mark_line g) s) (AtLine g.eol s) (length s) (stream_covers g s apart) (suc (length s)) 0 (omega arith) (omega arith) (at_start g.eol s)

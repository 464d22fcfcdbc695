-- The list that edits at joints leave is the list of the finished text; over any builder that joins, with any tag. Assumes nothing.
-- The page: "mission demand 3 adds that the old list was built from the old text", here of any number of edits.
use Rattle.std.specs.Prelude.{◌≡◌, true, false, not, ◌&&◌, ◌⊎◌, ℕ, ◌+◌, ◌-◌, ◌≤◌, ◌<◌, eqb, ltb, leb, get_or}
use Rattle.std.proofs.Math.Path.{sym, ap}
use Rattle.std.proofs.Common.{◌∙◌, inl, inr, ⊎_elim, take-append-drop, length-take, length-drop, get_or-take, get_or-drop, drop-drop, ltb-true, ltb-false, leb-true, eqb-true}
use mathlib.Core.List.{List, [], ◌∷◌, ◌++◌, map, append-nil}
use native.Mathlib.Omega.{arith}
use Rattle.std.proofs.Math.ListN.{length, drop, drop_of_length-le}
use Rattle.std.proofs.lemmas.Bool.{not-true}
use Rattle.search.specs.Search.{is, holds}
use Rattle.search.specs.SearchLaws.{decide, clash, and_true, is_true, holds_true, neither}
use Rattle.region.specs.Region.{Region, move, up, reaches, keep_before, keep_from}
use Rattle.joint.specs.Joint.{after_empty_line}
use Rattle.amend.specs.Amend.{Edit, joint, Joint}
use Rattle.amend.specs.Several.{part, finished, relist, EndsAtJoint, Fits, none, last, next}
use Rattle.amend.specs.Joins.{Blank, Joins}
use Rattle.amend.specs.Lists.{up-append, up_up, up_zero, move_up, stay, reaches-append, reaches-up, reaches_zero, before_all, from_all, from_none, from_zero, before_up}

-- ---- what the test of a joint tells
pub record Cut {T : Type 0} (eol : ℕ) (s : List ℕ) (l : List (Region T)) (k : ℕ) : Type 0 where
  pub high : k ≤ length s
  pub two : 0 < k → (2 ≤ k) × (get_or s (k - 1) 0 ≡ eol) × (get_or s (k - 2) 0 ≡ eol)
  pub clear : reaches k l ≡ false

module _ {T : Type 0} (eol : ℕ) (s : List ℕ) where
  pub joint-cut : (l : List (Region T)) (k : ℕ) → Joint eol s l k → Cut eol s l k
  unfolding joint
  joint-cut l k j = by (decide (eqb k 0))
    where
      w : (after_empty_line eol s k ≡ true) × (not (reaches k l) ≡ true)
      w = and_true (after_empty_line eol s k) (not (reaches k l)) j

      by : (eqb k 0 ≡ true) ⊎ (eqb k 0 ≡ false) → Cut eol s l k
      by (inl u) = let z = eqb-true k 0 u in record { high = omega arith; two = λ h. absurd (omega arith); clear = not-true (reaches k l) w.1 }
      by (inr u) =
          let v = and_true (leb 2 k) (holds (is eol) s (k - 1) && holds (is eol) s (k - 2)) (rw u at w.0) in
          let x = and_true (holds (is eol) s (k - 1)) (holds (is eol) s (k - 2)) v.1 in
          let y = holds_true (is eol) s (k - 1) x.0 in
          let z = holds_true (is eol) s (k - 2) x.1 in
          record { high = omega arith; two = λ h. (leb-true 2 k v.0, is_true eol (get_or s (k - 1) 0) y.1, is_true eol (get_or s (k - 2) 0) z.1); clear = not-true (reaches k l) w.1 }

  pub joint_zero : (l : List (Region T)) → Joint eol s l 0
  unfolding joint
  joint_zero l = rw (reaches_zero l)

-- ---- what one edit writes, whatever the list: "regions starting before the first cut; the replacement's own moved up by the first cut; … regions
-- starting at or after [the second] moved by the change in length"
module _ {T : Type 0} (build : List ℕ → List (Region T)) where
  pub relist_one : (e : Edit) (l : List (Region T))
      → relist build 0 0 (e ∷ []) l ≡ keep_before e.first l ++ (up e.first (build e.text) ++ map (move (λ x. x + (e.first + length e.text) - e.second)) (keep_from e.second l))
  unfolding relist
  relist_one e l =
      let z : 0 + (e.first - 0) ≡ e.first = omega arith in
      rw (z, from_zero, stay)

-- ---- parts of a text
module _ (s : List ℕ) (q i : ℕ) (h : q ≤ i) where
  pub part_length : i ≤ length s → length (part q i s) ≡ i - q
  part_length l = omega (arith, length-take (i - q) (drop q s), length-drop q s)

  -- the byte d places before the part's end
  part_byte : (d : ℕ) → 0 < d → q + d ≤ i → i ≤ length s → get_or (part q i s) (length (part q i s) - d) 0 ≡ get_or s (i - d) 0
  part_byte d p m l =
      let n : length (part q i s) - d ≡ i - q - d = omega (arith, part_length l) in
      let e : q + (i - q - d) ≡ i - d = omega arith in
      ap (λ (k : ℕ). get_or (part q i s) k 0) n ∙ get_or-take (i - q) (drop q s) (i - q - d) 0 (omega arith) ∙ get_or-drop q s (i - q - d) 0 ∙ ap (λ (k : ℕ). get_or s k 0) e

  -- the part and what follows it
  pub part-rest : part q i s ++ drop i s ≡ drop q s
  part-rest =
      let e : q + (i - q) ≡ i = omega arith in
      ap (λ (z : List ℕ). part q i s ++ z) (sym (drop-drop (i - q) q s ∙ ap (λ (k : ℕ). drop k s) e)) ∙ take-append-drop (i - q) (drop q s)

  -- up to a joint it is empty or ends in an empty line
  pub part-blank : {T : Type 0} (eol : ℕ) (l : List (Region T)) → Cut eol s l i → Blank eol (part q i s)
  part-blank eol l j p = (byte 1 (omega arith) some ∙ (j.two (omega (arith, some))).1, by (decide (ltb (q + 1) i)))
    where
      long : length (part q i s) ≡ i - q
      long = part_length j.high

      some : q + 1 ≤ i
      some = omega (arith, long)

      byte : (d : ℕ) → 0 < d → q + d ≤ i → get_or (part q i s) (length (part q i s) - d) 0 ≡ get_or s (i - d) 0
      byte d m n = part_byte d m n j.high

      by : (ltb (q + 1) i ≡ true) ⊎ (ltb (q + 1) i ≡ false) → get_or (part q i s) (length (part q i s) - 2) 0 ≡ eol
      by (inl u) = byte 2 (omega arith) (omega (arith, ltb-true (q + 1) i u)) ∙ (j.two (omega (arith, some))).2
      by (inr u) =
          let e : length (part q i s) - 2 ≡ length (part q i s) - 1 = omega (arith, long, ltb-false (q + 1) i u) in
          ap (λ (k : ℕ). get_or (part q i s) k 0) e ∙ byte 1 (omega arith) some ∙ (j.two (omega (arith, some))).1

module _ {T : Type 0} (eol : ℕ) (build : List ℕ → List (Region T)) (joins : Joins eol build) where
  -- ---- two texts, the first of them empty or with an empty line at its end
  pub joined : (a b : List ℕ) → Blank eol a → reaches (length a) (build a) ≡ false → build (a ++ b) ≡ build a ++ up (length a) (build b)
  joined a b two clear = ⊎_elim (λ w. w.1) (λ w. absurd (clash w.0 clear)) (joins.decided a b two)

  module _ (a b : List ℕ) (two : Blank eol a) (clear : reaches (length a) (build (a ++ b)) ≡ false) where
    pub first_clear : reaches (length a) (build a) ≡ false
    first_clear = ⊎_elim (λ w. w.0) (λ w. absurd (clash w.1 clear)) (joins.decided a b two)

    both : build (a ++ b) ≡ build a ++ up (length a) (build b)
    both = joined a b two first_clear

    -- the regions that start in each
    first-own : keep_before (length a) (build (a ++ b)) ≡ build a
    first-own = ap (keep_before (length a)) both ∙ before_all (length a) 0 (build a) (build b) (joins.ordered a)

    second_own : keep_from (length a) (build (a ++ b)) ≡ up (length a) (build b)
    second_own = ap (keep_from (length a)) both ∙ from_all (length a) 0 (build a) (build b) (joins.ordered a)

    -- a place of the second that no region of both reaches
    second_clear : (k : ℕ) → reaches (length a + k) (build (a ++ b)) ≡ false → reaches k (build b) ≡ false
    second_clear k more =
        sym (reaches-up (length a) k (build b))
        ∙ (neither (reaches (length a + k) (build a)) (reaches (length a + k) (up (length a) (build b)))
        (sym (reaches-append (length a + k) (build a) (up (length a) (build b))) ∙ ap (reaches (length a + k)) (sym both) ∙ more)).1

  -- ---- a text with a joint at q
  module _ (s : List ℕ) (q : ℕ) (j : Cut eol s (build s) q) where
    till : length (part 0 q s) ≡ q
    till = omega (arith, part_length s 0 q (omega arith) j.high)

    whole : part 0 q s ++ drop q s ≡ s
    whole = part-rest s 0 q (omega arith)

    till_clear : reaches (length (part 0 q s)) (build (part 0 q s ++ drop q s)) ≡ false
    till_clear = rw (till, whole) j.clear

    till_blank : Blank eol (part 0 q s)
    till_blank = part-blank s 0 q (omega arith) eol (build s) j

    -- the regions from q on are those of the text behind q
    behind : keep_from q (build s) ≡ up q (build (drop q s))
    behind = rw (till, whole) at (second_own (part 0 q s) (drop q s) till_blank till_clear)

    -- and another at i
    module _ (i : ℕ) (h : q ≤ i) (k : Cut eol s (build s) i) where
      blank : Blank eol (part q i s)
      blank = part-blank s q i h eol (build s) k

      long : length (part q i s) ≡ i - q
      long = part_length s q i h k.high

      between_clear : reaches (length (part q i s)) (build (part q i s ++ drop i s)) ≡ false
      between_clear =
          let n : length (part 0 q s) + length (part q i s) ≡ i = omega (arith, till, long) in
          rw (part-rest s q i h) (second_clear (part 0 q s) (drop q s) till_blank till_clear (length (part q i s)) (rw (n, whole) k.clear))

      -- the regions between them are those of the part between
      between : keep_before i (keep_from q (build s)) ≡ up q (build (part q i s))
      between =
          let n : q + length (part q i s) ≡ i = omega (arith, long) in
          ap (keep_before i) behind
          ∙ (rw n at (before_up q (length (part q i s)) (build (drop q s))))
          ∙ ap (λ (l : List ℕ). up q (keep_before (length (part q i s)) (build l))) (sym (part-rest s q i h))
          ∙ ap (up q) (first-own (part q i s) (drop i s) blank between_clear)

      -- they stand first in the list of that part with any text behind it, at n
      goes_on : (n : ℕ) (more : List ℕ) → up n (build (part q i s ++ more)) ≡ map (move (λ x. x + n - q)) (keep_before i (keep_from q (build s))) ++ up (n + (i - q)) (build more)
      goes_on n more =
          let u = part q i s in
          ap (up n) (joined u more blank (first_clear u (drop i s) blank between_clear))
          ∙ up-append n (build u) (up (length u) (build more))
          ∙ ap (λ (z : List (Region T)). z ++ up n (up (length u) (build more))) (sym (ap (map (move (λ x. x + n - q))) between ∙ move_up q n (build u)))
          ∙ ap (λ (z : List (Region T)). map (move (λ x. x + n - q)) (keep_before i (keep_from q (build s))) ++ z) (up_up n (length u) (build more) ∙ ap (λ (m : ℕ). up (n + m) (build more)) long)

  -- ---- edits from a joint q on, which has become place n
  sound_joins : (r more : List ℕ) → EndsAtJoint eol build r → build (r ++ more) ≡ build r ++ up (length r) (build more)
  sound_joins r more j =
      let w = joint-cut eol r (build r) (length r) j in
      joined r more (λ h. ((w.two h).1, (w.two h).2)) w.clear

  relists : (s : List ℕ) (q n : ℕ) (es : List Edit) → Joint eol s (build s) q → Fits eol build s q es → relist build q n es (build s) ≡ up n (build (finished q es s))
  unfolding relist
  relists s _ n _ j (none {q = q}) = ap (map (move (λ x. x + n - q))) (behind s q (joint-cut eol s (build s) q j)) ∙ move_up q n (build (drop q s))
  relists s _ n _ j (last {q = q} e h k all) =
      let m = n + (e.first - q) in
      let front = map (move (λ x. x + n - q)) (keep_before e.first (keep_from q (build s))) in
      let nothing : keep_from e.second (build s) ≡ [] = rw all (from_none (length s) 0 (build s) (joins.ordered s)) in
      let no_more : e.text ++ drop e.second s ≡ e.text = rw (all, drop_of_length-le s {i = length s} (omega arith)) (append-nil e.text) in
      rw nothing
      (ap (λ (z : List (Region T)). front ++ z) (append-nil (up m (build e.text)) ∙ ap (λ (t : List ℕ). up m (build t)) (sym no_more))
      ∙ sym (goes_on s q (joint-cut eol s (build s) q j) e.first h (joint-cut eol s (build s) e.first k) n (e.text ++ drop e.second s)))
  relists s _ n _ j (next {q = q} e es h k l k' sound fits) =
      let m = n + (e.first - q) in
      let r = e.text in
      let more = finished e.second es s in
      let front = map (move (λ x. x + n - q)) (keep_before e.first (keep_from q (build s))) in
      ap (λ (z : List (Region T)). front ++ z)
      (ap (λ (z : List (Region T)). up m (build r) ++ z) (relists s e.second (m + length r) es k' fits ∙ sym (up_up m (length r) (build more)))
      ∙ sym (up-append m (build r) (up (length r) (build more)))
      ∙ ap (up m) (sym (sound_joins r more sound)))
      ∙ sym (goes_on s q (joint-cut eol s (build s) q j) e.first h (joint-cut eol s (build s) e.first k) n (r ++ more))

  -- several edits at one go: the list written is the list of the finished text
  pub amended : (s : List ℕ) (es : List Edit) → Fits eol build s 0 es → relist build 0 0 es (build s) ≡ build (finished 0 es s)
  amended s es fits = relists s 0 0 es (joint_zero eol s (build s)) fits ∙ up_zero (build (finished 0 es s))

-- The bytes that lead the house's items are bytes, and a sheet's items are those. Assumes nothing.
use Rattle.std.specs.Prelude.{◌≡◌, refl, Bool, true, false, ◌&&◌, ◌⊎◌, ℕ, ◌+◌, ◌-◌, ◌<◌, eqb, get_or, take}
use mathlib.Core.List.{List, [], ◌∷◌}
use Rattle.std.proofs.Common.{inl, inr, arith, eqb-true}
use Rattle.common.specs.Rules.{tabulate}
use Rattle.search.specs.Search.{one_of, back, holds, digit}
use Rattle.search.specs.SearchLaws.{decide, clash}
use Rattle.common.specs.Sets.{accepted_from, house_markers, house_delims}
use Rattle.common.specs.Items.{blank, leads}
use Rattle.common.specs.Scanning.{Scanner, by_needles, turn}
use Rattle.common.specs.ItemLaws.{both, hit_finds}
use Rattle.common.specs.Turn.{Turn}
use Rattle.common.specs.Turning.{Each, OnFound}
use Rattle.block_marker.specs.Marker as marker
use Rattle.block_marker.specs.declared.MarkerItem.{MarkerItem}
use Rattle.block_numbered.specs.Numbered as numbered
use Rattle.block_numbered.specs.declared.NumberedItem.{NumberedItem}
use Rattle.feed.specs.Items.{tested_place}
use Rattle.sheet.specs.Sheet.{inside, outside}
use Rattle.feed.specs.declared.item.SheetItem.{SheetItem}

-- one of some bytes is a byte
one_small : (l : List ℕ) (x : ℕ) → Each (λ y. y < 256) l → one_of l x ≡ true → x < 256
unfolding one_of
one_small [] x w e = absurd (clash e refl)
one_small (y ∷ l) x w e = by (one_small l x w.1) (decide (eqb x y))
  where
    by : (one_of l x ≡ true → x < 256) → (eqb x y ≡ true) ⊎ (eqb x y ≡ false) → x < 256
    by ih (inl u) = omega (arith, eqb-true x y u)
    by ih (inr u) = ih (rw u at e)

-- ---- fresh states of the house stream, by these needles
mark_streams : (marker.fresh 10 32 9 house_markers).streaming ≡ true
unfolding accepted_from tabulate one_of
mark_streams = refl

mark_needles : (x : ℕ) → one_of (take (marker.fresh 10 32 9 house_markers).nn (marker.fresh 10 32 9 house_markers).needles) x ≡ true → x < 256
unfolding accepted_from tabulate one_of
mark_needles x e = one_small (42 ∷ 43 ∷ 45 ∷ []) x (omega arith, (omega arith, (omega arith, tt))) e

number_streams : (numbered.fresh 10 32 9 house_delims).streaming ≡ true
unfolding accepted_from tabulate one_of
number_streams = refl

number_needles : (x : ℕ) → one_of (take (numbered.fresh 10 32 9 house_delims).nn (numbered.fresh 10 32 9 house_delims).needles) x ≡ true → x < 256
unfolding accepted_from tabulate one_of
number_needles x e = one_small (41 ∷ 46 ∷ []) x (omega arith, (omega arith, tt)) e

-- ---- what their turns find
abbrev pub Mark : MarkerItem → Type 0
Mark i = i.marker < 256

abbrev pub Delimiter : NumberedItem → Type 0
Delimiter i = i.delimiter < 256

-- a fresh state that streams finds what its hits find
streams_find : {S A : Type 0} (c : Scanner S A) (P : A → Type 0) (g : S) (set : List Bool) (s : List ℕ) (q : ℕ) → (c.fields g).streaming ≡ true → OnFound P (c.streams (by_needles (c.fields g)) s q)
    → OnFound P (turn c g set s q)
unfolding turn
streams_find {A = A} c P g set s q e w = both (λ (t : ℕ → Turn A). OnFound P (t q)) (c.fields g).streaming _ _ (λ u. w) (λ u. absurd (clash e u))

pub mark_byte : (s : List ℕ) (q : ℕ) → OnFound Mark (turn marker.scanner (marker.fresh 10 32 9 house_markers) house_markers s q)
unfolding marker.stream_turn
mark_byte s q =
    let g = by_needles ((marker.scanner).fields (marker.fresh 10 32 9 house_markers)) in
    streams_find marker.scanner Mark (marker.fresh 10 32 9 house_markers) house_markers s q mark_streams
    (hit_finds g (marker.stream_hit g s) s Mark q (λ p y. both (OnFound Mark) (leads g.eol g.sep g.tab s p && holds (blank g) s (p + 1)) _ _ (λ v. mark_needles (get_or s p 0) y) (λ v. tt)))

pub number_byte : (s : List ℕ) (q : ℕ) → OnFound Delimiter (turn numbered.scanner (numbered.fresh 10 32 9 house_delims) house_delims s q)
unfolding numbered.stream_turn
number_byte s q =
    let g = by_needles ((numbered.scanner).fields (numbered.fresh 10 32 9 house_delims)) in
    let digits = back digit s in
    streams_find numbered.scanner Delimiter (numbered.fresh 10 32 9 house_delims) house_delims s q number_streams
    (hit_finds g (λ p. numbered.stream_hit g s p (back digit s p)) s Delimiter q
    (λ p y. both (OnFound Delimiter) (numbered.one_to_nine (digits p) && (leads g.eol g.sep g.tab s (p - digits p) && holds (blank g) s (p + 1))) _ _ (λ v. number_needles (get_or s p 0) y) (λ v. tt)))

-- ---- what all items have, those of a sheet have
module _ (P : SheetItem → Type 0) where
  pub each_outside : (regions : List (List ℕ)) (l : List SheetItem) → Each P l → Each P (outside regions l)
  unfolding outside
  each_outside regions [] w = tt
  each_outside regions (i ∷ l) w = by (each_outside regions l w.1) (decide (inside regions (tested_place i)))
    where
      by : Each P (outside regions l) → (inside regions (tested_place i) ≡ true) ⊎ (inside regions (tested_place i) ≡ false) → Each P (outside regions (i ∷ l))
      by f (inl u) = rw (u, outside) f
      by f (inr u) = rw (u, outside) (w.0, f)

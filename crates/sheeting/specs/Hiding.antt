-- The regions of a text as they come: what one of them, and those behind it, hide of the places from one on. Assumes nothing.
-- The page: an item is on the sheet where its tested place "isn't inside a region".
use Rattle.std.specs.Prelude.{◌≡◌, ◌||◌, List, [], ◌∷◌, map, ℕ, ◌≤◌, length}
use Rattle.rules.specs.Grammar.{Gram}
use Rattle.region.specs.Regions.{regions_from, regions}
use Rattle.region.specs.MemoryLaws.{Sound}
use Rattle.cover.specs.Cursor.{covers}
use Rattle.sheet.specs.Sheet.{inside}
use Rattle.sheeting.specs.declared.hiding.Hider.{Hider}
use Rattle.region.specs.Region.{row_of}

-- a region, and a place to go on from: from `place` on the regions of the text hide what it hides, or what those from there on hide
pub record HidesFrom (g : Gram) (s : List ℕ) (place : ℕ) (h : Hider) : Type 0 where
  pub apart : h.stop ≤ h.next
  pub here : h.next ≤ length s
  pub same : (p : ℕ) → place ≤ p → inside (map row_of (regions g s)) p ≡ (covers p (h.start ∷ h.stop ∷ []) || inside (map row_of (regions_from g s h.next)) p)

-- one that by itself tells whether the place is hidden
pub record Passed (g : Gram) (s : List ℕ) (place : ℕ) (h : Hider) : Type 0 where
  pub hides : HidesFrom g s place h
  pub hidden : inside (map row_of (regions g s)) place ≡ covers place (h.start ∷ h.stop ∷ [])

-- the same with a memory that tells the truth from where the scan goes on
pub record PassedOn (g : Gram) (s m : List ℕ) (place : ℕ) (h : Hider) : Type 0 where
  pub passed : Passed g s place h
  pub sound : Sound g s m h.next

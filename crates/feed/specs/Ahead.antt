-- The items that both scanners have before them. Assumes nothing.
-- The page's sentences stand in Items.antt; here are its parts.
use Rattle.std.specs.Prelude.{Bool, List, [], ◌∷◌, ℕ, ◌≤◌, None, Option, Some}
use Rattle.feed.specs.Items.{mark_items_from, numbered_items_from, merge}
use Rattle.feed.specs.declared.item.SheetItem.{SheetItem}
use Rattle.feed.specs.declared.Feed.{Feed}

-- ---- one scanner, one item ahead
-- a head, and the items behind it; nothing is behind the end
abbrev pub headed : Option SheetItem → List SheetItem → List SheetItem
headed (Some i) l = i ∷ l
headed None l = []

-- ---- both
-- scanners that stand within a text that is not too long
pub record Within (f : Feed) (len : ℕ) : Type 0 where
  pub marks : f.marks.rest.pos ≤ len
  pub numbers : f.numbers.rest.pos ≤ len
  pub short : len ≤ 4294967295

module _ (markers delims : List Bool) where
  -- the items that both have before them
  unfoldable pub ahead : List ℕ → Feed → List SheetItem
  ahead s f = merge (headed f.marks.head (mark_items_from f.marks.rest markers s)) (headed f.numbers.head (numbered_items_from f.numbers.rest delims s))

-- Edits of a text, regions moved, and where an amendment may cut, whatever the rules and the tags. Assumes nothing.
-- The page: "A joint of a text with its list: place 0, or a place k of at least 2 whose two preceding bytes are line ends, where no
-- region starting before k ends at k or later. An amendment takes the old text and list, two cuts and the replacement".
use Rattle.std.specs.Prelude.{◌≡◌, Bool, true, not, ◌&&◌, List, map, ℕ, ◌+◌, ◌-◌}
use Rattle.region.specs.Region.{Region, move, reaches}
use Rattle.joint.specs.Joint.{after_empty_line}

-- "two cuts and the replacement": it takes the place of the bytes from the first cut up to the second
pub record Edit : Type 0 where
  pub first : ℕ
  pub second : ℕ
  pub text : List ℕ

-- "moved by the change in length": each place lowered by `down` and raised by `up`
abbrev pub moved_by : {T : Type 0} → ℕ → ℕ → List (Region T) → List (Region T)
moved_by down up l = map (move (λ x. x + up - down)) l

-- "A joint of a text with its list: … where no region starting before k ends at k or later."
unfoldable pub joint : {T : Type 0} → ℕ → List ℕ → List (Region T) → ℕ → Bool
joint eol s l k = after_empty_line eol s k && not (reaches k l)

abbrev pub Joint : {T : Type 0} → ℕ → List ℕ → List (Region T) → ℕ → Type 0
Joint eol s l k = joint eol s l k ≡ true

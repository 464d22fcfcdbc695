-- What an amendment asks of the bytes at a cut, of a replacement's end and of the marks. Assumes nothing.
-- The page: "A joint of a text with its list", and refusals 8 and 9.
use Rattle.std.specs.Prelude.{Bool, not, ◌||◌, ◌&&◌, List, ℕ, ◌-◌, eqb, leb, length}
use Rattle.search.specs.Search.{is, holds}
use Rattle.common.specs.Rules.{has_rule}

-- "place 0, or a place k of at least 2 whose two preceding bytes are line ends"
abbrev pub after_empty_line : ℕ → List ℕ → ℕ → Bool
after_empty_line eol s k = eqb k 0 || (leb 2 k && (holds (is eol) s (k - 1) && holds (is eol) s (k - 2)))

-- 8: "old text follows a replacement that isn't empty, and that replacement doesn't end in two line ends or has, built alone, a region
-- reaching its end": whether old text follows, and whether a region reaches, are given (none reaches the end of an empty one)
abbrev pub open_end : ℕ → Bool → List ℕ → Bool → Bool
open_end eol follows r reaching = follows && not (after_empty_line eol r (length r) && not reaching)

-- 9: "the escape, a symmetric byte or an asymmetric opener is the line-end byte"
abbrev pub line_end_is_mark : ℕ → ℕ → List ℕ → List ℕ → Bool
line_end_is_mark eol escape symmetric openers = is eol escape || (has_rule symmetric eol || has_rule openers eol)

-- Fence readers: what an edition says of fences, asked of a place in a text. Assumes nothing.
-- The page, module 6: "A fence at a line start goes first, by the first rule with that byte"; the regions and their paragraphs ask a reader.
use Rattle.std.specs.Prelude.{Bool, true, false, cond, ◌&&◌, List, ℕ, ltb, length, get_or, None, Option, Some}
use Rattle.search.specs.Search.{first_place, line_start, line_end}
use Rattle.common.specs.declared.grammar.Grammar.{Grammar}
use Rattle.lines.specs.Fences.{run_count, run_end, opens_line, closing, has_in, least_in}

-- a fence reader
pub record Fences : Type 0 where
  -- whether a fence's run begins here
  pub opens : List ℕ → ℕ → Bool
  -- whether the line that begins here opens a fence
  pub enters : List ℕ → ℕ → Bool
  -- the counted length of the run that begins here
  pub size : List ℕ → ℕ → ℕ
  -- whether a line begins here that closes a fence of a byte and a length
  pub shuts : ℕ → ℕ → List ℕ → ℕ → Bool

-- what closes a fence by the reader of a grammar, whatever the rules are
unfoldable pub shuts : Grammar → ℕ → ℕ → List ℕ → ℕ → Bool
shuts g = closing g

-- the page's fences, those of edition 1: `has` says whether a byte has a rule, `least` its minimum
abbrev pub edition_one : Grammar → (ℕ → Bool) → (ℕ → ℕ) → Fences
edition_one g has least = record {
  opens = λ s p. line_start g.eol s p && opens_line g.eol has least s p;
  enters = opens_line g.eol has least;
  size = λ s p. run_count p (run_end (get_or s p 0) s p (line_end g.eol s p));
  shuts = shuts g;
}

-- the fence reader of a grammar
unfoldable pub reader : Grammar → (ℕ → Bool) → (ℕ → ℕ) → Fences
reader g has least = edition_one g has least

-- the reader by a table of rules, also one made by hand
abbrev pub reader_in : Grammar → List ℕ → Fences
reader_in g fences = reader g (has_in fences) (least_in fences)

-- whether a fence's run begins at p, and then how long it is, counted, and where its line ends
unfoldable pub opening_at : Fences → ℕ → List ℕ → ℕ → Option (ℕ × ℕ)
opening_at f eol s p = cond (f.opens s p) (Some (f.size s p, line_end eol s p)) None

-- "It is closed by the first later line whose run is as long or longer and whose rest is separators or tabs": where that line begins,
-- and where it ends
abbrev pub close_at : Grammar → List ℕ → Bool → ℕ → Option (ℕ × ℕ)
close_at g s true q = Some (q, line_end g.eol s q)
close_at g s false q = None

unfoldable pub close_scan : Grammar → ℕ → ℕ → List ℕ → ℕ → Option (ℕ × ℕ)
close_scan g b count s from =
    close_at g s (ltb (first_place (shuts g b count s) from (length s)) (length s)) (first_place (shuts g b count s) from (length s))

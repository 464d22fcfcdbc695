-- Laws of the leaves' answers. Assumes nothing.
use Rattle.std.specs.Prelude.{◌≡◌, Bool}
use Rattle.std.proofs.Common.{sym, ◌∙◌}
use Rattle.std.proofs.Math.Path.{ap}
use Rattle.std.proofs.Math.Bool.{false}
use mathlib.Core.List.{List, [], ◌∷◌}
use Prim.Native.Nat.{ℕ}
use Rattle.search.specs.Promise.{Gives}
use Rattle.common.specs.Refusals.{given}
use Rattle.common.specs.Rules.{on_byte, has_rule}
use Rattle.common.specs.declared.grammar.Grammar.{Grammar}
use Rattle.lines.specs.Fences.{fence_table, has_in, least_in, opens_line}
use Rattle.lines.specs.Reader.{reader, reader_in}
use Rattle.lines.specs.RuleLaws.{table_has, table_least}
use Rattle.lines.specs.Paragraph.{next_in}
use Rattle.lines.specs.Leaf.{opens_by, told_hit}
use Rattle.lines.specs.declared.fence_tests.Hit.{Hit}
use Rattle.lines.specs.declared.fence_tests.Hit.TheVariants.{At, End}

-- the grammar of which only the line end is asked
abbrev pub line_ended : ℕ → Grammar
line_ended eol = record { eol = eol; escape = 0; sep = 0; tab = 0 }

-- ---- the next byte in a paragraph, by the table of the columns
module _ (s : List ℕ) (from needle eol : ℕ) (bytes mins : List ℕ) (d : Hit) (t : List ℕ) where
  by_table : Gives (fence_table bytes mins) t → Gives (next_in eol ((reader_in (line_ended eol) t).enters s) s needle from) d
      → told_hit d ≡ told_hit (next_in eol (opens_by eol bytes mins s) s needle from)
  unfolding reader
  by_table g h =
      ap told_hit h.answer
      ∙ ap (λ (f : List ℕ). told_hit (next_in eol (opens_line eol (has_in f) (least_in f) s) s needle from)) g.answer
      ∙ ap (λ (f : ℕ → Bool). told_hit (next_in eol (opens_line eol f (least_in (fence_table bytes mins)) s) s needle from)) (table_has bytes mins)
      ∙ ap (λ (f : ℕ → ℕ). told_hit (next_in eol (opens_line eol (on_byte false (has_rule bytes)) f s) s needle from)) (table_least bytes mins)

  pub paragraph_at : (q : ℕ) → d ≡ At q → Gives (fence_table bytes mins) t → Gives (next_in eol ((reader_in (line_ended eol) t).enters s) s needle from) d
      → given (q ∷ []) ≡ told_hit (next_in eol (opens_by eol bytes mins s) s needle from)
  paragraph_at q e g h = sym (ap told_hit e) ∙ by_table g h

  pub paragraph_end_lem : (u : ℕ) → d ≡ End u → Gives (fence_table bytes mins) t → Gives (next_in eol ((reader_in (line_ended eol) t).enters s) s needle from) d
      → given [] ≡ told_hit (next_in eol (opens_by eol bytes mins s) s needle from)
  paragraph_end_lem u e g h = sym (ap told_hit e) ∙ by_table g h

-- Laws of the house markers and delimiters: the sets hold them, their bytes are apart, and the scans find the items of the text's lines. Assumes nothing.
use Rattle.std.specs.Prelude.{◌≡◌, refl, Bool, true, false, cond, List, [], ◌∷◌, ◌⊎◌, ℕ, ◌≤◌, ◌<◌, ltb}
use Rattle.std.proofs.Common.{sym, ap, subst, ◌∙◌, inl, inr, arith, ltb-false, ne_eqb}
use Rattle.std.proofs.Math.Path.{fun_ext}
use Rattle.search.specs.Search.{one_of, digit}
use Rattle.search.specs.SearchLaws.{decide}
use Rattle.common.specs.ClassLaws.{digit_delimiter}
use Rattle.common.specs.TableLaws.{length-tabulate, table_entry}
use Rattle.common.specs.Sets.{set_of, marker_bytes, delimiter_bytes, is_marker, is_delimiter, house_markers, house_delims}
use Rattle.common.specs.Grammars.{house_marks, house_numbers}
use Rattle.common.specs.Turning.{Each}
use Rattle.common.specs.Items.{grammar, has, Apart}
use Rattle.block_marker.specs.Marker as marker
use Rattle.block_marker.specs.MarkerRun as marker_run
use Rattle.block_numbered.specs.Numbered as numbered
use Rattle.block_numbered.specs.Numbered.{NoDigit, DigitsApart}
use Rattle.block_numbered.specs.NumberedRun as numbered_run

-- ---- a set of bytes accepts what its list has
one_past : (l : List ℕ) (x : ℕ) → Each (λ b. b < 256) l → 256 ≤ x → one_of l x ≡ false
unfolding one_of
one_past [] x w h = refl
one_past (b ∷ l) x w h = rw (ne_eqb x b (λ z. omega (arith, w.0))) (one_past l x w.1 h)

set-has : (l : List ℕ) → Each (λ b. b < 256) l → has (set_of l) ≡ one_of l
set-has l w = table_entry false (one_of l) ∙ fun_ext (λ x. by x (decide (ltb x 256)))
  where
    by : (x : ℕ) → (ltb x 256 ≡ true) ⊎ (ltb x 256 ≡ false) → cond (ltb x 256) (one_of l x) false ≡ one_of l x
    by x (inl u) = rw u
    by x (inr u) = rw u (sym (one_past l x w (ltb-false x 256 u)))

markers-has : has house_markers ≡ is_marker
markers-has = set-has marker_bytes (omega arith, (omega arith, (omega arith, tt)))

delims_has : has house_delims ≡ is_delimiter
delims_has = set-has delimiter_bytes (omega arith, (omega arith, tt))

-- ---- the house's bytes are apart
marks_apart : Apart house_marks
unfolding one_of
marks_apart = record { not_eol = refl; not_sep = refl; not_tab = refl; eol_sep = λ e. omega arith; eol_tab = λ e. omega arith }

no_digit : NoDigit house_numbers
no_digit = digit_delimiter

delims_apart : DigitsApart house_numbers
unfolding one_of digit
delims_apart = record {
  apart = record { not_eol = refl; not_sep = refl; not_tab = refl; eol_sep = λ e. omega arith; eol_tab = λ e. omega arith };
  not_digit = no_digit;
  eol_digit = refl;
  sep_digit = refl;
  tab_digit = refl;
}

-- ---- what the scans find
-- "Optional separators and tabs, one accepted byte, one separator or tab; the span is the rest of the line."
pub house_marks_lem : (s : List ℕ) → marker.items (marker.fresh 10 32 9 house_markers) house_markers s ≡ marker.markers house_marks s
house_marks_lem s =
    marker_run.fresh-items house_markers s 10 32 9 (length-tabulate is_marker 256 0) (λ h. subst (λ (t : ℕ → Bool). Apart (grammar 10 32 9 t)) (sym markers-has) marks_apart)
    ∙ ap (λ (t : ℕ → Bool). marker.markers (grammar 10 32 9 t) s) markers-has

-- "As above with 1 to 9 ASCII digits and an accepted delimiter; ten digits reject."
pub house-numbers : (s : List ℕ) → numbered.items (numbered.fresh 10 32 9 house_delims) house_delims s ≡ numbered.numbers house_numbers s
house-numbers s =
    numbered_run.fresh-items house_delims s 10 32 9 (length-tabulate is_delimiter 256 0) (λ h. subst (λ (t : ℕ → Bool). DigitsApart (grammar 10 32 9 t)) (sym delims_has) delims_apart)
    (subst (λ (t : ℕ → Bool). NoDigit (grammar 10 32 9 t)) (sym delims_has) no_digit)
    ∙ ap (λ (t : ℕ → Bool). numbered.numbers (grammar 10 32 9 t) s) delims_has

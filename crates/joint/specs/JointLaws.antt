-- Laws of a replacement's end and of the test of the marks: ways out of the functions that make these tests. Assumes nothing.
use Rattle.std.specs.Prelude.{◌≡◌, Bool, true, false, not, ◌&&◌, List, ℕ, ◌⊎◌, ◌≤◌, ◌<◌, eqb, ltb, length}
use Rattle.std.specs.List.{list_any}
use Rattle.std.proofs.Common.{sym, ap, ◌∙◌, inl, inr, arith, lt-ltb, le-ltb, ltb-true, ltb-false}
use Rattle.std.proofs.lemmas.Grind.{get_or_default_zero}
use Rattle.std.proofs.lemmas.List.Folds.{list_any_at, list_any_none}
use Rattle.search.specs.Promise.{Gives}
use Rattle.search.specs.Search.{is, find, Sought}
use Rattle.search.specs.SearchLaws.{decide, is_yes, is_no, find_at, find_before}
use Rattle.common.specs.Rules.{has_rule}
use Rattle.joint.specs.Joint.{after_empty_line, open_end, line_end_is_mark}

-- ---- a replacement's end
module _ (eol : ℕ) (follows : Bool) (r : List ℕ) (reaching : Bool) (e : follows ≡ true) (y : Bool) where
  pub open_line_lem : y ≡ false → Gives (after_empty_line eol r (length r)) y → true ≡ open_end eol follows r reaching
  open_line_lem d g = sym (ap (λ (b : Bool). b && not (after_empty_line eol r (length r) && not reaching)) e ∙ ap (λ (b : Bool). not (b && not reaching)) (sym g.answer ∙ d))

-- ---- a line end that escapes or opens
-- the library's word for a byte that a list has, and the rules'
pub any_has : (b : ℕ) (l : List ℕ) → list_any (λ y. eqb y b) l ≡ has_rule l b
unfolding is
any_has b l = by (decide (has_rule l b))
  where
    by : (has_rule l b ≡ true) ⊎ (has_rule l b ≡ false) → list_any (λ y. eqb y b) l ≡ has_rule l b
    by (inl u) =
        let h = ltb-true (find (is b) l 0) (length l) u in
        list_any_at (λ y. eqb y b) l (find (is b) l 0) 0 h (find_at (is b) l 0 h) ∙ sym u
    by (inr u) =
        let h = ltb-false (find (is b) l 0) (length l) u in
        list_any_none (λ y. eqb y b) l (λ k d m. rw (get_or_default_zero l k d m) (find_before (is b) l 0 k (omega arith) (omega (arith, h)))) ∙ sym u

module _ (eol escape : ℕ) (symmetric openers : List ℕ) where
  pub marks_escape : escape ≡ eol → true ≡ line_end_is_mark eol escape symmetric openers
  marks_escape e = rw (is_yes eol escape e)

  module _ (d : escape ≡ eol → ⊥) (p : ℕ) (a : Sought (is eol) symmetric 0 p) where
    pub marks_symmetric : p < length symmetric → true ≡ line_end_is_mark eol escape symmetric openers
    marks_symmetric h = rw (is_no eol escape d, ← a.here, lt-ltb p (length symmetric) h)

    pub marks_openers : (q : ℕ) → length symmetric ≤ p → Sought (is eol) openers 0 q → ltb q (length openers) ≡ line_end_is_mark eol escape symmetric openers
    marks_openers q h b = rw (is_no eol escape d, ← a.here, le-ltb p (length symmetric) h, b.here)

  -- the same by the library's word
  module _ (d : escape ≡ eol → ⊥) (x : Bool) (a : x ≡ list_any (λ b. eqb b eol) symmetric) where
    pub symmetric_has : x ≡ true → true ≡ line_end_is_mark eol escape symmetric openers
    symmetric_has u = rw (is_no eol escape d, sym (any_has eol symmetric) ∙ sym a ∙ u)

    pub openers_have : x ≡ false → list_any (λ b. eqb b eol) openers ≡ line_end_is_mark eol escape symmetric openers
    openers_have u = rw (is_no eol escape d, sym (any_has eol symmetric) ∙ sym a ∙ u) (any_has eol openers)

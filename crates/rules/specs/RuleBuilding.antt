-- Laws of building by fence rules of two bytes each: the ways out. Assumes nothing.
use Rattle.std.specs.Prelude.{◌≡◌, Bool, true, not, ◌||◌, List, ℕ, ◌%◌, ◌≤◌, eqb, length}
use Rattle.std.proofs.Math.Path.{refl, sym}
use Rattle.std.proofs.Common.{◌∙◌}
use Rattle.std.proofs.Math.Bool.{false}
use borrow.Author.Tests.{eq-eqb, ne_eqb}
use Rattle.search.specs.Promise.{Gives}
use Rattle.cells.specs.Poured.{ListRuns, PouredAs, BuiltAs}
use Rattle.rules.specs.ByteRules.{RuleRuns, uneven, uneven_rules}
use Rattle.cells.specs.PouredLaws.{build_bad, build_good}

or_right : (a b : Bool) → b ≡ true → (a || b) ≡ true
or_right true b e = refl
or_right false b e = e

-- ---- by fence rules of two bytes each: b says whether an inline rule's columns are uneven
module _ {A : Type 0} (flat : A → List ℕ) (w : ℕ) (c : RuleRuns) (l : List A) (s : List ℕ) (lent : ListRuns) where
  bad_rules : length s ≤ 4294967295 → uneven_rules c ≡ true → BuiltAs flat w (uneven_rules c) l s lent lent 6
  bad_rules h e = build_bad flat w (uneven_rules c) l s lent (uneven_rules c) h e (record { answer = refl })

  pub rules_odd : length s ≤ 4294967295 → (length c.fence_rules % 2 ≡ 0 → ⊥) → BuiltAs flat w (uneven_rules c) l s lent lent 6
  unfolding uneven_rules
  rules_odd h d = bad_rules h (rw (ne_eqb (length c.fence_rules % 2) 0 d))

  pub rules_uneven : (b : Bool) → length s ≤ 4294967295 → b ≡ true → Gives (uneven c.inline) b → BuiltAs flat w (uneven_rules c) l s lent lent 6
  unfolding uneven_rules
  rules_uneven b h e u = bad_rules h (or_right (not (eqb (length c.fence_rules % 2) 0)) (uneven c.inline) (sym u.answer ∙ e))

  pub rules_built : (b : Bool) (after : ListRuns) (r : ℕ) → length s ≤ 4294967295 → length c.fence_rules % 2 ≡ 0 → b ≡ false → Gives (uneven c.inline) b → PouredAs flat w l lent after r → BuiltAs flat w (uneven_rules c) l s lent after r
  unfolding uneven_rules
  rules_built b after r h e u x v =
      build_good flat w (uneven_rules c) l s lent (uneven_rules c) after r h (rw (eq-eqb (length c.fence_rules % 2) 0 e) (sym x.answer ∙ u)) (record { answer = refl }) v

-- Laws of building by fence rules as records: by the kept rules' columns it is building by the run's own. Assumes nothing.
use Rattle.std.specs.Prelude.{◌≡◌, refl, List, [], ◌∷◌, ltb, length}
use Rattle.std.proofs.Common.{sym as inv, subst, ◌∙◌, eq-eqb}
use Rattle.std.proofs.Math.Bool.{Bool}
use Prim.Native.Nat.{ℕ}
use Rattle.common.specs.Entry.{flatten, room, over, wide}
use Rattle.common.specs.Lists.{build_answer}
use Rattle.common.specs.Refusals.{Outcome, given, refuse, leaves, too_long}
use Rattle.common.specs.declared.grammar.Grammar.{Grammar}
use Rattle.rules.specs.Columns.{Columns, columns_of, inline_rules, columns, unequal_inline, unequal, gram_of}
use Rattle.rules.specs.Records.{rule_bytes, rule_mins, kept_bytes, kept_mins, rules_of, KeptColumns, AllGathered}
use Rattle.rules.specs.RecordLaws.{rules_even, kept_even, kept_told}
use Rattle.rules.specs.declared.columns.InlineColumns.{InlineColumns}
use Rattle.rules.specs.declared.columns.RuleColumns.{RuleColumns}
use Rattle.rules.specs.declared.records.FenceRule.{FenceRule}
use Rattle.rules.specs.declared.records.Gathered.{Gathered}
use Rattle.region.specs.Region.{row_of}
use Rattle.region.specs.Regions.{regions}
use Rattle.region.specs.IndexLaws.{gathered_count, gathered_flat}
use Rattle.context.specs.Build.{built_answer, built_list, Built}

-- building by the kept rules that were gathered from records
module _ (rules : List FenceRule) {g : Grammar} {f : Gathered} {y t o k n s out out' : List ℕ} {a : Outcome} where
  pub records_built : AllGathered rules f → Built g (columns (kept_bytes f) (kept_mins f) y t o k n) s out out' a → Built g (columns (rule_bytes rules) (rule_mins rules) y t o k n) s out out' a
  unfolding built_answer build_answer built_list
  records_built w b = record { answer = b.answer ∙ (λ j. answer (same j) (count j)); list = b.list ∙ (λ j. list (same j) (count j) (flat j)) }
    where
      answer : Bool → ℕ → Outcome
      answer bad m = refuse 1 (too_long s) (refuse 6 bad (refuse 3 (ltb (room wide out) m) (given (m ∷ []))))

      list : Bool → ℕ → List ℕ → List ℕ
      list bad m l = leaves (answer bad m) out (over l out)

      even : (bytes mins : List ℕ) → length bytes ≡ length mins → unequal_inline (inline_rules y t o k n) ≡ unequal (columns bytes mins y t o k n)
      even bytes mins e = rw (eq-eqb (length bytes) (length mins) e)

      same : unequal (columns (kept_bytes f) (kept_mins f) y t o k n) ≡ unequal (columns (rule_bytes rules) (rule_mins rules) y t o k n)
      same = inv (even (kept_bytes f) (kept_mins f) (kept_even rules f w)) ∙ even (rule_bytes rules) (rule_mins rules) (rules_even rules)

      count : length (regions (gram_of g (columns (kept_bytes f) (kept_mins f) y t o k n)) s) ≡ length (regions (gram_of g (columns (rule_bytes rules) (rule_mins rules) y t o k n)) s)
      count = gathered_count rules f w g y t o k n s

      -- a row says nothing of the rule that made its region
      flat : flatten row_of (regions (gram_of g (columns (kept_bytes f) (kept_mins f) y t o k n)) s) ≡ flatten row_of (regions (gram_of g (columns (rule_bytes rules) (rule_mins rules) y t o k n)) s)
      flat = gathered_flat rules f w g y t o k n s row_of (λ h r. refl)

-- building by the columns that they lend
pub records_lent : (rules : List FenceRule) (i : InlineColumns ℕ) {g : Grammar} {f : Gathered} {c : RuleColumns ℕ} {s out out' : List ℕ} {a : Outcome} → AllGathered rules f → KeptColumns f i c
    → Built g (columns_of (λ l. l) c) s out out' a → Built g (rules_of (λ l. l) rules i) s out out' a
records_lent rules i {g} {s = s} {out = out} {out' = out'} {a = a} w k b = records_built rules w (subst (λ (x : Columns). Built g x s out out' a) (kept_told (λ l. l) k) b)

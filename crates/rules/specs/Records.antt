-- Fence rules as records: their columns, and what gathering them makes. Assumes nothing.
-- The page: "afterwards a thin entry takes a lent run of fence rule records."
use Rattle.std.specs.Prelude.{◌≡◌, Bool, cond, ◌||◌, List, [], ◌∷◌, map, ℕ, suc, ◌+◌, ◌<◌, leb, length, get_or, take, set, replicate}
use Rattle.search.specs.Search.{one_of}
use Rattle.rules.specs.Columns.{Columns, inline_of}
use Rattle.rules.specs.declared.columns.InlineColumns.{InlineColumns}
use Rattle.rules.specs.declared.columns.RuleColumns.{RuleColumns}
use Rattle.rules.specs.declared.records.FenceRule.{FenceRule}
use Rattle.rules.specs.declared.records.Gathered.{Gathered}

-- "a lent run of fence rule records" as columns: the bytes, and the minimums
abbrev pub rule_bytes : List FenceRule → List ℕ
rule_bytes rules = map (λ r. r.byte) rules

abbrev pub rule_mins : List FenceRule → List ℕ
rule_mins rules = map (λ r. r.min) rules

abbrev pub no_rule : FenceRule
no_rule = record { byte = 0; min = 0 }

-- the columns of a run of rules and of inline rules
abbrev pub rules_of : {T : Type 0} → (List T → List ℕ) → List FenceRule → InlineColumns T → Columns
rules_of numbers rules i = record { fence_bytes = rule_bytes rules; fence_mins = rule_mins rules; inline = inline_of numbers i }

-- ---- gathering
abbrev pub no_rules : Gathered
no_rules = record { bytes = replicate 256 0; mins = replicate 256 0; places = replicate 256 0; count = 0; last = 0 }

-- the columns of the rules that are kept
abbrev pub kept_bytes : Gathered → List ℕ
kept_bytes f = take f.count f.bytes

abbrev pub kept_mins : Gathered → List ℕ
kept_mins f = take f.count f.mins

-- what lending them with inline rules promises
pub record KeptColumns {T : Type 0} (f : Gathered) (i : InlineColumns T) (c : RuleColumns T) : Type 0 where
  pub bytes : c.fences.now ≡ kept_bytes f
  pub mins : c.mins.now ≡ kept_mins f
  pub inline : c.inline ≡ i

-- "by the first rule with that byte": one whose byte came before is never used; nor is there a place behind 256
abbrev pub unkept : Gathered → ℕ → Bool
unkept f b = leb 256 f.count || one_of (kept_bytes f) b

-- one rule more, whose index is i, also for a record made by hand
unfoldable pub with_rule : Gathered → FenceRule → ℕ → Gathered
with_rule f r i =
    cond (unkept f r.byte) (record { bytes = f.bytes; mins = f.mins; places = f.places; count = f.count; last = i })
    (record { bytes = set f.bytes f.count r.byte; mins = set f.mins f.count r.min; places = set f.places f.count i; count = f.count + 1; last = i })

-- what one rule more promises: that record; and a rule's byte is a byte
pub record OneMore (f : Gathered) (r : FenceRule) (i : ℕ) (f' : Gathered) : Type 0 where
  pub answer : f' ≡ with_rule f r i
  pub small : r.byte < 256

-- rules more, the first at index i
unfoldable pub gathered_from : Gathered → ℕ → List FenceRule → Gathered
gathered_from f i [] = f
gathered_from f i (r ∷ rules) = gathered_from (with_rule f r i) (suc i) rules

abbrev pub gathered_of : List FenceRule → Gathered
gathered_of rules = gathered_from no_rules 0 rules

-- what gathering a run promises: each rule at its own index; and the rules' bytes are bytes
pub record AllGathered (rules : List FenceRule) (f : Gathered) : Type 0 where
  pub answer : f ≡ gathered_of rules
  pub small : (j : ℕ) → j < length rules → (get_or rules j no_rule).byte < 256

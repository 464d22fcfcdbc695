-- Laws of regions written into a list in bytes, and the ways out of building. Assumes nothing.
use Rattle.std.specs.Prelude.{◌≡◌, refl, true, cond, List, [], ◌∷◌, ℕ, ◌/◌, ◌<◌, ltb, leb, length}
use Rattle.std.proofs.Common.{sym, ap, subst, ◌∙◌, arith, le-leb}
use Rattle.search.specs.Promise.{Gives}
use Rattle.common.specs.Entry.{flatten, over}
use Rattle.common.specs.Refusals.{given, refuse, served}
use Rattle.common.specs.declared.grammar.Grammar.{Grammar}
use Rattle.region.specs.Region.{Caused}
use Rattle.rules.specs.Grammar.{Gram}
use Rattle.region.specs.Regions.{regions, built_by}
use Rattle.rules.specs.Tables.{gram_in, TablesOf}
use Rattle.rules.specs.Records.{kept_bytes, kept_mins, KeptColumns, AllGathered}
use Rattle.region.specs.Ahead.{regions-few}
use Rattle.region.specs.IndexLaws.{gathered_count, gathered_flat}
use Rattle.rules.specs.declared.tables.Tables.{Tables}
use Rattle.rules.specs.declared.columns.InlineColumns.{InlineColumns}
use Rattle.rules.specs.declared.columns.RuleColumns.{RuleColumns}
use Rattle.rules.specs.declared.records.Gathered.{Gathered}
use Rattle.cells.specs.Bytes.{cells, row_bytes}
use Rattle.cells.specs.Reply.{Replied, fitted}
use Rattle.cells.specs.Poured.{ListRuns, PouredAs}
use Rattle.pour.specs.Building.{region_bytes, PouredBy}
use Rattle.rules.specs.ByteRules.{inline_in, ColumnRuns, inline_runs_of, runs_of, RuleRuns, columns_in, fence_rules_of, rule_columns_in}
use Rattle.rules.specs.RuleLaws.{gram_folded}

pub row_bytes_lem : (r : Caused) → length (region_bytes r) ≡ row_bytes
row_bytes_lem r = refl

-- ---- the question whether `len` bytes have room for all regions
pub fits_roomy : (g : Gram) (s : List ℕ) (len most : ℕ) → length s / 2 < most → Gives (len / row_bytes) most → true ≡ leb (length (regions g s)) (len / row_bytes)
fits_roomy g s len most h room = sym (le-leb (length (regions g s)) (len / row_bytes) (omega (arith, regions-few g s, room.answer)))

pub fits_counted : (g : Gram) (s : List ℕ) (len most k : ℕ) → Gives (len / row_bytes) most → Gives (length (regions g s)) k → leb k most ≡ leb (length (regions g s)) (len / row_bytes)
fits_counted g s len most k room c = rw (c.answer, room.answer)

-- ---- by the rules, folded
module _ (g : Grammar) (c : ColumnRuns) (s : List ℕ) (t : Tables) (w : TablesOf g (record { fence_bytes = c.fence_bytes; fence_mins = c.fence_mins; inline = inline_in c.inline }) t) where
  pub poured_columns : (before after : ListRuns) (r : ℕ) → PouredAs region_bytes row_bytes (regions (gram_in t) s) before after r → PouredBy g (columns_in c) s before after r
  poured_columns before after r v = subst (λ (z : Gram). PouredAs region_bytes row_bytes (regions z s) before after r) (gram_folded c w) v

  -- counted by them
  pub counted-columns : (run run' : List ℕ) (k r : ℕ) → Gives (length (regions (gram_in t) s)) k → Replied (given (k ∷ [])) run run' r → Replied (given (length (built_by g (columns_in c) s) ∷ [])) run run' r
  counted-columns run run' k r n d =
      let e : k ≡ length (built_by g (columns_in c) s) = n.answer ∙ ap (λ (z : Gram). length (regions z s)) (gram_folded c w) in
      subst (λ (x : ℕ). Replied (given (x ∷ [])) run run' r) e d

-- by the rules that are kept of those that byte runs hold
pub poured_rules : (g : Grammar) (c : RuleRuns) (s : List ℕ) (before after : ListRuns) (f : Gathered) (r : ℕ) → AllGathered (fence_rules_of c.fence_rules) f
    → PouredBy g (columns_in (record { fence_bytes = kept_bytes f; fence_mins = kept_mins f; inline = c.inline })) s before after r → PouredBy g (rule_columns_in c) s before after r
unfolding columns_in rule_columns_in
poured_rules g c s before after f r w v =
    let i = c.inline in
    let l = fence_rules_of c.fence_rules in
    let count = gathered_count l f w g i.sym_bytes (cells i.sym_counts) i.openers i.closers (cells i.open_counts) s in
    let flat = gathered_flat l f w g i.sym_bytes (cells i.sym_counts) i.openers i.closers (cells i.open_counts) s region_bytes (λ h r. refl) in
    poured_same (built_by g (columns_in (record { fence_bytes = kept_bytes f; fence_mins = kept_mins f; inline = i })) s) (built_by g (rule_columns_in c) s) count flat v
  where
    -- pouring sees how many entries there are, and their bytes
    poured_same : (a b : List Caused) → length a ≡ length b → flatten region_bytes a ≡ flatten region_bytes b → PouredAs region_bytes row_bytes a before after r → PouredAs region_bytes row_bytes b before after r
    poured_same a b count flat v = record {
      reply = subst (λ (k : ℕ). Replied (refuse 3 (ltb (length before.list / row_bytes) k) (given (k ∷ []))) before.answer after.answer r) count v.reply;
      left = v.left ∙ (λ j. cond (served (fitted (refuse 3 (ltb (length before.list / row_bytes) (count j)) (given (count j ∷ []))) before.answer)) (over (flat j) before.list) before.list);
    }

-- by the columns that they lend
pub poured_lent : (g : Grammar) (l s : List ℕ) (i : InlineColumns ℕ) (before after : ListRuns) (f : Gathered) (c : RuleColumns ℕ) (r : ℕ) → AllGathered (fence_rules_of l) f → KeptColumns f i c
    → PouredBy g (columns_in (runs_of c)) s before after r → PouredBy g (rule_columns_in (record { fence_rules = l; inline = inline_runs_of i })) s before after r
poured_lent g l s i before after f c r w k v =
    let told : runs_of c ≡ record { fence_bytes = kept_bytes f; fence_mins = kept_mins f; inline = inline_runs_of i } = λ j. record { fence_bytes = k.bytes j; fence_mins = k.mins j; inline = inline_runs_of (k.inline j) } in
    poured_rules g (record { fence_rules = l; inline = inline_runs_of i }) s before after f r w (subst (λ (x : ColumnRuns). PouredBy g (columns_in x) s before after r) told v)

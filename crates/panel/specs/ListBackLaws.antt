-- Laws of lists read back: what an entry built in bytes is what the cursor's and the explanation's entries read. Assumes nothing.
-- The page: "each number of a list is four bytes, low byte first."
use Rattle.std.specs.Prelude.{◌≡◌, Bool, ℕ, zero, suc, ◌≤◌, length}
use Rattle.std.proofs.Math.Path.{ap}
use Rattle.std.proofs.Common.{subst, arith}
use mathlib.Core.List.{List, [], ◌∷◌}
use Rattle.common.specs.Entry.{flatten, over, wide}
use Rattle.common.specs.Refusals.{Outcome, given}
use Rattle.region.specs.Region.{row_of}
use Rattle.region.specs.Regions.{regions}
use Rattle.region.specs.Ahead.{regions-few}
use Rattle.rules.specs.Grammar.{Gram}
use Rattle.cover.specs.Cursor.{cover_answer, cover_next}
use Rattle.cells.specs.Bytes.{cells, row_bytes}
use Rattle.cells.specs.BackLaws.{Narrow, reply_back}
use Rattle.cells.specs.Reply.{Replied}
use Rattle.cells.specs.Poured.{ListRuns, BuiltAs}
use Rattle.pour.specs.Building.{region_bytes}
use Rattle.pour.specs.BackLaws.{built_back, built_passed}
use Rattle.explain.specs.Reasons.{explain_answer}
use Rattle.panel.specs.Covered.{behind, covered}

-- an entry that built by a grammar, from columns or from rules, and returned 0
module _ (g : Gram) (bad : Bool) (s : List ℕ) (before after : ListRuns) (w : BuiltAs region_bytes row_bytes bad (regions g s) s before after 0) where
  -- the answer run says how many regions there are
  pub built_count : cells after.answer ≡ over (1 ∷ length (regions g s) ∷ []) (cells before.answer)
  built_count =
      let e = built_passed (regions g s) bad s before after w in
      reply_back {o = given (length (regions g s) ∷ [])} (narrow e.0) (subst (λ (o : Outcome). Replied o before.answer after.answer 0) e.3 w.reply)
    where
      narrow : length s ≤ 4294967295 → Narrow (1 ∷ length (regions g s) ∷ [])
      narrow h zero j = omega arith
      narrow h (suc zero) j = omega (arith, regions-few g s)
      narrow h (suc (suc i)) j = absurd (omega arith)

  -- the cursor's entry answers of the list's bytes what the cursor answers of the numbers that building leaves
  pub built_covered : (count index place : ℕ)
      → covered after.list count index place ≡ behind (cover_next wide (over (flatten row_of (regions g s)) (cells before.list)) count index place) (cover_answer wide (over (flatten row_of (regions g s)) (cells before.list)) count index place)
  unfolding covered
  built_covered count index place = ap (λ (l : List ℕ). behind (cover_next wide l count index place) (cover_answer wide l count index place)) (built_back g bad s before after w)

  -- and so the explanation's: the reason of a line is that by the regions which building leaves
  pub built_explained : (count line : ℕ) → explain_answer (cells after.list) count s line ≡ explain_answer (over (flatten row_of (regions g s)) (cells before.list)) count s line
  built_explained count line = ap (λ (l : List ℕ). explain_answer l count s line) (built_back g bad s before after w)

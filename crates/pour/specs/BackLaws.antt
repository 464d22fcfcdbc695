-- The list that building leaves in bytes, read back as numbers, is the list that building leaves in numbers. Assumes nothing.
-- The page: "each number of a list is four bytes, low byte first."
use Rattle.std.specs.Prelude.{◌≡◌, refl, Bool, true, false, List, [], ◌∷◌, ◌++◌, ℕ, zero, suc, ◌/◌, ◌≤◌, ◌<◌, length}
use Rattle.std.proofs.Common.{sym, ap, ◌∙◌, arith, ltb-false}
use Rattle.common.specs.Entry.{flatten, room, over, wide}
use Rattle.common.specs.EntryLaws.{flatten-append}
use Rattle.common.specs.Lists.{crowded, build_answer}
use Rattle.common.specs.Refusals.{Outcome, given, refuse, too_long}
use Rattle.region.specs.Region.{Caused, InOrder, row_of}
use Rattle.region.specs.Regions.{regions}
use Rattle.region.specs.Ahead.{regions_in_order}
use Rattle.rules.specs.Grammar.{Gram}
use Rattle.cells.specs.Bytes.{four, cells, row_bytes}
use Rattle.cells.specs.BackLaws.{Narrow, cells_over, reply_served}
use Rattle.cells.specs.Poured.{ListRuns, BuiltAs}
use Rattle.cells.specs.CellLaws.{length-cells}
use Rattle.pour.specs.Building.{region_bytes}

-- the bytes of regions are those of their numbers
bytes_flat : (l : List Caused) → flatten region_bytes l ≡ flatten four (flatten row_of l)
bytes_flat [] = refl
bytes_flat (r ∷ l) = ap (λ (z : List ℕ). region_bytes r ++ z) (bytes_flat l) ∙ sym (flatten-append four (row_of r) (flatten row_of l))

-- the numbers of regions in order are not past the text
order_narrow : (from len : ℕ) → len < 4294967296 → (l : List Caused) → InOrder from len l → Narrow (flatten row_of l)
order_narrow from len h [] w i j = absurd (omega arith)
order_narrow from len h (r ∷ l) w zero j = omega arith
order_narrow from len h (r ∷ l) w (suc zero) j = omega arith
order_narrow from len h (r ∷ l) w (suc (suc i)) j = order_narrow r.stop len h l w.3 i (omega arith)

-- the regions of a text, written in bytes over a run, are read back: they stand over the front of the run's numbers
pub regions-back : (g : Gram) (s out : List ℕ) → length s ≤ 4294967295 → cells (over (flatten region_bytes (regions g s)) out) ≡ over (flatten row_of (regions g s)) (cells out)
regions-back g s out h =
    ap (λ (z : List ℕ). cells (over z out)) (bytes_flat (regions g s))
    ∙ cells_over (flatten row_of (regions g s)) out (order_narrow 0 (length s) (omega arith) (regions g s) (regions_in_order g s))

-- and there is as much room in the bytes as in the numbers
pub room_back : (out : List ℕ) → length out / row_bytes ≡ room wide (cells out)
room_back out = omega (arith, length-cells out)

-- ---- the entries
refused_none : (n : ℕ) (b : Bool) (o : Outcome) → (refuse (suc n) b o).number ≡ 0 → (b ≡ false) × (o.number ≡ 0)
refused_none n true o e = absurd (omega (arith, e))
refused_none n false o e = (refl, e)

-- building that returns 0 has passed every test, and answers how many regions there are
pub built_passed : (l : List Caused) (bad : Bool) (s : List ℕ) (before after : ListRuns) → BuiltAs region_bytes row_bytes bad l s before after 0
    → (length s ≤ 4294967295) × (bad ≡ false) × (crowded row_bytes l before.list ≡ false) × (build_answer row_bytes bad l s before.list ≡ given (length l ∷ []))
unfolding build_answer
built_passed l bad s before after w =
    let p = refused_none 0 (too_long s) _ (reply_served (build_answer row_bytes bad l s before.list) before.answer (sym w.reply.number)).1 in
    let q = refused_none 5 bad _ p.1 in
    let r = refused_none 2 (crowded row_bytes l before.list) _ q.1 in
    (ltb-false 4294967295 (length s) p.0, q.0, r.0, simp (p.0, q.0, r.0))

-- building into a list in bytes that returns 0 has left, read as numbers, the regions over the front of the run's numbers
pub built_back : (g : Gram) (bad : Bool) (s : List ℕ) (before after : ListRuns) → BuiltAs region_bytes row_bytes bad (regions g s) s before after 0 → cells after.list ≡ over (flatten row_of (regions g s)) (cells before.list)
built_back g bad s before after w =
    let v = reply_served (build_answer row_bytes bad (regions g s) s before.list) before.answer (sym w.reply.number) in
    ap cells (w.left ∙ rw v.0) ∙ regions-back g s before.list (built_passed (regions g s) bad s before after w).0

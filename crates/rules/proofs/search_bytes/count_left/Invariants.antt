-- `count_left` meets its contract: a loop over the 256 bytes. Assumes nothing.
use mathlib.Core.Bool.{not, ◌&&◌}
use lib.Dec.{ltb}
use lib.ListN.{take}
use Rattle.search.specs.Search.{one_of}
use Rattle.rules.specs.Columns.{sets_with}
use Rattle.rules.specs.LeftOutLaws.{CountedBelow}
use Rattle.rules.proofs.search_bytes.count_left.Given as goal

abbrev pub invariant-loop-x : goal.invariant-loop-x
invariant-loop-x l = CountedBelow (λ y. ltb 0 (sets_with l.a l.b l.c y) && not (one_of (take l.kept.count l.kept.bytes) y)) l.n l.x

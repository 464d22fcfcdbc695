-- `find_one_of` meets its contract: a loop that searches by a test. Assumes nothing.
use lib.ListN.{take}
use Rattle.search.specs.Search.{one_of}
use Rattle.search.specs.SearchLaws.{Seeks}
use Rattle.find.proofs.find_one_of.Given as goal

abbrev pub invariant-loop-i : goal.invariant-loop-i
invariant-loop-i l = Seeks (one_of (take l.n l.needles)) l.src l.from l.i

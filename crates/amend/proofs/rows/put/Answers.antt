-- `put` meets its contract. Assumes nothing.
use borrow.Author.Rules.{rules}
use lib.ListN.{length-set}
use Rattle.amend.proofs.rows.put.Goals as goal

pub bounds-out-k-2 : goal.bounds-out-k-2
bounds-out-k-2 c = simp length-set (search rules)

pub shape_of-out : goal.shape_of-out
shape_of-out c = simp length-set

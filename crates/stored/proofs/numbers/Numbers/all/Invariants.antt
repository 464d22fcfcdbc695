-- `Numbers::all` meets its contract: the numbers so far are folded in. Assumes nothing.
use Rattle.std.proofs.Common.{◌≡◌, take}
use Rattle.std.specs.List.{fold}
use Rattle.stored.specs.Numbers.{with_number}
use Rattle.stored.proofs.numbers.Numbers.all.Given as goal

abbrev pub invariant-loop-x : goal.invariant-loop-x
invariant-loop-x l = l.all ≡ fold with_number l.fn.self (take l.x-index l.run)

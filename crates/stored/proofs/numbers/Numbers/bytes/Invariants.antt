-- `Numbers::bytes` meets its contract: the bytes so far are folded in. Assumes nothing.
use Rattle.std.proofs.Common.{◌≡◌, take}
use Rattle.std.specs.List.{fold}
use Rattle.stored.specs.Numbers.{with_number}
use Rattle.stored.proofs.numbers.Numbers.bytes.Given as goal

abbrev pub invariant-loop-b : goal.invariant-loop-b
invariant-loop-b l = l.all ≡ fold with_number l.initial.all (take l.b-index l.bytes)

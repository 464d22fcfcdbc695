-- `read` meets its contract: the bytes so far are folded in. Assumes nothing.
use Rattle.std.proofs.Common.{◌≡◌, take}
use Rattle.std.specs.List.{fold}
use Rattle.stored.specs.Line.{nothing_read, after_byte}
use Rattle.stored.proofs.line.read.Given as goal

abbrev pub invariant-loop-b : goal.invariant-loop-b
invariant-loop-b l = l.reading ≡ fold after_byte nothing_read (take l.b-index l.text)

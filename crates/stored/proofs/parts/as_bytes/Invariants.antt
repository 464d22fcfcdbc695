-- `as_bytes` meets its contract: a loop that fills an array. Assumes nothing.
use Rattle.stored.specs.PartLaws.{Fronts}
use Rattle.stored.specs.Parts.{byte_at}
use Rattle.stored.proofs.parts.as_bytes.Given as goal

abbrev pub invariant-loop-i : goal.invariant-loop-i
invariant-loop-i l = Fronts (byte_at l.run) 128 128 l.byte-items l.i

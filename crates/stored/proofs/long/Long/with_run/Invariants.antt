-- `Long::with_run` meets its contract: the bytes that are left make of the text so far what all make of the first. Assumes nothing.
use Rattle.std.proofs.Common.{◌-◌}
use Rattle.stored.specs.LongLaws.{Runs}
use Rattle.stored.proofs.long.Long.with_run.Given as goal

abbrev pub invariant-loop : goal.invariant-loop
invariant-loop l = Runs l.initial.self l.byte l.times l.self (l.times - l.counter)

-- `power` meets its contract: the rule of the table of powers, over all of its entries. Assumes nothing.
use Prim.Native.Nat.{◌<◌}
use Rattle.common.specs.Rules.{tabulate}
use Rattle.block_numbered.specs.DigitLaws.{power_at}
use borrow.Author.Rules.{rules}
use Rattle.block_numbered.proofs.power.Goals as goal

pub returns : goal.returns
unfolding tabulate
returns c =
    let h : c.args.i < 9 = search rules in
    record { answer = rw power_at }

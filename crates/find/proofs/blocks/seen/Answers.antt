-- `seen` meets its contract: a loop that filters. Assumes nothing.
use borrow.Author.Rules.{rules}
use Rattle.find.specs.BlockLaws.{clear_first, clear_again, clear_whole}
use Rattle.find.proofs.blocks.seen.Goals as goal

pub loop-j-init : goal.loop-j-init
loop-j-init c = search (rules, clear_first)

pub loop-j-preserved : goal.loop-j-preserved
loop-j-preserved c = search (rules, clear_again)

pub returns : goal.returns
returns c = search clear_whole

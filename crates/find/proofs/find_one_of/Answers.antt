-- `find_one_of` meets its contract: a loop that searches by a test. Assumes nothing.
use Rattle.std.proofs.Common.{rules}
use Rattle.search.specs.SearchLaws.{told_rules}
use Rattle.find.specs.BlockLaws.{seeks_whole}
use Rattle.find.proofs.find_one_of.Goals as goal

pub loop-i-init : goal.loop-i-init
loop-i-init c = search told_rules

pub returns-then-is_one_of : goal.returns-then-is_one_of
returns-then-is_one_of c = search told_rules

pub loop-i-preserved : goal.loop-i-preserved
loop-i-preserved c = search told_rules

pub returns : goal.returns
returns c = search (rules, seeks_whole)

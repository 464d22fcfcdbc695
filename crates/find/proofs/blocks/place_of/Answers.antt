-- `place_of` meets its contract. Assumes nothing.
use borrow.Author.Rules.{rules}
use Rattle.find.specs.BlockLaws.{picked_yes, picked_no}
use Rattle.find.proofs.blocks.place_of.Goals as goal

pub returns-then-is_of_twelve : goal.returns-then-is_of_twelve
returns-then-is_of_twelve c = search (rules, picked_yes)

pub returns-else-is_of_twelve : goal.returns-else-is_of_twelve
returns-else-is_of_twelve c = search (rules, picked_no)

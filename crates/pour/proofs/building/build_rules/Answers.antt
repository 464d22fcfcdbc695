-- `build_rules` meets its contract. Assumes nothing.
use Rattle.cells.specs.PouredLaws.{build_long}
use Rattle.rules.specs.RuleBuilding.{rules_odd, rules_uneven, rules_built}
use Rattle.pour.proofs.building.build_rules.Goals as goal

pub returns-then-text-gt-MAX_INPUT_LEN : goal.returns-then-text-gt-MAX_INPUT_LEN
returns-then-text-gt-MAX_INPUT_LEN c = search build_long

pub returns-then-rules-ne0 : goal.returns-then-rules-ne0
returns-then-rules-ne0 c = search rules_odd

pub returns-then-differ : goal.returns-then-differ
returns-then-differ c = search rules_uneven

pub returns : goal.returns
returns c = search rules_built

-- `letter_on` meets its contract. Assumes nothing.
use Rattle.json_file.specs.PhaseLaws.{letter_rules}
use Rattle.json_file.proofs.phase.letter_on.Goals as goal

pub returns-in-StartT : goal.returns-in-StartT
returns-in-StartT c = search letter_rules

pub returns-in-StartA : goal.returns-in-StartA
returns-in-StartA c = search letter_rules

pub returns-in-StartR : goal.returns-in-StartR
returns-in-StartR c = search letter_rules

pub returns-in-StartLast : goal.returns-in-StartLast
returns-in-StartLast c = search letter_rules

pub returns-in-StartQuote : goal.returns-in-StartQuote
returns-in-StartQuote c = search letter_rules

pub returns-in-EndN : goal.returns-in-EndN
returns-in-EndN c = search letter_rules

pub returns-in-EndD : goal.returns-in-EndD
returns-in-EndD c = search letter_rules

pub returns-in-EndQuote : goal.returns-in-EndQuote
returns-in-EndQuote c = search letter_rules

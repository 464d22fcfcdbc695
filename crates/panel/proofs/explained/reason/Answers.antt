-- `reason` meets its contract. Assumes nothing.
use Rattle.panel.specs.ExplainedLaws.{reason_rules}
use Rattle.panel.proofs.explained.reason.Goals as goal

pub returns-in-OnSheet : goal.returns-in-OnSheet
returns-in-OnSheet c = search reason_rules

pub returns-in-NoLine : goal.returns-in-NoLine
returns-in-NoLine c = search reason_rules

pub returns-in-NoLead : goal.returns-in-NoLead
returns-in-NoLead c = search reason_rules

pub returns-in-TenDigits : goal.returns-in-TenDigits
returns-in-TenDigits c = search reason_rules

pub returns-in-NoDelimiter : goal.returns-in-NoDelimiter
returns-in-NoDelimiter c = search reason_rules

pub returns-in-NoBlank : goal.returns-in-NoBlank
returns-in-NoBlank c = search reason_rules

pub returns-in-Hidden : goal.returns-in-Hidden
returns-in-Hidden c = search reason_rules

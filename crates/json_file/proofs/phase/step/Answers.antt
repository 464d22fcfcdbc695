-- `step` meets its contract. Assumes nothing.
use Rattle.json_file.specs.PhaseLaws.{phase_rules}
use Rattle.json_file.proofs.phase.step.Goals as goal

pub returns-in-Begin : goal.returns-in-Begin
returns-in-Begin c = search phase_rules

pub returns-in-First : goal.returns-in-First
returns-in-First c = search phase_rules

pub returns-in-Next : goal.returns-in-Next
returns-in-Next c = search phase_rules

pub returns-in-Opened : goal.returns-in-Opened
returns-in-Opened c = search phase_rules

pub returns-in-Quoted : goal.returns-in-Quoted
returns-in-Quoted c = search phase_rules

pub returns-in-Naming : goal.returns-in-Naming
returns-in-Naming c = search phase_rules

pub returns-in-Colon : goal.returns-in-Colon
returns-in-Colon c = search phase_rules

pub returns-in-Value : goal.returns-in-Value
returns-in-Value c = search phase_rules

pub returns-in-Number : goal.returns-in-Number
returns-in-Number c = search phase_rules

pub returns-in-Member : goal.returns-in-Member
returns-in-Member c = search phase_rules

pub returns-in-Closed : goal.returns-in-Closed
returns-in-Closed c = search phase_rules

pub returns-in-Done : goal.returns-in-Done
returns-in-Done c = search phase_rules

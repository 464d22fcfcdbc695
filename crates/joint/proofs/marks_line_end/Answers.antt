-- `marks_line_end` meets its contract. Assumes nothing.
use Rattle.std.proofs.Common.{sym, ◌∙◌, eq-eqb}
use Rattle.search.specs.SearchLaws.{clash}
use Rattle.joint.specs.JointLaws.{marks_escape, symmetric_has, openers_have}
use Rattle.joint.proofs.marks_line_end.Goals as goal
use Rattle.joint.proofs.marks_line_end.Goals.{then-escape-eol, else-escape-eol}

pub returns-then-contains : goal.returns-then-contains
returns-then-contains c = record {
  answer = elim c.if-escape-eol.branch [
    | then-escape-eol w ↦ c.if-contains.true ∙ marks_escape _ _ _ _ w.if-escape-eol.true
    | else-escape-eol w ↦ c.if-contains.true ∙ symmetric_has _ _ _ _ w.if-escape-eol.false _ w.contains.ensures.value (sym w.value-is ∙ c.if-contains.true)
  ];
}

pub returns-else-contains : goal.returns-else-contains
returns-else-contains c = record {
  answer = elim c.if-escape-eol.branch [
    | then-escape-eol w ↦ absurd (clash (eq-eqb _ _ w.if-escape-eol.true) (sym w.value-is ∙ c.if-contains.false))
    | else-escape-eol w ↦ c.contains-else-contains.ensures.value ∙ openers_have _ _ _ _ w.if-escape-eol.false _ w.contains.ensures.value (sym w.value-is ∙ c.if-contains.false)
  ];
}

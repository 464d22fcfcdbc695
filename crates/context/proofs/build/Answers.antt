-- `build` meets its contract. Assumes nothing.
use Rattle.context.specs.BuildLaws.{built_long, built_differ, built_folded}
use Rattle.rules.specs.TableLaws.{tables_laid}
use Rattle.context.proofs.build.Goals as goal

pub returns-then-src-gt-MAX_INPUT_LEN : goal.returns-then-src-gt-MAX_INPUT_LEN
returns-then-src-gt-MAX_INPUT_LEN c = search built_long

pub returns-then-differ : goal.returns-then-differ
returns-then-differ c = search built_differ

pub returns : goal.returns
returns c = search (built_folded, tables_laid)

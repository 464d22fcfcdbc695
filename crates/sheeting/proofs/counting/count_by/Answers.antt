-- `count_by` meets its contract. Assumes nothing.
use Rattle.rules.specs.ByteRules.{runs_of}
use Rattle.rules.specs.TableLaws.{tables_laid}
use Rattle.sheeting.specs.SheetingLaws.{count_folded}
use Rattle.sheeting.proofs.counting.count_by.Goals as goal

pub returns : goal.returns
returns c =
    let w = tables_laid c.of.ensures c.fence_table.ensures c.no_rows.ensures c.lay_rules.ensures in
    count_folded c.args.g (runs_of c.args.rules) _ _ _ _ _ _ w c.byte_set-marker_set.ensures c.byte_set-delim_set.ensures _ _ _ _ c.count_shown.ensures c.values.ensures

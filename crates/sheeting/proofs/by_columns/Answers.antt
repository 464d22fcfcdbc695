-- `by_columns` meets its contract. Assumes nothing.
use Rattle.rules.specs.ByteRules.{runs_of}
use Rattle.rules.specs.TableLaws.{tables_laid}
use Rattle.sheeting.specs.SheetingLaws.{sheet_folded}
use Rattle.sheeting.proofs.by_columns.Goals as goal

pub returns : goal.returns
returns c =
    let w = tables_laid c.of.ensures c.fence_table.ensures c.no_rows.ensures c.lay_rules.ensures in
    sheet_folded c.args.g (runs_of c.args.rules) _ _ _ _ _ _ w c.byte_set-marker_set.ensures c.byte_set-delim_set.ensures _ _ _ c.pour_sheet.ensures

-- `sheet_listed` meets its contract. Assumes nothing.
use Rattle.listed.specs.ListedLaws.{listed_refused, listed_on}
use Rattle.listed.proofs.sheet_listed.Goals as goal

pub returns-in-Err : goal.returns-in-Err
returns-in-Err c = listed_refused _ _ _ _ _ _ _ _ c.in-Err.ensures c.number.ensures _

pub returns : goal.returns
returns c =
    let p = c.in-Ok.ensures in
    rw (← p.0, ← p.1, ← p.2)
    (listed_on _ _ _ _ _ _ c.in-Ok.judged.short c.in-Ok.judged.shaped _ _ _ c.byte_set-marker_set.ensures c.byte_set-delim_set.ensures _ _ c.fill.ensures)

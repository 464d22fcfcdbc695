-- `count_sheet` meets its contract. Assumes nothing.
use Rattle.std.proofs.lemmas.Result.{err_from_is_err_and}
use Rattle.sheet.specs.BeginLaws.{judged_refused, judged_counted}
use Rattle.sheet.proofs.count_sheet.Goals as goal

pub returns-in_err-judged : goal.returns-in_err-judged
returns-in_err-judged g c =
    let p = err_from_is_err_and c.from_residual.result c.from_residual.ensures.1 in
    let h = rw c.in_err-judged.was at c.judge.ensures in
    rw (p.1, p.2) (search judged_refused)

pub returns : goal.returns
returns g c = let p = c.in_ok-judged.ensures in rw (← p.0, ← p.1, ← p.2) (search judged_counted)

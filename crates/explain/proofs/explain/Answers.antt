-- `explain` meets its contract. Assumes nothing.
use Rattle.std.proofs.lemmas.Result.{err_from_is_err_and}
use Rattle.explain.proofs.AnswerLaws.{explain_long, explain_misshapen, explain_given}
use Rattle.explain.proofs.explain.Goals as goal

pub returns-in_err-led : goal.returns-in_err-led
returns-in_err-led g c =
    let p = err_from_is_err_and c.from_residual.result c.from_residual.ensures.1 in
    let e = c.in_err-led.was in
    rw (p.1, p.2) (search explain_long)

pub returns-then-is_misshapen : goal.returns-then-is_misshapen
returns-then-is_misshapen g c = let e = c.in_ok-led.was in search explain_misshapen

pub returns : goal.returns
returns g c = let e = c.in_ok-led.was in search explain_given

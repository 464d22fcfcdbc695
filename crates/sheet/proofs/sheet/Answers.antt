-- `sheet` meets its contract. Assumes nothing.
use Rattle.std.proofs.lemmas.Result.{err_from_is_err_and}
use Rattle.sheet.specs.BeginLaws.{sheet_off, within_ready, within_fits, sheet_done}
use Rattle.sheet.proofs.sheet.Goals as goal

pub returns-in_err-walk : goal.returns-in_err-walk
returns-in_err-walk g c =
    let p = err_from_is_err_and c.from_residual.result c.from_residual.ensures.1 in
    let e = c.in_err-walk.was in
    rw (p.1, p.2) (search sheet_off)

pub write_items-requires-clause-ready : goal.write_items-requires-clause-ready
write_items-requires-clause-ready g c = let e = c.in_ok-walk.was in search within_ready

pub write_items-requires-clause-feed_len_bound : goal.write_items-requires-clause-feed_len_bound
write_items-requires-clause-feed_len_bound g c = let e = c.in_ok-walk.was in search within_fits

pub returns : goal.returns
returns g c = let e = c.in_ok-walk.was in search sheet_done

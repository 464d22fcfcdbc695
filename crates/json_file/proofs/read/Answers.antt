-- `read` meets its contract. Assumes nothing.
use Rattle.std.specs.Prelude.{◌≡◌, Ok, Err}
use Rattle.std.proofs.lemmas.Result.{err_from_is_err_and}
use Rattle.json_file.specs.ReadLaws.{read_whole, read-room, read_unread, read_full, read_done}
use Rattle.json_file.proofs.read.Goals as goal

pub returns-then-out-n : goal.returns-then-out-n
returns-then-out-n c = let w : c.check.result ≡ Ok c.in_ok-n.n = c.in_ok-n.was in search read_full

pub write_rows-requires : goal.write_rows-requires
write_rows-requires c = let w : c.check.result ≡ Ok c.in_ok-n.n = c.in_ok-n.was in search (read_whole, read-room)

pub returns-in_err-n : goal.returns-in_err-n
returns-in_err-n c = let w : c.check.result ≡ Err c.in_err-n.field-0.0 = c.in_err-n.was in let p = err_from_is_err_and c.from_residual.result c.from_residual.ensures.1 in rw (p.1, p.2) (search read_unread)

pub returns : goal.returns
returns c = let w : c.check.result ≡ Ok c.in_ok-n.n = c.in_ok-n.was in search read_done

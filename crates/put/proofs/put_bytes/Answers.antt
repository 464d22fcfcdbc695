-- `put_bytes` meets its contract: the bytes that fit are copied. Assumes nothing.
use Rattle.put.specs.PutLaws.{put_copied, put_beyond}
use Rattle.put.proofs.put_bytes.Goals as goal

pub returns-then-n-out : goal.returns-then-n-out
returns-then-n-out c = put_copied c.args.piece.now c.args.out.now c.copy_from_slice.new.self c.args.n c.min-most.result c.if-n-out.true c.min-most.ensures c.copy_from_slice.ensures.after

pub returns-else-n-out : goal.returns-else-n-out
returns-else-n-out c = search put_beyond

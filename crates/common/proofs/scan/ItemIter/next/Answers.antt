-- `next` meets its contract. Assumes nothing.
use Rattle.common.specs.Kinds.{scanner_of}
use Rattle.common.specs.ScanningLaws.{next_long, next_past}
use Rattle.common.proofs.scan.ItemIter.next.Goals as goal

pub returns-then-len-gt-MAX_INPUT_LEN : goal.returns-then-len-gt-MAX_INPUT_LEN
returns-then-len-gt-MAX_INPUT_LEN g c = search (next_long (scanner_of g.row.K.Denot g.K.ItemKind.reading))

pub returns-then-pos-len : goal.returns-then-pos-len
returns-then-pos-len g c = search (next_past (scanner_of g.row.K.Denot g.K.ItemKind.reading))

-- `blank_within` meets its contract: the front before the end is searched. Assumes nothing.
use Rattle.std.proofs.Common.{rules}
use Rattle.search.specs.SearchLaws.{front_all}
use Rattle.search.proofs.blank_within.Goals as goal

pub returns : goal.returns
returns c = record { answer = front_all _ c.args.src.now c.args.from c.args.end c.min.result c.blank_end.result (search rules) c.blank_end.ensures }

-- `of` meets its contract. Assumes nothing.
use Rattle.rules.specs.ColumnLaws.{alphabet_is}
use Rattle.rules.proofs.search_bytes.Alphabet.of.Goals as goal

pub returns : goal.returns
returns g c = search alphabet_is

-- `sets_with` meets its contract. Assumes nothing.
use Rattle.rules.specs.LeftOutLaws.{two_flags, three_flags, sets_told}
use Rattle.rules.proofs.search_bytes.sets_with.Goals as goal

pub overflow_add-result : goal.overflow_add-result
overflow_add-result c = search two_flags

pub overflow_add-result-2 : goal.overflow_add-result-2
overflow_add-result-2 c = search three_flags

pub returns : goal.returns
returns c = search sets_told

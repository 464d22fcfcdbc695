-- `content` meets its contract. Assumes nothing.
use Rattle.common.specs.ContentLaws.{stretch_order, stretch-part}
use borrow.Author.Rules.{rules}
use Rattle.common.proofs.span.content.Goals as goal

pub slice_bounds-result-count : goal.slice_bounds-result-count
slice_bounds-result-count c = search (stretch_order, rules)

pub returns : goal.returns
returns c = search stretch-part

-- `start` meets its contract. Assumes nothing.
use Rattle.feed.specs.FeedLaws.{start_told}
use Rattle.feed.proofs.start.Goals as goal

pub returns : goal.returns
returns c = search start_told

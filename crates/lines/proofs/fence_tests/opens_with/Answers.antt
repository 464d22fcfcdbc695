-- `opens_with` meets its contract. Assumes nothing.
use Rattle.lines.specs.FenceLaws.{open_rules}
use Rattle.lines.proofs.fence_tests.opens_with.Goals as goal

pub returns-then-byte-eol : goal.returns-then-byte-eol
returns-then-byte-eol c = search open_rules

pub returns-then-i-pos : goal.returns-then-i-pos
returns-then-i-pos c = search open_rules

pub returns-then-c-least : goal.returns-then-c-least
returns-then-c-least c = search open_rules

pub returns-then-is_at : goal.returns-then-is_at
returns-then-is_at c = search open_rules

pub returns : goal.returns
returns c = search open_rules

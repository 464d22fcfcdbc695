-- `leads_from` meets its contract: a loop that runs back by a test, down to a place. Assumes nothing.
use Rattle.std.proofs.Common.{◌≡◌, arith}
use borrow.Author.Rules.{rules}
use Rattle.common.specs.LaterLaws.{look_rules}
use Rattle.common.proofs.items.leads_from.Goals as goal

pub returns-then-p-src : goal.returns-then-p-src
returns-then-p-src c = search look_rules

pub loop-at-init : goal.loop-at-init
loop-at-init c = search look_rules

pub returns-then-at-k : goal.returns-then-at-k
returns-then-at-k c = search (look_rules, rules)

pub loop-at-preserved : goal.loop-at-preserved
loop-at-preserved c =
    let off : ◌≡◌ c.loop-at.at c.args.k → ⊥ = λ e. c.if-at-k.false (omega (arith, e)) in
    search look_rules

pub returns-then-not-is_blank : goal.returns-then-not-is_blank
returns-then-not-is_blank c = search (look_rules, rules)

pub returns : goal.returns
returns c = search look_rules

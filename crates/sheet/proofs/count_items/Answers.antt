-- `count_items` meets its contract: a loop of turns that counts. Assumes nothing.
use Rattle.sheet.specs.ShowLaws.{turn_is, ready_hidden, ready_shown}
use Rattle.sheet.specs.LeftLaws.{tally_first, tally_end, tally_hidden, tally_shown, less_hidden, less_shown}
use Rattle.sheet.proofs.count_items.Goals as goal

pub loop-w-init : goal.loop-w-init
loop-w-init g c = search tally_first

pub returns-in-End : goal.returns-in-End
returns-in-End g c = let t = turn_is _ _ _ _ _ _ c.loop-w.invariant.1 c.turn-t.ensures in search tally_end

pub loop-w-smaller-in-Hidden : goal.loop-w-smaller-in-Hidden
loop-w-smaller-in-Hidden g c = let t = turn_is _ _ _ _ _ _ c.loop-w.invariant.1 c.turn-t.ensures in search less_hidden

pub loop-w-preserved-in-Hidden : goal.loop-w-preserved-in-Hidden
loop-w-preserved-in-Hidden g c = let t = turn_is _ _ _ _ _ _ c.loop-w.invariant.1 c.turn-t.ensures in search (tally_hidden, ready_hidden)

pub loop-w-smaller : goal.loop-w-smaller
loop-w-smaller g c = let t = turn_is _ _ _ _ _ _ c.loop-w.invariant.1 c.turn-t.ensures in search less_shown

pub loop-w-preserved : goal.loop-w-preserved
loop-w-preserved g c = let t = turn_is _ _ _ _ _ _ c.loop-w.invariant.1 c.turn-t.ensures in search (tally_shown, ready_shown)

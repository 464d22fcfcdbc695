-- `count_items` meets its contract: a loop of turns that counts. Assumes nothing.
use mathlib.Core.List.{map}
use lib.ListN.{length}
use Rattle.rules.specs.Tables.{gram_in}
use Rattle.feed.specs.Ahead.{ahead}
use Rattle.region.specs.Region.{row_of}
use Rattle.region.specs.Regions.{regions}
use Rattle.sheet.specs.LeftLaws.{Tallied}
use Rattle.sheeting.specs.Sheeting.{left_by, ReadyBy}
use Rattle.sheeting.proofs.count_items.Given as goal

abbrev pub invariant-loop-w : goal.invariant-loop-w
invariant-loop-w l =
    Tallied l.markers l.delims l.text (map row_of (regions (gram_in l.tables) l.text)) (left_by (gram_in l.tables) l.markers l.delims l.text l.initial.w) l.w.feed l.found
    × ReadyBy (gram_in l.tables) l.markers l.delims l.text l.dead l.w

abbrev pub decreases-loop-w : goal.decreases-loop-w
decreases-loop-w l = length (ahead l.markers l.delims l.text l.w.feed)

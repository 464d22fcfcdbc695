-- `write_items` meets its contract: a loop of turns that writes. Assumes nothing.
use mathlib.Core.List.{map}
use lib.ListN.{length}
use Rattle.rules.specs.Tables.{gram_in}
use Rattle.feed.specs.Ahead.{ahead}
use Rattle.region.specs.Region.{row_of}
use Rattle.region.specs.Regions.{regions}
use Rattle.sheet.specs.LeftLaws.{Writing}
use Rattle.sheeting.specs.Sheeting.{item_bytes, left_by, ReadyBy}
use Rattle.sheeting.proofs.write_items.Given as goal

abbrev pub invariant-loop-w : goal.invariant-loop-w
invariant-loop-w l =
    Writing l.markers l.delims l.text (map row_of (regions (gram_in l.tables) l.text)) item_bytes 20 (left_by (gram_in l.tables) l.markers l.delims l.text l.initial.w) l.initial.out l.w.feed l.out l.found
    × ReadyBy (gram_in l.tables) l.markers l.delims l.text l.dead l.w

abbrev pub decreases-loop-w : goal.decreases-loop-w
decreases-loop-w l = length (ahead l.markers l.delims l.text l.w.feed)

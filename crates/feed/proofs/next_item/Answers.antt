-- `next_item` meets its contract. Assumes nothing.
use Rattle.std.specs.Prelude.{Some, option_map}
use Rattle.std.proofs.Common.{ap, sym, ◌∙◌}
use Rattle.feed.specs.FeedLaws.{item-moved}
use Rattle.feed.proofs.next_item.Goals as goal

pub returns-in-Some : goal.returns-in-Some
returns-in-Some g c =
    item-moved g.row.K.Denot g.K.ItemKind.reading g.K.SheetKind.shown g.met.K.ItemKind.lawful.reads c.args.set.now c.args.src.now c.args.g c.next-step.result _ c.next-step.ensures c.unwrap_or.result c.unwrap_or.ensures
    (ap Some c.shown.ensures ∙ sym (ap (option_map g.K.SheetKind.shown) c.in-Some.is))

pub returns-in-None : goal.returns-in-None
returns-in-None g c =
    item-moved g.row.K.Denot g.K.ItemKind.reading g.K.SheetKind.shown g.met.K.ItemKind.lawful.reads c.args.set.now c.args.src.now c.args.g c.next-step.result _ c.next-step.ensures c.unwrap_or.result c.unwrap_or.ensures
    (sym (ap (option_map g.K.SheetKind.shown) c.in-None.is))

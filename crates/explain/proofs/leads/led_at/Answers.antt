-- `led_at` meets its contract. Assumes nothing.
use Rattle.explain.proofs.WayLaws.{led_read, line-front, front-short}
use Rattle.explain.proofs.leads.led_at.Goals as goal

pub slice_bounds-line-end : goal.slice_bounds-line-end
slice_bounds-line-end c = search line-front

pub body_led-requires : goal.body_led-requires
body_led-requires c = search front-short

pub returns : goal.returns
returns c = search led_read

-- What the parts of an explanation answer. Assumes nothing.
use Rattle.std.specs.Prelude.{cond, List, [], ◌∷◌, ℕ, ◌+◌, length, get_or, Err, None, Ok, Option, Result, Some}
use Rattle.search.specs.Search.{holds}
use Rattle.common.specs.Items.{blank}
use Rattle.common.specs.declared.span.Span.{Span}
use Rattle.cover.specs.declared.cursor.Cover.{Cover}
use Rattle.feed.specs.Items.{tested_place}
use Rattle.common.specs.Refusals.{too_long}
use Rattle.common.specs.declared.refusal.Refusal.TheVariants.{TextTooLong}
use Rattle.explain.specs.Reasons.{line_led}
use Rattle.common.specs.Grammars.{house_marks}
use Rattle.explain.specs.declared.leads.Lead.{Lead}
use Rattle.explain.specs.declared.leads.Lead.TheVariants as led
use Rattle.explain.specs.declared.Reason.{Reason}
use Rattle.explain.specs.declared.Reason.TheVariants as reason
use Rattle.common.specs.declared.refusal.Refusal.{Refusal}

-- where a line begins, if it exists
abbrev pub begins_at : Option ℕ → List ℕ
begins_at (Some a) = a ∷ []
begins_at None = []

-- what a marker or a delimiter at j leads in a text u up to a line's end: an item, if a separator or tab stands behind it
unfoldable pub sign_led : List ℕ → ℕ → ℕ → ℕ → Lead
sign_led u j kind number =
    cond (holds (blank house_marks) u (j + 1)) (led.Item (record { start = j + 2; end = length u; kind = kind; byte = get_or u j 0; number = number })) led.NoBlank

-- the place by which a region hides the line's item; 0 where the line has none
abbrev pub led_place : Lead → ℕ
led_place led.NoLine = 0
led_place led.NoLead = 0
led_place led.TenDigits = 0
led_place led.NoDelimiter = 0
led_place led.NoBlank = 0
led_place (led.Item i) = tested_place i

-- by which region a place is hidden, by what a query of it found
abbrev pub reason_by : ℕ → Span → Result (Option ℕ) Refusal → Reason
reason_by k r (Ok (Some e)) = reason.Hidden k r
reason_by k r (Ok None) = reason.OnSheet
reason_by k r (Err n) = reason.OnSheet

-- the reason of a line by what leads it, a query of its item's place, and the region at the query's index
abbrev pub reason_of : Lead → Cover → Span → Reason
reason_of led.NoLine c r = reason.NoLine
reason_of led.NoLead c r = reason.NoLead
reason_of led.TenDigits c r = reason.TenDigits
reason_of led.NoDelimiter c r = reason.NoDelimiter
reason_of led.NoBlank c r = reason.NoBlank
reason_of (led.Item i) c r = reason_by c.index r c.found

-- what leads a line, if the text is not too long
unfoldable pub line_answer : List ℕ → ℕ → Result Lead Refusal
line_answer s line = cond (too_long s) (Err TextTooLong) (Ok (line_led s line))

-- Why a line is not on the work sheet, and what an explanation answers. Assumes nothing.
-- Request 1: "for the house grammar, the panel must name one reason: the line doesn't exist, no marker or number leads it, ten digits or more,
-- digits with no accepted delimiter next, no separator or tab after the marker or delimiter, or hidden, and then by which region. The reason given
-- has to be the true one: the first of these, in this order, that holds under the rules, and "it is on the sheet" only when it is. … Refusals:
-- 1, 5 as for a work sheet."
use Rattle.std.specs.Prelude.{Bool, true, false, cond, not, ◌||◌, ◌&&◌, List, [], ◌∷◌, ℕ, suc, ◌+◌, min, ltb, leb, length, get_or, drop, Err, Ok, Result}
use Rattle.search.specs.Search.{digit}
use Rattle.decimal.specs.Decimal.{valued}
use Rattle.common.specs.Entry.{rows, wide}
use Rattle.common.specs.Refusals.{Outcome, given, refused, refuse, number_of, too_long, span_values}
use Rattle.common.specs.declared.refusal.Refusal.{Refusal}
use Rattle.common.specs.Items.{blank, line_bytes, leading, beyond}
use Rattle.common.specs.Sets.{is_marker, is_delimiter}
use Rattle.common.specs.Grammars.{house_marks}
use Rattle.common.specs.LineStarts.{line_at}
use Rattle.cover.specs.Cursor.{covers}
use Rattle.cover.specs.Shape.{misshapen}
use Rattle.feed.specs.Items.{tested_place}
use Rattle.feed.specs.declared.item.SheetItem.{SheetItem}
use Rattle.explain.specs.declared.leads.Lead.{Lead}
use Rattle.explain.specs.declared.leads.Lead.TheVariants as led
use Rattle.explain.specs.declared.Reason.{Reason}
use Rattle.explain.specs.declared.Reason.TheVariants as reason

-- ---- a line, by its bytes without its line end
-- whether there is no first byte, or it fails a test
abbrev pub lacks : (ℕ → Bool) → List ℕ → Bool
lacks t [] = true
lacks t (x ∷ l) = not (t x)

-- From here on r is what follows a line's leading separators and tabs: the digits that lead it, and what follows these, which is from the
-- marker or the delimiter on
abbrev pub digits : List ℕ → List ℕ
digits r = leading digit r

abbrev pub sign : List ℕ → List ℕ
sign r = beyond digit r

-- "no marker or number leads it": a number leads where a digit does, or the next two reasons could never be given
abbrev pub no_lead : List ℕ → Bool
no_lead r = lacks (λ x. is_marker x || digit x) r

-- "ten digits or more"
abbrev pub ten_digits : List ℕ → Bool
ten_digits r = leb 10 (length (digits r))

-- "digits with no accepted delimiter next"
abbrev pub no_delimiter : List ℕ → Bool
no_delimiter r = ltb 0 (length (digits r)) && lacks is_delimiter (sign r)

-- "no separator or tab after the marker or delimiter"
abbrev pub no_blank : List ℕ → Bool
no_blank r = lacks (blank house_marks) (drop 1 (sign r))

-- the item of a line whose r begins at p: its content is what stands behind the marker or delimiter and the separator or tab
abbrev pub item_of : ℕ → List ℕ → SheetItem
item_of p r = record {
  start = p + length (digits r) + 2;
  end = p + length r;
  kind = min (length (digits r)) 1;
  byte = get_or (sign r) 0 0;
  number = valued (digits r);
}

-- "the first of these, in this order, that holds", but for what is hidden
unfoldable pub led_from : ℕ → List ℕ → Lead
led_from p r =
    cond (no_lead r) led.NoLead
    (cond (ten_digits r) led.TenDigits
    (cond (no_delimiter r) led.NoDelimiter
    (cond (no_blank r) led.NoBlank
    (led.Item (item_of p r)))))

-- that of a line which begins at a and whose bytes are l
unfoldable pub led_by : ℕ → List ℕ → Lead
led_by a l = led_from (a + length (leading (blank house_marks) l)) (beyond (blank house_marks) l)

-- that of a line by where it begins; "the line doesn't exist" where it begins nowhere
abbrev pub led_at : List ℕ → List ℕ → Lead
led_at s [] = led.NoLine
led_at s (a ∷ l) = led_by a (line_bytes house_marks s a)

-- that of a line by its number
unfoldable pub line_led : List ℕ → ℕ → Lead
line_led s line = led_at s (line_at 10 s line)

-- ---- "or hidden, and then by which region"
-- the regions that hold a place, each behind its number, where the first has number k
unfoldable pub hiders : ℕ → ℕ → List (List ℕ) → List (List ℕ)
hiders k p [] = []
hiders k p (r ∷ l) = elim (covers p r) [ true ↦ (k ∷ r) ∷ hiders (suc k) p l | false ↦ hiders (suc k) p l ]

-- 6, the region's number and its row; 0 where no region hides it
abbrev pub hidden_by : List (List ℕ) → List ℕ
hidden_by [] = 0 ∷ []
hidden_by (h ∷ l) = 6 ∷ h

-- ---- the reason, as numbers
unfoldable pub why : List (List ℕ) → Lead → List ℕ
why regions led.NoLine = 1 ∷ []
why regions led.NoLead = 2 ∷ []
why regions led.TenDigits = 3 ∷ []
why regions led.NoDelimiter = 4 ∷ []
why regions led.NoBlank = 5 ∷ []
why regions (led.Item i) = hidden_by (hiders 0 (tested_place i) regions)

-- ---- the answer
-- "Refusals: 1, 5 as for a work sheet."
unfoldable pub explain_answer : List ℕ → ℕ → List ℕ → ℕ → Outcome
explain_answer l n s line = refuse 1 (too_long s) (refuse 5 (misshapen l n (length s)) (given (why (rows wide n l) (line_led s line))))

-- ---- what the code's values stand for
abbrev pub reason_values : Reason → List ℕ
reason_values reason.OnSheet = 0 ∷ []
reason_values reason.NoLine = 1 ∷ []
reason_values reason.NoLead = 2 ∷ []
reason_values reason.TenDigits = 3 ∷ []
reason_values reason.NoDelimiter = 4 ∷ []
reason_values reason.NoBlank = 5 ∷ []
reason_values (reason.Hidden k r) = 6 ∷ k ∷ span_values r

abbrev pub told_explained : Result Reason Refusal → Outcome
told_explained (Ok r) = given (reason_values r)
told_explained (Err r) = refused (number_of r)

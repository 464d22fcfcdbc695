-- Kinds of items that lead a line: the scanner that a kind's states are of, and what the code's turns and answers say. Assumes nothing.
use Rattle.std.specs.Prelude.{List, [], ℕ, Err, None, Ok, Option, Result, Some}
use Rattle.common.specs.Refusals.{Outcome, given, refused, number_of}
use Rattle.common.specs.Turn.{Turn, go, stop, found}
use Rattle.common.specs.Items.{ItemGrammar}
use Rattle.common.specs.Scanning.{Fields, Scanner}
use Rattle.common.specs.declared.refusal.Refusal.{Refusal}
use Rattle.common.specs.declared.scan.ItemIter.{ItemIter}
use Rattle.common.specs.declared.scan.ItemLead.{ItemLead}
use Rattle.common.specs.declared.span.Span.{Span}
use Rattle.common.specs.declared.turn.Turn as code
use Rattle.common.specs.declared.turn.Turn.TheVariants.{Go, Stop, Found}

-- how a kind's items are read: one turn of its streaming scan and of its line scan, by what they read by; an item's values, and the item of
-- such values
pub record ItemReading (A : Type 0) : Type 0 where
  pub streams : ItemGrammar → List ℕ → ℕ → Turn A
  pub lines : ItemGrammar → List ℕ → ℕ → Turn A
  pub values : A → List ℕ
  pub back : List ℕ → A

module _ (K : Type 0) where
  -- the fields of a kind's state, and the state that has them
  abbrev pub fields_of : ItemIter K → Fields
  fields_of g = record { eol = g.eol; sep = g.sep; tab = g.tab; pos = g.pos; needles = g.needles; nn = g.nn; streaming = g.streaming }

  abbrev pub made_of : Fields → ItemIter K
  made_of f = record { eol = f.eol; sep = f.sep; tab = f.tab; pos = f.pos; needles = f.needles; nn = f.nn; streaming = f.streaming; kind = record {} }

  -- the scanner of a kind's items
  abbrev pub scanner_of : {A : Type 0} → ItemReading A → Scanner (ItemIter K) A
  scanner_of r = record { fields = fields_of; made = made_of; streams = r.streams; lines = r.lines; values = r.values; back = r.back }

-- ---- what the code's values stand for, where `make` makes an item of what leads its line and of its span
module _ {V A : Type 0} (make : V → Span → A) where
  abbrev pub made_item : ItemLead V → A
  made_item l = make l.value (record { start = l.content.start; end = l.content.end })

  -- a turn
  abbrev pub view : code.Turn (ItemLead V) → Turn A
  view (Go n) = go n
  view (Stop v) = stop v
  view (Found l n) = found (made_item l) n

-- what a step's answer says, by the values of an item
abbrev pub told_by : {A : Type 0} → (A → List ℕ) → Result (Option A) Refusal → Outcome
told_by values (Ok (Some a)) = given (values a)
told_by values (Ok None) = given []
told_by values (Err r) = refused (number_of r)

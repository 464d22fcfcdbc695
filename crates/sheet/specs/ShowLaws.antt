-- Laws of what the list hides: the ways out of a query and of a turn. Assumes nothing.
use Rattle.std.specs.Prelude.{◌≡◌, refl, Bool, true, false, cond, List, [], ◌∷◌, ◌⊎◌, ℕ, Err, None, Ok, Option, Result, Some}
use Rattle.std.proofs.Common.{sym, ap, subst, ◌∙◌, inl, inr, arith}
use Rattle.search.specs.Promise.{Gives, Steps}
use Rattle.search.specs.SearchLaws.{decide}
use Rattle.common.specs.Refusals.{Outcome, told_found}
use Rattle.common.specs.Entry.{rows, wide}
use Rattle.cover.specs.Cursor.{cover_answer, cover_next, covers, coverage, Ended}
use Rattle.cover.proofs.CursorLaws.{query_ended}
use Rattle.cover.specs.declared.cursor.Cover.{Cover}
use Rattle.feed.specs.Items.{tested_place}
use Rattle.sheet.specs.Sheet.{inside}
use Rattle.feed.specs.Feeds.{taken}
use Rattle.sheet.specs.Parts.{SortedRows, is_at, Hid, some, asked, seen_by, turned, Ready, TurnedBy}
use Rattle.sheet.specs.LeftLaws.{item_later, item-onward, left_end, left_hidden, left-shown}
use Rattle.feed.specs.declared.item.SheetItem.{SheetItem}
use Rattle.feed.specs.declared.Taken.{Taken}
use Rattle.sheet.specs.declared.Walk.{Walk}
use Rattle.sheet.specs.declared.SheetStep.{SheetStep}
use Rattle.sheet.specs.declared.Query.{Query}
use Rattle.sheet.specs.declared.item.Seen.{Seen}
use Rattle.sheet.specs.declared.item.Seen.TheVariants as seen
use Rattle.common.specs.declared.refusal.Refusal.{Refusal}

-- ---- a query
covered : (p : ℕ) (regions : List (List ℕ)) → some (coverage p regions) ≡ inside regions p
unfolding some coverage inside
covered p [] = refl
covered p (r ∷ l) = by (covered p l) (decide (covers p r))
  where
    by : some (coverage p l) ≡ inside l p → (covers p r ≡ true) ⊎ (covers p r ≡ false) → some (coverage p (r ∷ l)) ≡ inside (r ∷ l) p
    by ih (inl u) = rw (u, coverage)
    by ih (inr u) = rw (u, coverage) ih

at_some : (f : Result (Option ℕ) Refusal) → is_at f ≡ some (told_found f).values
unfolding some
at_some (Ok (Some q)) = refl
at_some (Ok None) = refl
at_some (Err r) = refl

-- the cursor's answer is plain coverage
pub hid : (l : List ℕ) (n index place p : ℕ) (c : Cover) (b : Bool) → SortedRows l n → Ended wide l n index place → Gives place p → Steps (cover_answer wide l n index p) (cover_next wide l n index p) (told_found c.found) c.index → Gives (is_at c.found) b
    → Hid l n place (record { hidden = b; index = c.index })
hid l n index place p c b o e gp q g =
    let w = query_ended wide (omega arith) l n 0 o.len o.order o.fits e (subst (λ (k : ℕ). Steps (cover_answer wide l n index k) (cover_next wide l n index k) (told_found c.found) c.index) gp.answer q) in
    record {
      hidden = g.answer ∙ at_some c.found ∙ ap (λ (r : Outcome). some r.values) w.0 ∙ covered place (rows wide n l);
      ended = w.1;
    }

-- an item's query, whatever the list
pub query_asked : (l : List ℕ) (n index : ℕ) (i : SheetItem) (p : ℕ) (c : Cover) (b : Bool) → Gives (tested_place i) p → Steps (cover_answer wide l n index p) (cover_next wide l n index p) (told_found c.found) c.index → Gives (is_at c.found) b
    → Gives (asked l n index i) (record { hidden = b; index = c.index })
query_asked l n index i p c b gp q g =
    let h : b ≡ some (cover_answer wide l n index p).values = g.answer ∙ at_some c.found ∙ ap (λ (r : Outcome). some r.values) q.answer in
    record {
      answer =
          ap (λ (x : Bool). record { hidden = x; index = c.index }) h
          ∙ ap (λ (k : ℕ). record { hidden = some (cover_answer wide l n index p).values; index = k }) q.next
          ∙ ap (λ (k : ℕ). record { hidden = some (cover_answer wide l n index k).values; index = cover_next wide l n index k }) gp.answer;
    }

-- on a list in order it is plain coverage
asked_hides : (l : List ℕ) (n index : ℕ) (i : SheetItem) → SortedRows l n → Ended wide l n index (tested_place i) → Hid l n (tested_place i) (asked l n index i)
asked_hides l n index i o e =
    let w = query_ended wide (omega arith) l n 0 o.len o.order o.fits e (record { answer = refl; next = refl }) in
    record {
      hidden = ap (λ (r : Outcome). some r.values) w.0 ∙ covered (tested_place i) (rows wide n l);
      ended = w.1;
    }

-- ---- a turn
module _ (markers delims : List Bool) (l : List ℕ) (n : ℕ) (s : List ℕ) (f : Walk) (t : Taken) where
  pub turned_end : (k : ℕ) → t.head ≡ None → Gives (taken markers delims s f.feed) t → Ready markers delims l n s f → TurnedBy markers delims l n s f (record { seen = seen.End; rest = record { feed = t.rest; index = k } })
  turned_end k e g r = left_end markers delims s (rows wide n l) r.low f.feed r.onward t g _ e

  module _ (i : SheetItem) (e : t.head ≡ Some i) (g : Gives (taken markers delims s f.feed) t) (r : Ready markers delims l n s f) where
    -- the item's place is not before the last one
    pub item_ended : Ended wide l n f.index (tested_place i)
    item_ended = record { within = r.ended.within; before = λ j h. omega (arith, r.ended.before j h, item_later markers delims s (rows wide n l) r.low f.feed r.onward t g i e) }

    module _ (q : Query) (h : Hid l n (tested_place i) q) where
      -- what comes after it, with the cursor moved on
      goes_on : Ready markers delims l n s (record { feed = t.rest; index = q.index })
      goes_on = record {
        low = tested_place i;
        onward = item-onward markers delims s (rows wide n l) r.low f.feed r.onward t g i e;
        orderly = r.orderly;
        ended = h.ended;
      }

      pub turned_hidden : q.hidden ≡ true → TurnedBy markers delims l n s f (record { seen = seen.Hidden; rest = record { feed = t.rest; index = q.index } })
      turned_hidden u = left_hidden markers delims s (rows wide n l) r.low f.feed r.onward t g i e goes_on (sym h.hidden ∙ u)

      pub turned_shown : q.hidden ≡ false → TurnedBy markers delims l n s f (record { seen = seen.Shown i; rest = record { feed = t.rest; index = q.index } })
      turned_shown u = left-shown markers delims s (rows wide n l) r.low f.feed r.onward t g i e goes_on (sym h.hidden ∙ u)

-- what a turn answers keeps its promise
module _ (markers delims : List Bool) (l : List ℕ) (n : ℕ) (s : List ℕ) (f : Walk) (r : Ready markers delims l n s f) where
  turn_at : (h : Option SheetItem) → (taken markers delims s f.feed).head ≡ h → TurnedBy markers delims l n s f (seen_by l n f.index (taken markers delims s f.feed).rest h)
  turn_at None e = turned_end markers delims l n s f (taken markers delims s f.feed) f.index e (record { answer = refl }) r
  turn_at (Some i) e = by (decide (asked l n f.index i).hidden)
    where
      h : Hid l n (tested_place i) (asked l n f.index i)
      h = asked_hides l n f.index i r.orderly (item_ended markers delims l n s f (taken markers delims s f.feed) i e (record { answer = refl }) r)

      by : ((asked l n f.index i).hidden ≡ true) ⊎ ((asked l n f.index i).hidden ≡ false) → TurnedBy markers delims l n s f (seen_by l n f.index (taken markers delims s f.feed).rest (Some i))
      by (inl u) = rw u (turned_hidden markers delims l n s f (taken markers delims s f.feed) i e (record { answer = refl }) r (asked l n f.index i) h u)
      by (inr u) = rw u (turned_shown markers delims l n s f (taken markers delims s f.feed) i e (record { answer = refl }) r (asked l n f.index i) h u)

  pub turn_is : {t : SheetStep} → Gives (turned markers delims l n s f) t → TurnedBy markers delims l n s f t
  turn_is g = subst (TurnedBy markers delims l n s f) (sym g.answer) (turn_at (taken markers delims s f.feed).head refl)

-- the ways out of a turn
module _ (markers delims : List Bool) (l : List ℕ) (n : ℕ) (s : List ℕ) (f : Walk) (t : Taken) (g : Gives (taken markers delims s f.feed) t) where
  turn_same : seen_by l n f.index t.rest t.head ≡ turned markers delims l n s f
  turn_same = ap (λ (x : Taken). seen_by l n f.index x.rest x.head) g.answer

  pub turn_end : t.head ≡ None → Gives (turned markers delims l n s f) (record { seen = seen.End; rest = record { feed = t.rest; index = f.index } })
  turn_end e = record { answer = sym (ap (seen_by l n f.index t.rest) e) ∙ turn_same }

  module _ (i : SheetItem) (e : t.head ≡ Some i) (q : Query) (a : Gives (asked l n f.index i) q) where
    turn_item : (x : Seen) → cond q.hidden seen.Hidden (seen.Shown i) ≡ x → Gives (turned markers delims l n s f) (record { seen = x; rest = record { feed = t.rest; index = q.index } })
    turn_item x h = record {
      answer =
          ap (λ (y : Seen). record { seen = y; rest = record { feed = t.rest; index = q.index } }) (sym h)
          ∙ ap (λ (q : Query). record { seen = cond q.hidden seen.Hidden (seen.Shown i); rest = record { feed = t.rest; index = q.index } }) a.answer
          ∙ sym (ap (seen_by l n f.index t.rest) e) ∙ turn_same;
    }

    pub turn_hidden : q.hidden ≡ true → Gives (turned markers delims l n s f) (record { seen = seen.Hidden; rest = record { feed = t.rest; index = q.index } })
    turn_hidden u = turn_item seen.Hidden (rw u)

    pub turn_shown : q.hidden ≡ false → Gives (turned markers delims l n s f) (record { seen = seen.Shown i; rest = record { feed = t.rest; index = q.index } })
    turn_shown u = turn_item (seen.Shown i) (rw u)

-- unless that was the end it may go on
module _ (markers delims : List Bool) (l : List ℕ) (n : ℕ) (s : List ℕ) (f : Walk) (t : SheetStep) where
  pub ready_hidden : t.seen ≡ seen.Hidden → TurnedBy markers delims l n s f t → Ready markers delims l n s t.rest
  ready_hidden e w = (rw e at w.goes).0

  pub ready_shown : (i : SheetItem) → t.seen ≡ seen.Shown i → TurnedBy markers delims l n s f t → Ready markers delims l n s t.rest
  ready_shown i e w = (rw e at w.goes).0

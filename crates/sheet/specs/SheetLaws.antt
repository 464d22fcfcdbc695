-- Laws of making a work sheet: an item written, the ways out of filling and of the entry, and that its promise leaves one answer and one run. Assumes nothing.
use Rattle.std.specs.Prelude.{◌≡◌, refl, Bool, true, false, List, [], ◌∷◌, ℕ, ◌+◌, ◌*◌, ◌/◌, ◌≤◌, ◌<◌, length, set, Result}
use Rattle.std.proofs.Math.Path.{sym, ap}
use Rattle.std.proofs.Common.{subst, ◌∙◌, add_assoc, arith, lt-ltb, le-ltb}
use Rattle.search.specs.Promise.{Gives}
use Rattle.common.specs.Refusals.{Outcome, given, refused, told}
use Rattle.common.specs.RefusalLaws.{answer_unique}
use Rattle.common.specs.Entry.{rows, room, wide}
use Rattle.common.specs.Lists.{RowPut, Wrote, Filled}
use Rattle.common.specs.ListLaws as list
use Rattle.common.specs.declared.grammar.Grammar.{Grammar}
use Rattle.cover.specs.Shape.{misshapen}
use Rattle.cover.specs.ShapeLaws.{shape_fits, shape_order}
use Rattle.sheet.specs.Sheet.{five, outside, sheet_of, sheet_judged, sheet_answer, sheet_list, Sheeted}
use Rattle.feed.specs.Feeds.{fresh_feed}
use Rattle.feed.specs.FeedLaws.{Started, started}
use Rattle.sheet.specs.Parts.{left, Ready}
use Rattle.sheet.specs.LeftLaws.{started_onward, left-few}
use Rattle.feed.specs.declared.item.SheetItem.{SheetItem}
use Rattle.feed.specs.declared.Feed.{Feed}
use Rattle.common.specs.declared.refusal.Refusal.{Refusal}

pub five-numbers : (i : SheetItem) → length (five i) ≡ 5
five-numbers i = refl

-- what five stores leave
pub item_put : (n : ℕ) (i : SheetItem) (out : List ℕ) → RowPut (five i) n out (set (set (set (set (set out (n * 5) i.start) (n * 5 + 1) i.end) (n * 5 + 2) i.kind) (n * 5 + 3) i.byte) (n * 5 + 4) i.number) (n + 1)
item_put n i out = record { next = refl; list = simp add_assoc }

-- ---- the ways out of filling: `most` is the room
module _ (g : Grammar) (markers delims : List Bool) (l : List ℕ) (n : ℕ) (s : List ℕ) (a : Feed) (short : length s ≤ 4294967295) (d : Gives (fresh_feed g markers delims s) a) where
  w : Started g markers delims s a
  w = started g markers delims s a short d

  -- all items are left
  pub started_left : left markers delims s (rows wide n l) a ≡ sheet_of g markers delims l n s
  unfolding left sheet_of
  started_left = ap (outside (rows wide n l)) w.same

  pub started_ready : misshapen l n (length s) ≡ false → Ready markers delims l n s (record { feed = a; index = 0 })
  started_ready m = record {
    low = 0;
    onward = started_onward g markers delims s a w;
    orderly = record { fits = shape_fits l n (length s) m; len = length s; order = shape_order l n (length s) m };
    ended = record { within = omega arith; before = λ j h. absurd (omega arith) };
  }

  pub sheet-few : length (left markers delims s (rows wide n l) a) ≤ length s
  sheet-few = left-few markers delims s (rows wide n l) 0 a (started_onward g markers delims s a w)

  module _ (out : List ℕ) (most : ℕ) (hm : most ≡ length out / 5) where
    -- there is room
    pub room_roomy : length s ≤ most → length (left markers delims s (rows wide n l) a) ≤ room 5 out
    room_roomy h = omega (arith, sheet-few)

    -- what fills by the items left fills by the sheet
    left-filled : (out' : List ℕ) (o : Outcome) → Filled five 5 (left markers delims s (rows wide n l) a) out out' o → Filled five 5 (sheet_of g markers delims l n s) out out' o
    left-filled out' o v = subst (λ (x : List SheetItem). Filled five 5 x out out' o) started_left v

    pub fill_roomy : (out' : List ℕ) (k : ℕ) → length s ≤ most → Wrote five (left markers delims s (rows wide n l) a) out out' k → Filled five 5 (sheet_of g markers delims l n s) out out' (given (k ∷ []))
    fill_roomy out' k h v = left-filled out' _ (list.fill_done five 5 _ out most hm out' k (omega (arith, sheet-few)) v)

    pub fill_full : (k : ℕ) → most < k → Gives (length (left markers delims s (rows wide n l) a)) k → Filled five 5 (sheet_of g markers delims l n s) out out (refused 3)
    fill_full k h c = left-filled out _ (list.fill_full five 5 _ out most hm k h c)

    pub fill_counted : (out' : List ℕ) (j k : ℕ) → j ≤ most → Gives (length (left markers delims s (rows wide n l) a)) j → Wrote five (left markers delims s (rows wide n l) a) out out' k → Filled five 5 (sheet_of g markers delims l n s) out out' (given (k ∷ []))
    fill_counted out' j k h c v = left-filled out' _ (list.fill_counted five 5 _ out most hm j out' k h c v)

-- ---- the refusals that the text and the list decide
module _ (l : List ℕ) (n : ℕ) (s : List ℕ) (o : Outcome) where
  pub judged_long : 4294967295 < length s → sheet_judged l n s o ≡ refused 1
  unfolding sheet_judged
  judged_long h = simp (lt-ltb 4294967295 (length s) h)

  module _ (short : length s ≤ 4294967295) (y : Bool) where
    pub judged-misshapen : y ≡ true → Gives (misshapen l n (length s)) y → sheet_judged l n s o ≡ refused 5
    unfolding sheet_judged
    judged-misshapen e m = simp (le-ltb 4294967295 (length s) short, ← m.answer, e)

    pub judged_on : y ≡ false → Gives (misshapen l n (length s)) y → sheet_judged l n s o ≡ o
    unfolding sheet_judged
    judged_on e m = simp (le-ltb 4294967295 (length s) short, ← m.answer, e)

-- ---- the ways out of the entry
module _ (g : Grammar) (markers delims : List Bool) (l : List ℕ) (n : ℕ) (s out : List ℕ) where
  pub sheet_long : 4294967295 < length s → Sheeted g markers delims l n s out out (refused 1)
  unfolding sheet_answer sheet_list
  sheet_long h = record { answer = sym (judged_long l n s _ h); list = rw (judged_long l n s _ h) }

  module _ (short : length s ≤ 4294967295) (y : Bool) where
    pub sheet-misshapen : y ≡ true → Gives (misshapen l n (length s)) y → Sheeted g markers delims l n s out out (refused 5)
    unfolding sheet_answer sheet_list
    sheet-misshapen e m = record { answer = sym (judged-misshapen l n s _ short y e m); list = rw (judged-misshapen l n s _ short y e m) }

    pub sheet-filled : (out' : List ℕ) (o : Outcome) → y ≡ false → Gives (misshapen l n (length s)) y → Filled five 5 (sheet_of g markers delims l n s) out out' o → Sheeted g markers delims l n s out out' o
    unfolding sheet_answer sheet_list
    sheet-filled out' o e m v = record { answer = v.answer ∙ sym (judged_on l n s _ short y e m); list = v.list ∙ rw (judged_on l n s _ short y e m) }

pub shape_told : (l : List ℕ) (n len : ℕ) (y : Bool) → y ≡ false → Gives (misshapen l n len) y → misshapen l n len ≡ false
shape_told l n len y e m = sym m.answer ∙ e

-- two results for the same arguments are one: the answer, and the run that is left
pub sheet_unique : {g : Grammar} {markers delims : List Bool} {l : List ℕ} {n : ℕ} {s out out' out'' : List ℕ} {r r' : Result ℕ Refusal} → Sheeted g markers delims l n s out out' (told r) → Sheeted g markers delims l n s out out'' (told r')
    → (r ≡ r') × (out' ≡ out'')
sheet_unique {g = g} {markers = markers} {delims = delims} {l = l} {n = n} {s = s} {out = out} a b =
    (answer_unique {o = sheet_answer 5 g markers delims l n s out} (record { answer = a.answer }) (record { answer = b.answer }), a.list ∙ sym b.list)

-- Laws of the work sheet by a region list in bytes: that its promises leave one result, and the ways out of its functions. Assumes nothing.
use Rattle.std.specs.Prelude.{◌≡◌, refl, Bool, true, false, ℕ, ◌/◌, ◌≤◌, ◌<◌, leb, length, Err, Ok, Result, Some}
use Rattle.std.proofs.Common.{sym, ap, subst, ◌∙◌, arith, le-leb, ltb-false, ne_eqb}
use mathlib.Core.List.{List, [], ◌∷◌}
use Rattle.search.specs.Promise.{Gives}
use Rattle.common.specs.Entry.{flatten, rows, room, wide}
use Rattle.common.specs.Lists.{Wrote, filled_answer}
use Rattle.common.specs.RefusalLaws.{number_some}
use Rattle.common.specs.Refusals.{Outcome, given, refused, refuse, number_of, told, too_long}
use Rattle.common.specs.declared.refusal.Refusal.{Refusal}
use Rattle.common.specs.Sets.{set_of}
use Rattle.common.specs.declared.grammar.Grammar.{Grammar}
use Rattle.cover.specs.Shape.{misshapen}
use Rattle.feed.specs.Feeds.{fresh_feed}
use Rattle.feed.specs.declared.item.SheetItem.{SheetItem}
use Rattle.feed.specs.declared.Feed.{Feed}
use Rattle.sheet.specs.Sheet.{sheet_of, sheet_judged, sheet_answer}
use Rattle.sheet.specs.Parts.{left, judgement, begun_within}
use Rattle.sheet.specs.BeginLaws.{judged_off, within_refused, within_judged, within_fits, within_left}
use Rattle.sheet.specs.declared.Walk.{Walk}
use Rattle.sheet.specs.SheetLaws.{started_left, judged_long, judged-misshapen, judged_on}
use Rattle.cells.specs.Bytes.{cells}
use Rattle.cells.specs.Reply.{Replied}
use Rattle.cells.specs.ReplyLaws.{replied_unique, refused_by}
use Rattle.cells.specs.Poured.{ListRuns, Poured}
use Rattle.cells.specs.PouredLaws.{poured_unique, poured_off, pour_full, pour_done}
use Rattle.sheeting.specs.Sheeting.{item_bytes, SheetPoured}
use Rattle.listed.specs.Listed.{listed_items, ListedSheet, ListedCount}

-- ---- two results for the same arguments are one
module _ (g : Grammar) (markers delims l : List ℕ) (n : ℕ) (s : List ℕ) {r r' : ℕ} where
  pub listed_unique : {before after after' : ListRuns} → ListedSheet g markers delims l n s before after r → ListedSheet g markers delims l n s before after' r'
      → (r ≡ r') × (after.answer ≡ after'.answer) × (after.list ≡ after'.list)
  listed_unique a b = poured_unique a b

  pub count_unique : {run run' run'' : List ℕ} → ListedCount g markers delims l n s run run' r → ListedCount g markers delims l n s run run'' r' → (r ≡ r') × (run' ≡ run'')
  count_unique a b = replied_unique a b

-- ---- past the refusals of text and list: from the items that are left at the beginning to those of the sheet
module _ (g : Grammar) (markers delims : List Bool) (l : List ℕ) (n : ℕ) (s : List ℕ) (a : Feed) (short : length s ≤ 4294967295) (d : Gives (fresh_feed g markers delims s) a) where
  all_left : left markers delims s (rows wide n l) a ≡ sheet_of g markers delims l n s
  all_left = started_left g markers delims l n s a short d

  module _ (lent : ListRuns) (y : Bool) (f : Gives (leb (length (left markers delims s (rows wide n l) a)) (length lent.list / 20)) y) where
    pub fill_full : y ≡ false → SheetPoured (sheet_of g markers delims l n s) lent lent 3
    fill_full e = subst (λ (x : List SheetItem). SheetPoured x lent lent 3) all_left (pour_full item_bytes 20 (left markers delims s (rows wide n l) a) lent y f e)

    pub fill_done : (after : ListRuns) (m k r : ℕ) → y ≡ true → 1 < m → Gives (length lent.answer / 4) m → Wrote item_bytes (left markers delims s (rows wide n l) a) lent.list after.list k
        → Replied (given (k ∷ [])) lent.answer after.answer r → SheetPoured (sheet_of g markers delims l n s) lent after r
    fill_done after m k r e q h v w =
        subst (λ (x : List SheetItem). SheetPoured x lent after r) all_left (pour_done item_bytes 20 (left markers delims s (rows wide n l) a) lent y f after m k r e q h v w)

  pub count_told : (run run' : List ℕ) (k r : ℕ) → Gives (length (left markers delims s (rows wide n l) a)) k → Replied (given (k ∷ [])) run run' r → Replied (given (length (sheet_of g markers delims l n s) ∷ [])) run run' r
  count_told run run' k r c w = subst (λ (x : ℕ). Replied (given (x ∷ [])) run run' r) (c.answer ∙ ap length all_left) w

-- ---- the refusal that the text and the list decide
-- whether the one is too long, and the other misshapen
stop : (a b : Bool) (o : Outcome) (r : ℕ) → (r ≡ 0 → ⊥) → r ≡ (refuse 1 a (refuse 5 b (given []))).number → refuse 1 a (refuse 5 b o) ≡ refused r
stop true b o r h e = rw e
stop false true o r h e = rw e
stop false false o r h e = absurd (h e)

pass : (a b : Bool) (r : ℕ) → r ≡ 0 → r ≡ (refuse 1 a (refuse 5 b (given []))).number → (a ≡ false) × (b ≡ false)
pass true b r z e = absurd (omega (arith, z, e))
pass false true r z e = absurd (omega (arith, z, e))
pass false false r z e = (refl, refl)

module _ (l : List ℕ) (n : ℕ) (s : List ℕ) where
  pub judge_long : 4294967295 < length s → 1 ≡ (sheet_judged l n s (given [])).number
  judge_long h = rw (judged_long l n s (given []) h)

  pub judge_misshapen : length s ≤ 4294967295 → (y : Bool) → y ≡ true → Gives (misshapen l n (length s)) y → 5 ≡ (sheet_judged l n s (given [])).number
  judge_misshapen short y e m = rw (judged-misshapen l n s (given []) short y e m)

  pub judge_none : length s ≤ 4294967295 → (y : Bool) → y ≡ false → Gives (misshapen l n (length s)) y → 0 ≡ (sheet_judged l n s (given [])).number
  judge_none short y e m = rw (judged_on l n s (given []) short y e m)

  module _ (r : ℕ) where
    judge_stops : (o : Outcome) → (r ≡ 0 → ⊥) → Gives (sheet_judged l n s (given [])).number r → sheet_judged l n s o ≡ refused r
    unfolding sheet_judged
    judge_stops o h j = stop (too_long s) (misshapen l n (length s)) o r h j.answer

    module _ (z : r ≡ 0) (j : Gives (sheet_judged l n s (given [])).number r) where
      fine : (too_long s ≡ false) × (misshapen l n (length s) ≡ false)
      unfolding sheet_judged
      fine = pass (too_long s) (misshapen l n (length s)) r z j.answer

      pub judge_short : length s ≤ 4294967295
      judge_short = ltb-false 4294967295 (length s) fine.0

      pub judge_shape : misshapen l n (length s) ≡ false
      judge_shape = fine.1

      judge_goes : (o : Outcome) → sheet_judged l n s o ≡ o
      judge_goes o = judged_on l n s o judge_short false refl (record { answer = sym judge_shape })

-- ---- the ways out of the entries
module _ (g : Grammar) (mb db l : List ℕ) (n : ℕ) (s : List ℕ) (k : ℕ) where
  module _ (h : k ≡ 0 → ⊥) (j : Gives (sheet_judged (cells l) n s (given [])).number k) where
    pub sheet-refused : (lent : ListRuns) → ListedSheet g mb db l n s lent lent k
    unfolding sheet_answer
    sheet-refused lent = rw (judge_stops (cells l) n s k _ h j) (poured_off k _ lent (ne_eqb k 0 h))

    pub count_refused : (run : List ℕ) → ListedCount g mb db l n s run run k
    count_refused run = rw (judge_stops (cells l) n s k _ h j) (refused_by k run (ne_eqb k 0 h))

  module _ (z : k ≡ 0) (j : Gives (sheet_judged (cells l) n s (given [])).number k) (markers delims : List Bool) (r : ℕ) (hm : Gives (set_of mb) markers) (hd : Gives (set_of db) delims) where
    same-items : sheet_of g markers delims (cells l) n s ≡ listed_items g mb db l n s
    same-items = ap (λ (x : List Bool). sheet_of g x delims (cells l) n s) hm.answer ∙ ap (λ (x : List Bool). sheet_of g (set_of mb) x (cells l) n s) hd.answer

    pub sheet-filled : (lent after : ListRuns) → SheetPoured (sheet_of g markers delims (cells l) n s) lent after r → ListedSheet g mb db l n s lent after r
    unfolding sheet_answer
    sheet-filled lent after v = rw (judge_goes (cells l) n s k z j _) (subst (λ (x : List SheetItem). SheetPoured x lent after r) same-items v)

    pub count_replied : (run run' : List ℕ) → Replied (given (length (sheet_of g markers delims (cells l) n s) ∷ [])) run run' r → ListedCount g mb db l n s run run' r
    count_replied run run' v = rw (judge_goes (cells l) n s k z j _) (subst (λ (x : List SheetItem). Replied (given (length x ∷ [])) run run' r) same-items v)

-- ---- the ways out by what judging told
module _ (g : Grammar) (mb db l : List ℕ) (n : ℕ) (s : List ℕ) where
  module _ (r : Refusal) (k : ℕ) (j : judgement (cells l) n s ≡ Some r) (h : Gives (number_of r) k) where
    pub listed_refused : (lent : ListRuns) → ListedSheet g mb db l n s lent lent k
    unfolding sheet_answer
    listed_refused lent =
        let items = listed_items g mb db l n s in
        let z = judged_off (cells l) n s r j (filled_answer 20 items lent.list) in
        subst (λ (o : Outcome). Poured o (flatten item_bytes items) lent lent k) (sym z) (rw h.answer (poured_off (number_of r) (flatten item_bytes items) lent (number_some r)))

    pub count_off : (run : List ℕ) → ListedCount g mb db l n s run run k
    count_off run =
        let z = judged_off (cells l) n s r j (given (length (listed_items g mb db l n s) ∷ [])) in
        subst (λ (o : Outcome). Replied o run run k) (sym z) (rw h.answer (refused_by (number_of r) run (number_some r)))

  module _ (short : length s ≤ 4294967295) (shaped : misshapen (cells l) n (length s) ≡ false) where
    accepted : Gives (sheet_judged (cells l) n s (given [])).number 0
    accepted = record { answer = judge_none (cells l) n s short false refl (record { answer = sym shaped }) }

    module _ (markers delims : List Bool) (r : ℕ) (hm : Gives (set_of mb) markers) (hd : Gives (set_of db) delims) where
      pub listed_on : (lent after : ListRuns) → SheetPoured (sheet_of g markers delims (cells l) n s) lent after r → ListedSheet g mb db l n s lent after r
      listed_on lent after v = sheet-filled g mb db l n s 0 refl accepted markers delims r hm hd lent after v

      pub count_on : (run run' : List ℕ) (k : ℕ) → Gives (length (sheet_of g markers delims (cells l) n s)) k → Replied (given (k ∷ [])) run run' r → ListedCount g mb db l n s run run' r
      count_on run run' k c v = count_replied g mb db l n s 0 refl accepted markers delims r hm hd run run' (subst (λ (x : ℕ). Replied (given (x ∷ [])) run run' r) c.answer v)

-- ---- the same by what counting and the beginning of the sheet told
module _ (g : Grammar) (mb db l : List ℕ) (n : ℕ) (s : List ℕ) (markers delims : List Bool) (hm : Gives (set_of mb) markers) (hd : Gives (set_of db) delims) where
  set-items : sheet_of g markers delims (cells l) n s ≡ listed_items g mb db l n s
  set-items = ap (λ (x : List Bool). sheet_of g x delims (cells l) n s) hm.answer ∙ ap (λ (x : List Bool). sheet_of g (set_of mb) x (cells l) n s) hd.answer

  pub count_listed_by : (a : Result ℕ Refusal) (run run' : List ℕ) (r : ℕ) → Gives (sheet_judged (cells l) n s (given (length (sheet_of g markers delims (cells l) n s) ∷ []))) (told a) → Replied (told a) run run' r → ListedCount g mb db l n s run run' r
  count_listed_by a run run' r b v =
      subst (λ (o : Outcome). Replied o run run' r) (b.answer ∙ ap (λ (x : List SheetItem). sheet_judged (cells l) n s (given (length x ∷ []))) set-items) v

  module _ (most : ℕ) (lent : ListRuns) (m : Gives (length lent.list / 20) most) {a : Result Walk Refusal} (b : Gives (begun_within g markers delims (cells l) n s most) a) where
    pub listed_off : (r : Refusal) (k : ℕ) → a ≡ Err r → Gives (number_of r) k → ListedSheet g mb db l n s lent lent k
    listed_off r k e h =
        let sets = ap (λ (x : List Bool). sheet_answer 20 g x delims (cells l) n s lent.list) hm.answer ∙ ap (λ (x : List Bool). sheet_answer 20 g (set_of mb) x (cells l) n s lent.list) hd.answer in
        let z = sym sets ∙ within_refused g markers delims (cells l) n s most 20 lent.list m.answer b r e in
        subst (λ (o : Outcome). Poured o (flatten item_bytes (listed_items g mb db l n s)) lent lent k) (sym z) (rw h.answer (poured_off (number_of r) (flatten item_bytes (listed_items g mb db l n s)) lent (number_some r)))

    pub listed_done : (after : ListRuns) (r : ℕ) (w : Walk) → a ≡ Ok w → SheetPoured (left markers delims s (rows wide n (cells l)) w.feed) lent after r → ListedSheet g mb db l n s lent after r
    unfolding sheet_answer
    listed_done after r w e v =
        rw (within_judged g markers delims (cells l) n s most w e b (filled_answer 20 (listed_items g mb db l n s) lent.list))
        (subst (λ (x : List SheetItem). SheetPoured x lent after r) (within_left g markers delims (cells l) n s most w e b ∙ set-items) v)

-- items written, and the answer run long enough
pub fill_replied : (l : List SheetItem) (lent after : ListRuns) (m k r : ℕ) → length l ≤ room 20 lent.list → 1 < m → Gives (length lent.answer / 4) m → Wrote item_bytes l lent.list after.list k
    → Replied (given (k ∷ [])) lent.answer after.answer r → SheetPoured l lent after r
fill_replied l lent after m k r f q h v w = pour_done item_bytes 20 l lent true (record { answer = sym (le-leb (length l) (length lent.list / 20) f) }) after m k r refl q h v w

-- ---- the ways out of filling, by what the beginning of the sheet told
module _ (g : Grammar) (markers delims : List Bool) (l : List ℕ) (n : ℕ) (s : List ℕ) (most : ℕ) (lent : ListRuns) (m : Gives (length lent.list / 20) most) {a : Result Walk Refusal} (b : Gives (begun_within g markers delims l n s most) a) where
  pub fill_off : (r : Refusal) (k : ℕ) → a ≡ Err r → Gives (number_of r) k → length s ≤ 4294967295 → misshapen l n (length s) ≡ false → SheetPoured (sheet_of g markers delims l n s) lent lent k
  unfolding sheet_answer
  fill_off r k e h short shaped =
      let items = sheet_of g markers delims l n s in
      let z = sym (judged_on l n s (filled_answer 20 items lent.list) short false refl (record { answer = sym shaped })) ∙ within_refused g markers delims l n s most 20 lent.list m.answer b r e in
      subst (λ (o : Outcome). Poured o (flatten item_bytes items) lent lent k) (sym z) (rw h.answer (poured_off (number_of r) (flatten item_bytes items) lent (number_some r)))

  pub fill_on : (after : ListRuns) (j k r : ℕ) (w : Walk) → a ≡ Ok w → 1 < j → Gives (length lent.answer / 4) j → Wrote item_bytes (left markers delims s (rows wide n l) w.feed) lent.list after.list k
      → Replied (given (k ∷ [])) lent.answer after.answer r → SheetPoured (sheet_of g markers delims l n s) lent after r
  fill_on after j k r w e q h v d =
      let f = within_fits g markers delims l n s most 20 lent.list m.answer b w e in
      subst (λ (x : List SheetItem). SheetPoured x lent after r) (within_left g markers delims l n s most w e b) (fill_replied (left markers delims s (rows wide n l) w.feed) lent after j k r f q h v d)

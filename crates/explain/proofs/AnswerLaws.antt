-- The ways out of an explanation, and that its promise leaves one answer. Assumes nothing.
use Rattle.std.proofs.Math.Path.{◌≡◌, refl, sym, ap}
use Rattle.std.proofs.Common.{subst, ◌∙◌, arith}
use Rattle.std.specs.Prelude.{Bool, ◌&&◌, ℕ, zero, suc, ◌+◌, ◌*◌, ◌≤◌, ◌<◌, ltb, get_or, Err, None, Ok, Option, Result, Some}
use Rattle.std.proofs.Math.Bool.{true, false, cond}
use mathlib.Core.List.{List, [], ◌∷◌}
use Rattle.std.proofs.Math.Dec.{leb}
use Rattle.std.proofs.Math.ListN.{length}
use borrow.Author.Tests.{lt-ltb, le-ltb, le-leb, ltb-true, leb-true}
use Rattle.search.specs.Promise.{Gives, Steps}
use Rattle.search.specs.SearchLaws.{and_true, first-at}
use Rattle.common.specs.Entry.{rows, room, wide}
use Rattle.common.specs.EntryLaws.{length-rows, room_fits}
use Rattle.common.specs.Refusals.{Outcome, given, refused, refuse, number_of, too_long, told_found, read}
use Rattle.common.specs.RefusalLaws.{read-refused, told_unique}
use Rattle.common.specs.ItemLaws.{both}
use Rattle.common.specs.declared.refusal.Refusal.{Refusal}
use Rattle.common.specs.declared.refusal.Refusal.TheVariants.{TextTooLong}
use Rattle.cover.specs.Cursor.{start_at, stop_at, ends_after, passed, end_at, cover_answer, cover_next, covers, Ended}
use Rattle.cover.specs.Shape.{misshapen, region_at}
use Rattle.cover.specs.ShapeLaws.{shape_fits, shape_order, region_there}
use Rattle.cover.specs.declared.cursor.Cover.{Cover}
use Rattle.feed.specs.Items.{tested_place}
use Rattle.sheet.specs.Parts.{SortedRows, is_at}
use Rattle.sheet.specs.ShowLaws.{hid}
use Rattle.explain.specs.Reasons.{hiders, hidden_by, why, line_led, explain_answer, reason_values, told_explained}
use Rattle.explain.specs.Parts.{led_place, reason_by, reason_of, line_answer}
use Rattle.explain.proofs.TrueLaws.{hiders_none, hiders_one, Shown, on_sheet, sheet_on, HidesLine, hidden_by_lem, by_hidden, hidden_one}
use Rattle.common.specs.declared.span.Span.{Span}
use Rattle.feed.specs.declared.item.SheetItem.{SheetItem}
use Rattle.explain.specs.declared.leads.Lead.{Lead}
use Rattle.explain.specs.declared.leads.Lead.TheVariants as led
use Rattle.explain.specs.declared.Reason.{Reason}
use Rattle.explain.specs.declared.Reason.TheVariants as reason

-- ---- a region of a list
row_two : (n k : ℕ) (l : List ℕ) → k < n → n * 2 ≤ length l → get_or (rows wide n l) k [] ≡ start_at wide l k ∷ stop_at wide l k ∷ []
row_two zero k l h i = absurd (omega arith)
row_two (suc n) k [] h i = absurd (omega arith)
row_two (suc n) k (x ∷ []) h i = absurd (omega arith)
row_two (suc n) zero (x ∷ y ∷ l) h i = refl
row_two (suc n) (suc k) (x ∷ y ∷ l) h i =
    let z : suc k * 2 ≡ suc (suc (k * 2)) = omega arith in
    let w : suc k * 2 + 1 ≡ suc (suc (k * 2 + 1)) = omega arith in
    row_two n k l (omega arith) (omega arith) ∙ sym (rw (w, z))

-- ---- which region hides a place
module _ (l : List ℕ) (n place : ℕ) (o : SortedRows l n) (c : Cover) (q : Steps (cover_answer wide l n 0 place) (cover_next wide l n 0 place) (told_found c.found) c.index) where
  begin_ended : Ended wide l n 0 place
  begin_ended = record { within = omega arith; before = λ j h. absurd (omega arith) }

  index_is : c.index ≡ passed wide l n 0 place
  unfolding cover_answer cover_next
  index_is = q.next ∙ simp (le-ltb (room wide l) n o.fits)

  told_is : told_found c.found ≡ given (end_at wide l n c.index place)
  unfolding cover_answer
  told_is = q.answer ∙ simp (le-ltb (room wide l) n o.fits) (rw index_is)

  module _ (e : ℕ) (f : c.found ≡ Ok (Some e)) where
    tests : (ltb c.index n && leb (start_at wide l c.index) place) ≡ true
    unfolding end_at
    tests = by (ltb c.index n && leb (start_at wide l c.index) place) (ap (λ (o : Outcome). o.values) (sym (ap told_found f) ∙ told_is))
      where
        by : (y : Bool) → e ∷ [] ≡ cond y (stop_at wide l c.index ∷ []) [] → y ≡ true
        by true g = refl
        by false g = absurd (let z : ◌≡◌ {A = ℕ} 0 1 = cc in omega arith)

    below : c.index < n
    below = ltb-true c.index n (and_true (ltb c.index n) (leb (start_at wide l c.index) place) tests).0

    before : start_at wide l c.index ≤ place
    before = leb-true (start_at wide l c.index) place (and_true (ltb c.index n) (leb (start_at wide l c.index) place) tests).1

    behind : place < stop_at wide l c.index
    unfolding passed
    behind = ltb-true place (stop_at wide l c.index) (subst (λ (k : ℕ). ends_after wide l place k ≡ true) (sym index_is) (first-at (ends_after wide l place) 0 n (omega (arith, below, index_is))))

    hidden_at : (r : Span) → Gives (region_at l c.index) r → Gives (hidden_by (hiders 0 place (rows wide n l))) (reason_values (reason.Hidden c.index r))
    hidden_at r g =
        let k = c.index in
        let two : get_or (rows wide n l) k [] ≡ start_at wide l k ∷ stop_at wide l k ∷ [] = row_two n k l below (room_fits 2 n l o.fits) in
        let cv : covers place (get_or (rows wide n l) k []) ≡ true = rw two (rw (le-leb (start_at wide l k) place before, lt-ltb place (stop_at wide l k) behind)) in
        let z : 0 + k ≡ k = omega arith in
        let there = region_there l k (omega (arith, below, o.fits)) in
        record {
          answer =
              ap (λ (r : Span). reason_values (reason.Hidden k r)) (g.answer ∙ sym there.answer)
              ∙ sym (ap hidden_by (hiders_one place 0 o.len 0 k (rows wide n l) o.order (omega (arith, below, length-rows wide n l)) cv) ∙ rw (z, two));
        }

  hidden_not : is_at c.found ≡ false → Gives (hidden_by (hiders 0 place (rows wide n l))) (reason_values reason.OnSheet)
  hidden_not e =
      let w = hid l n 0 place place c (is_at c.found) o begin_ended (record { answer = refl }) q (record { answer = refl }) in
      record { answer = sym (ap hidden_by (hiders_none place 0 (rows wide n l) (sym w.hidden ∙ e))) }

  hidden_none : c.found ≡ (Ok None) → Gives (hidden_by (hiders 0 place (rows wide n l))) (reason_values reason.OnSheet)
  hidden_none f = hidden_not (ap is_at f)

  hidden_refused : (r : Refusal) → c.found ≡ Err r → Gives (hidden_by (hiders 0 place (rows wide n l))) (reason_values reason.OnSheet)
  hidden_refused r f = hidden_not (ap is_at f)

  hidden_told : (i : SheetItem) → tested_place i ≡ place → (r : Span) → Gives (region_at l c.index) r → why (rows wide n l) (led.Item i) ≡ reason_values (reason_by c.index r c.found)
  unfolding why
  hidden_told i e r g = ap (λ (p : ℕ). hidden_by (hiders 0 p (rows wide n l))) e ∙ by c.found refl
    where
      by : (f : Result (Option ℕ) Refusal) → c.found ≡ f → hidden_by (hiders 0 place (rows wide n l)) ≡ reason_values (reason_by c.index r f)
      by (Ok (Some q)) f = sym (hidden_at q f r g).answer
      by (Ok None) f = sym (hidden_none f).answer
      by (Err m) f = sym (hidden_refused m f).answer

-- the reason of a line by what leads it, a query of its item's place, and the region at the query's index
why-told : (l : List ℕ) (n : ℕ) → SortedRows l n → (d : Lead) (c : Cover) → Steps (cover_answer wide l n 0 (led_place d)) (cover_next wide l n 0 (led_place d)) (told_found c.found) c.index → (r : Span) → Gives (region_at l c.index) r
    → why (rows wide n l) d ≡ reason_values (reason_of d c r)
unfolding why
why-told l n o led.NoLine c q r g = refl
why-told l n o led.NoLead c q r g = refl
why-told l n o led.TenDigits c q r g = refl
why-told l n o led.NoDelimiter c q r g = refl
why-told l n o led.NoBlank c q r g = refl
why-told l n o (led.Item i) c q r g = hidden_told l n (tested_place i) o c q i refl r g

-- the way out where a query found a region
pub reason_hidden : (d : Lead) (c : Cover) (r : Span) (i : SheetItem) (q : ℕ) → d ≡ led.Item i → c.found ≡ Ok (Some q) → Gives (reason_of d c r) (reason.Hidden c.index r)
reason_hidden d c r i q e f = record { answer = sym (rw (e, f)) }

-- ---- the ways out of the entries
pub line_long : (s : List ℕ) (line : ℕ) → 4294967295 < length s → Gives (line_answer s line) (Err TextTooLong)
unfolding line_answer
line_long s line h = record { answer = rw (lt-ltb 4294967295 (length s) h) }

pub line-served : (s : List ℕ) (line : ℕ) (d : Lead) → length s ≤ 4294967295 → Gives (line_led s line) d → Gives (line_answer s line) (Ok d)
unfolding line_answer
line-served s line d h g = record { answer = rw (le-ltb 4294967295 (length s) h) (ap Ok g.answer) }

-- what a line's answer tells of the text
abbrev Lines : List ℕ → ℕ → Result Lead Refusal → Type 0
Lines s line (Ok d) = (too_long s ≡ false) × (d ≡ line_led s line)
Lines s line (Err r) = (too_long s ≡ true) × (r ≡ TextTooLong)

line-told : (s : List ℕ) (line : ℕ) → Lines s line (line_answer s line)
unfolding line_answer
line-told s line = both (Lines s line) (too_long s) _ _ (λ u. (u, refl)) (λ u. (u, refl))

module _ (l : List ℕ) (n : ℕ) (s : List ℕ) (line : ℕ) (a : Result Lead Refusal) where
  told_as : (e : Result Lead Refusal) → a ≡ e → Gives (line_answer s line) a → Lines s line e
  told_as e f g = subst (Lines s line) (sym g.answer ∙ f) (line-told s line)

  pub explain_long : (r : Refusal) → a ≡ Err r → Gives (line_answer s line) a → Gives (explain_answer l n s line) (refused (number_of r))
  unfolding explain_answer
  explain_long r f g = let w = told_as (Err r) f g in record { answer = rw (w.0, w.1) }

  module _ (d : Lead) (f : a ≡ Ok d) (y : Bool) where
    pub explain_misshapen : y ≡ true → Gives (line_answer s line) a → Gives (misshapen l n (length s)) y → Gives (explain_answer l n s line) (refused 5)
    unfolding explain_answer
    explain_misshapen e g h = record { answer = rw ((told_as (Ok d) f g).0, ← h.answer, e) }

    pub explain_given : (p : ℕ) (c : Cover) (region : Span) (r : Reason) → y ≡ false → Gives (line_answer s line) a → Gives (misshapen l n (length s)) y → Gives (led_place d) p
        → Steps (cover_answer wide l n 0 p) (cover_next wide l n 0 p) (told_found c.found) c.index → Gives (region_at l c.index) region → Gives (reason_of d c region) r
        → Gives (explain_answer l n s line) (given (reason_values r))
    unfolding explain_answer
    explain_given p c region r e g h gp q gr v =
        let w = told_as (Ok d) f g in
        let m : misshapen l n (length s) ≡ false = sym h.answer ∙ e in
        let o : SortedRows l n = record { fits = shape_fits l n (length s) m; len = length s; order = shape_order l n (length s) m } in
        let k = why-told l n o d c (subst (λ (x : ℕ). Steps (cover_answer wide l n 0 x) (cover_next wide l n 0 x) (told_found c.found) c.index) gp.answer q) region gr in
        record { answer = ap given (ap reason_values v.answer ∙ sym k ∙ ap (why (rows wide n l)) w.1) ∙ sym (rw (w.0, m)) }

pub ruleset explain_rules = (explain_long, explain_misshapen, explain_given)

-- ---- one answer: it is read back from what it says
reason_back : List ℕ → Reason
reason_back l =
    get_or (reason.OnSheet ∷ reason.NoLine ∷ reason.NoLead ∷ reason.TenDigits ∷ reason.NoDelimiter ∷ reason.NoBlank ∷ reason.Hidden (get_or l 1 0) (record { start = get_or l 2 0; end = get_or l 3 0 }) ∷ []) (get_or l 0 0) reason.OnSheet

reason_back_lem : (r : Reason) → reason_back (reason_values r) ≡ r
unfolding reason_back
reason_back_lem reason.OnSheet = refl
reason_back_lem reason.NoLine = refl
reason_back_lem reason.NoLead = refl
reason_back_lem reason.TenDigits = refl
reason_back_lem reason.NoDelimiter = refl
reason_back_lem reason.NoBlank = refl
reason_back_lem (reason.Hidden k r) = refl

abbrev explained_back : Outcome → Result Reason Refusal
explained_back = read (λ l. Ok (reason_back l)) Err

explained_back_lem : (r : Result Reason Refusal) → explained_back (told_explained r) ≡ r
unfolding read
explained_back_lem (Ok r) = ap Ok (reason_back_lem r)
explained_back_lem (Err r) = read-refused (λ l. Ok (reason_back l)) Err r

-- two answers that keep the promise are equal
pub explained_unique : (l : List ℕ) (n : ℕ) (s : List ℕ) (line : ℕ) {r r' : Result Reason Refusal} → Gives (explain_answer l n s line) (told_explained r) → Gives (explain_answer l n s line) (told_explained r') → r ≡ r'
explained_unique l n s line = told_unique told_explained explained_back explained_back_lem

-- ---- what an answer tells of the sheet
module _ (l : List ℕ) (n : ℕ) (s : List ℕ) (line : ℕ) where
  -- a reason is the line's, and the list is in order
  pub record Explains (v : List ℕ) : Type 0 where
    pub short : too_long s ≡ false
    pub order : misshapen l n (length s) ≡ false
    pub same : why (rows wide n l) (line_led s line) ≡ v

  pub served : (v : List ℕ) → explain_answer l n s line ≡ given v → Explains v
  unfolding explain_answer
  served v e = by (too_long s) refl (misshapen l n (length s)) refl e
    where
      by : (x : Bool) → too_long s ≡ x → (y : Bool) → misshapen l n (length s) ≡ y → refuse 1 x (refuse 5 y (given (why (rows wide n l) (line_led s line)))) ≡ given v → Explains v
      by true a y b f = absurd (let z : ◌≡◌ {A = ℕ} 1 0 = ap (λ (o : Outcome). o.number) f in omega arith)
      by false a true b f = absurd (let z : ◌≡◌ {A = ℕ} 5 0 = ap (λ (o : Outcome). o.number) f in omega arith)
      by false a false b f = record { short = a; order = b; same = ap (λ (o : Outcome). o.values) f }

  pub serves : (v : List ℕ) → Explains v → explain_answer l n s line ≡ given v
  unfolding explain_answer
  serves v w = rw (w.short, w.order, w.same)

  -- 0 exactly where the sheet has an item whose content starts on the line
  pub answer-shown : explain_answer l n s line ≡ given (0 ∷ []) → Shown l n s line
  answer-shown e = on_sheet l n s line (served (0 ∷ []) e).same

  pub shown-answer : too_long s ≡ false → misshapen l n (length s) ≡ false → Shown l n s line → explain_answer l n s line ≡ given (0 ∷ [])
  shown-answer a b w = serves (0 ∷ []) (record { short = a; order = b; same = sheet_on l n s line w })

  -- 6 with a region exactly where the line has an item whose tested place that region holds; there is one such region at the most
  pub answer_hides : (k : ℕ) (r : List ℕ) → explain_answer l n s line ≡ given (6 ∷ k ∷ r) → HidesLine (rows wide n l) s line k r
  answer_hides k r e = hidden_by_lem (rows wide n l) s line k r (served (6 ∷ k ∷ r) e).same

  pub hides_answer : too_long s ≡ false → misshapen l n (length s) ≡ false → (k : ℕ) (r : List ℕ) → HidesLine (rows wide n l) s line k r → explain_answer l n s line ≡ given (6 ∷ k ∷ r)
  hides_answer a b k r w = serves (6 ∷ k ∷ r) (record { short = a; order = b; same = by_hidden (rows wide n l) s line 0 (length s) (shape_order l n (length s) b) k r w })

  pub hides_one : misshapen l n (length s) ≡ false → (k k' : ℕ) (r r' : List ℕ) → HidesLine (rows wide n l) s line k r → HidesLine (rows wide n l) s line k' r' → (k ≡ k') × (r ≡ r')
  hides_one b = hidden_one (rows wide n l) s line 0 (length s) (shape_order l n (length s) b)

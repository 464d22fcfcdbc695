-- Writing and reading records in bytes: that a promise leaves one result, what a success leaves, and that each of both undoes the other. Assumes nothing.
-- Request 4: "Reading what we wrote gives the list again, and writing what was read gives our one layout."; the page: "each number of a list is four
-- bytes, low byte first."
use Rattle.std.specs.Prelude.{◌≡◌, refl, Bool, true, false, cond, not, List, [], ◌∷◌, ◌++◌, map, ℕ, zero, suc, ◌+◌, ◌*◌, ◌/◌, ◌%◌, ◌≤◌, ltb, length, get_or, take, drop}
use Rattle.std.proofs.Common.{sym, ap, subst, ◌∙◌, arith, le-ltb}
use Rattle.std.proofs.lemmas.List.{length-map}
use Rattle.std.proofs.Math.Seq.{take-append_seam}
use Rattle.common.specs.Entry.{flatten, rows, wide, room, over}
use Rattle.common.specs.EntryLaws.{flatten-append, length-rows, room_fits, shaped-holds, shaped-few}
use Rattle.common.specs.Lists.{crowded}
use Rattle.common.specs.Refusals.{Outcome, given, refuse, span_values}
use Rattle.common.specs.declared.span.Span.{Span}
use Rattle.cover.specs.Shape.{misshapen}
use Rattle.cover.specs.ShapeLaws.{shape_fits, shape_order}
use Rattle.cells.specs.Bytes.{four, cells, row_bytes}
use Rattle.cells.specs.Reply.{fitted, Replied}
use Rattle.cells.specs.Poured.{ListRuns, Poured}
use Rattle.cells.specs.BackLaws.{Narrow, cells_over, reply_served, reply_back}
use Rattle.cells.specs.PouredLaws.{poured_unique}
use Rattle.cells.specs.ReplyLaws.{enough}
use Rattle.json_file.specs.Form.{outset, follow, is_whole, broken_at}
use Rattle.json_file.specs.Grammar.{File, greatest}
use Rattle.json_file.specs.Layout.{layout}
use Rattle.json_file.specs.Records.{regions_of, write_answer, broken, list_shaped, read_answer, records_in}
use Rattle.json_file.specs.ByteRecords.{halves, in_halves, WroteBytes, place_behind, span_bytes, ReadBytes}
use Rattle.json_file.specs.GrammarBack.{whole_file}
use Rattle.json_file.specs.LayoutLaws.{SpansFit, layout_file, file_fits, layout-few}
use Rattle.json_file.specs.AnswerLaws.{file_records}
use Rattle.json_file.specs.RoundTrips.{flatten_spans, spans_fit, regions_count, layout-answer, spans_over, shaped-over}

-- ---- two results for the same arguments are one, refused ones too: the number, the answer run and the list
pub wrote_bytes_unique : (l : List ℕ) (n : ℕ) {before after after' : ListRuns} {r r' : ℕ} → WroteBytes l n before after r → WroteBytes l n before after' r'
    → (r ≡ r') × (after.answer ≡ after'.answer) × (after.list ≡ after'.list)
wrote_bytes_unique l n a b = poured_unique a b

-- and the place behind 10
pub read_bytes_unique : {s : List ℕ} {before after after' : ListRuns} {r r' p p' : ℕ} → ReadBytes s before after r p → ReadBytes s before after' r' p'
    → (r ≡ r') × (p ≡ p') × (after.answer ≡ after'.answer) × (after.list ≡ after'.list)
read_bytes_unique a b =
    let e = poured_unique a.poured b.poured in
    (e.0, a.placed ∙ sym b.placed, e.1, e.2)

-- ---- pouring
-- that returns 0 has passed every test, and has written the list
poured_served : {o : Outcome} {l : List ℕ} {before after : ListRuns} → Poured o l before after 0 → (o.number ≡ 0) × (after.list ≡ over l before.list)
poured_served {o} {l} {before} w =
    let v = reply_served o before.answer (sym w.reply.number) in
    (v.1, w.left ∙ rw v.0)

-- of values that the answer run has room for returns 0
poured_given : {vs l : List ℕ} {before after : ListRuns} {r : ℕ} → suc (length vs) * 4 ≤ length before.answer → Poured (given vs) l before after r → r ≡ 0
unfolding fitted
poured_given {vs} {before = before} h w = w.reply.number ∙ rw (enough vs before.answer (length before.answer / 4) (record { answer = refl }) (omega arith))

records_most : (l : List Span) → list_shaped l ≡ true → length l ≤ greatest
records_most l e = omega (arith, length-map l span_values, shaped-few 0 greatest (map span_values l) (omega arith) (shaped-holds 0 greatest (map span_values l) e))

fit_narrow : (l : List Span) → SpansFit l → Narrow (flatten span_values l)
fit_narrow [] h i j = absurd (omega arith)
fit_narrow (p ∷ l) h zero j = omega (arith, h.0)
fit_narrow (p ∷ l) h (suc zero) j = omega (arith, h.1)
fit_narrow (p ∷ l) h (suc (suc i)) j = fit_narrow l h.2 i (omega arith)

-- the bytes of regions are those of their numbers
spans_flat : (l : List Span) → flatten span_bytes l ≡ flatten four (flatten span_values l)
spans_flat [] = refl
spans_flat (p ∷ l) = ap (λ (z : List ℕ). span_bytes p ++ z) (spans_flat l) ∙ sym (flatten-append four (span_values p) (flatten span_values l))

-- ---- reading that returns 0
-- has passed every test, and answers how many regions there are
passed_tests : (a b c : Bool) (p n : ℕ) → (cond a (refuse 5 (not b) (refuse 3 c (given (n ∷ [])))) (broken p)).number ≡ 0
    → (a ≡ true) × (b ≡ true) × (cond a (refuse 5 (not b) (refuse 3 c (given (n ∷ [])))) (broken p) ≡ given (n ∷ []))
passed_tests true true false p n e = (refl, refl, refl)
passed_tests true true true p n e = absurd (omega (arith, e))
passed_tests true false c p n e = absurd (omega (arith, e))
passed_tests false b c p n e = absurd (omega (arith, e))

module _ {s : List ℕ} {before after : ListRuns} {p : ℕ} (w : ReadBytes s before after 0 p) where
  read-passed : (is_whole (follow outset s) ≡ true) × (list_shaped (records_in s) ≡ true) × (read_answer row_bytes s before.list ≡ given (length (records_in s) ∷ []))
  unfolding read_answer
  read-passed =
      passed_tests (is_whole (follow outset s)) (list_shaped (records_in s)) (crowded row_bytes (records_in s) before.list) (broken_at outset s) (length (records_in s)) (poured_served w.poured).0

  -- has left, read as numbers, the file's regions over the front of the run's numbers
  pub bytes_read : cells after.list ≡ over (flatten span_values (records_in s)) (cells before.list)
  bytes_read =
      ap cells ((poured_served w.poured).1 ∙ ap (λ (z : List ℕ). over z before.list) (spans_flat (records_in s)))
      ∙ cells_over (flatten span_values (records_in s)) before.list (fit_narrow (records_in s) (file_fits (whole_file s read-passed.0)))

  -- the answer run says how many they are
  pub bytes_counted : cells after.answer ≡ over (1 ∷ length (records_in s) ∷ []) (cells before.answer)
  bytes_counted =
      reply_back {o = given (length (records_in s) ∷ [])} narrow (subst (λ (o : Outcome). Replied o before.answer after.answer 0) read-passed.2 w.poured.reply)
    where
      narrow : Narrow (1 ∷ length (records_in s) ∷ [])
      narrow zero j = omega arith
      narrow (suc zero) j = omega (arith, records_most (records_in s) read-passed.1)
      narrow (suc (suc i)) j = absurd (omega arith)

  -- there is no place
  pub bytes_unplaced : p ≡ 0
  bytes_unplaced = w.placed ∙ ap place_behind read-passed.2

-- ---- writing that returns 0
-- a length is told by its halves
pub halves-back : (m : ℕ) → m % 4294967296 + m / 4294967296 * 4294967296 ≡ m
halves-back m = omega arith

told-halves : (a b : Bool) (m : ℕ) → (refuse 5 a (refuse 3 b (given (m ∷ [])))).number ≡ 0 → (a ≡ false) × (in_halves (refuse 5 a (refuse 3 b (given (m ∷ [])))) ≡ given (halves m))
told-halves false false m e = (refl, refl)
told-halves false true m e = absurd (omega (arith, e))
told-halves true b m e = absurd (omega (arith, e))

module _ (l : List ℕ) (n : ℕ) {before after : ListRuns} (w : WroteBytes l n before after 0) where
  wrote_passed : (misshapen (cells l) n greatest ≡ false) × (in_halves (write_answer (cells l) n before.list) ≡ given (halves (length (layout (regions_of n (cells l))))))
  unfolding write_answer
  wrote_passed =
      let b = layout (regions_of n (cells l)) in
      told-halves (misshapen (cells l) n greatest) (ltb (length before.list) (length b)) (length b) (poured_served w).0

  -- has left the layout of the list's first n regions over the run's front
  pub bytes_wrote : after.list ≡ over (layout (regions_of n (cells l))) before.list
  bytes_wrote = (poured_served w).1

  wrote_few : length (layout (regions_of n (cells l))) ≤ greatest * 38 + 2
  wrote_few =
      let e = wrote_passed.0 in
      omega (
        arith,
        layout-few (regions_of n (cells l)) (spans_fit (cells l) n e),
        regions_count n (cells l),
        length-rows wide n (cells l),
        shaped-few 0 greatest (rows wide n (cells l)) (omega arith) (shape_order (cells l) n greatest e),
      )

  -- the answer run says how long it is
  pub bytes_told : cells after.answer ≡ over (2 ∷ halves (length (layout (regions_of n (cells l))))) (cells before.answer)
  bytes_told =
      reply_back {o = given (halves (length (layout (regions_of n (cells l)))))} narrow (subst (λ (o : Outcome). Replied o before.answer after.answer 0) wrote_passed.1 w.reply)
    where
      narrow : Narrow (2 ∷ halves (length (layout (regions_of n (cells l)))))
      narrow zero j = omega arith
      narrow (suc zero) j = omega arith
      narrow (suc (suc zero)) j = omega (arith, wrote_few)
      narrow (suc (suc (suc i))) j = absurd (omega arith)

  pub bytes_length : get_or (cells after.answer) 1 0 + get_or (cells after.answer) 2 0 * 4294967296 ≡ length (layout (regions_of n (cells l)))
  bytes_length = rw bytes_told (halves-back (length (layout (regions_of n (cells l)))))

-- ---- "Reading what we wrote gives the list again": a list that was written and is read into another, where there is room
pub bytes_write_read : (l : List ℕ) (n : ℕ) {before after before2 after2 : ListRuns} {r p : ℕ}
    → WroteBytes l n before after 0 → ReadBytes (take (length (layout (regions_of n (cells l)))) after.list) before2 after2 r p
    → n ≤ room row_bytes before2.list → 8 ≤ length before2.answer → (r ≡ 0) × (cells after2.list ≡ over (take (n * wide) (cells l)) (cells before2.list))
bytes_write_read l n {before} {after} {before2} {after2} {r} {p} w v h k =
    let b = layout (regions_of n (cells l)) in
    let e = (wrote_passed l n w).0 in
    let text : take (length b) after.list ≡ b = rw (bytes_wrote l n w) (take-append_seam b (drop (length b) before.list)) in
    let u : ReadBytes b before2 after2 r p = subst (λ (s : List ℕ). ReadBytes s before2 after2 r p) text v in
    let answer : read_answer row_bytes b before2.list ≡ given (n ∷ []) = layout-answer (cells l) n e row_bytes before2.list h in
    let none : r ≡ 0 = poured_given k (subst (λ (o : Outcome). Poured o (flatten span_bytes (records_in b)) before2 after2 r) answer u.poured) in
    let regions : records_in b ≡ regions_of n (cells l) = file_records (layout_file (regions_of n (cells l)) (spans_fit (cells l) n e)) in
    let numbers = flatten_spans n (cells l) (room_fits wide n (cells l) (shape_fits (cells l) n greatest e)) in
    (none, bytes_read (subst (λ (m : ℕ). ReadBytes b before2 after2 m p) none u) ∙ rw (regions, numbers))

-- ---- "writing what was read gives our one layout": a file's list that was read into a run and is written, where there is room
pub bytes_read_write : {l : List Span} {s : List ℕ} {before after before2 after2 : ListRuns} {r p : ℕ}
    → File l s → ReadBytes s before after 0 p → WroteBytes after.list (length l) before2 after2 r
    → length (layout l) ≤ length before2.list → 12 ≤ length before2.answer → (r ≡ 0) × (after2.list ≡ over (layout l) before2.list)
unfolding write_answer
bytes_read_write {l} {s} {before} {after} {before2} {after2} {r} {p} f v w h k =
    let left : cells after.list ≡ over (flatten span_values l) (cells before.list) = bytes_read v ∙ rw (file_records f) in
    let regions : regions_of (length l) (cells after.list) ≡ l = rw left (spans_over l (cells before.list)) in
    let order : list_shaped l ≡ true = rw (file_records f) at (read-passed v).1 in
    let shape : misshapen (cells after.list) (length l) greatest ≡ false = rw left (shaped-over l (cells before.list) order) in
    let answer : in_halves (write_answer (cells after.list) (length l) before2.list) ≡ given (halves (length (layout l))) = rw (shape, regions, le-ltb (length before2.list) (length (layout l)) h) in
    let none : r ≡ 0 = poured_given k (subst (λ (o : Outcome). Poured o (layout (regions_of (length l) (cells after.list))) before2 after2 r) answer w) in
    (none, bytes_wrote after.list (length l) (subst (λ (m : ℕ). WroteBytes after.list (length l) before2 after2 m) none w) ∙ rw regions)

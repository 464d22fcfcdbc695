-- "Reading what we wrote gives the list again, and writing what was read gives our one layout": of the promises, which determine every answer and run.
-- Assumes nothing.
use Rattle.std.specs.Prelude.{◌≡◌, refl, Bool, cond, not, List, [], ◌∷◌, map, ℕ, zero, suc, ◌*◌, ◌<◌, ◌≤◌, ltb, get_or, take, drop, Result, Ok, Err}
use Rattle.std.proofs.Common.{sym, ap, ◌∙◌, arith}
use Rattle.std.proofs.Math.Bool.{true, false}
use Rattle.std.proofs.Math.ListN.{length, length-append}
use Rattle.std.proofs.lemmas.List.{length-map}
use Rattle.std.proofs.Math.Seq.{take-append_seam}
use borrow.Author.Tests.{le-ltb, not-false}
use Rattle.common.specs.Entry.{flatten, rows, wide, room, Shaped, shaped, over, overfull}
use Rattle.common.specs.EntryLaws.{length-flatten, rows-flatten, length-rows, room_fits, fits_room, holds-shaped}
use Rattle.common.specs.Lists.{text_answer, filled_answer, filled_by, crowded}
use Rattle.common.specs.Refusals.{Outcome, given, refuse, served, read, unless_none, told, span_values, span_back}
use Rattle.common.specs.RefusalLaws.{read-refused, told_unique, answer_unique}
use Rattle.common.specs.declared.span.Span.{Span}
use Rattle.cover.specs.Shape.{misshapen}
use Rattle.cover.specs.ShapeLaws.{shape_fits, shape_order}
use Rattle.json_file.specs.Grammar.{File, greatest}
use Rattle.json_file.specs.Layout.{layout}
use Rattle.json_file.specs.Records.{regions_of, write_answer, WroteRecords, list_shaped, read_answer, ReadRecords, records_in, told_read}
use Rattle.json_file.specs.declared.Unread.{Unread}
use Rattle.json_file.specs.declared.Unread.TheVariants as unread
use Rattle.json_file.specs.LayoutLaws.{SpansFit, layout_file}
use Rattle.json_file.specs.AnswerLaws.{file_records, read_file}
use Rattle.common.specs.declared.refusal.Refusal.{Refusal}

-- ---- an answer that was served passed every test
passed : (n : ℕ) → 0 < n → (b : Bool) (o : Outcome) (v : List ℕ) → given v ≡ refuse n b o → (b ≡ false) × (given v ≡ o)
passed n h true o v e = let z : 0 ≡ n = ap (λ (a : Outcome). a.number) e in absurd (omega arith)
passed n h false o v e = (refl, e)

value_same : (a b : ℕ) → given (a ∷ []) ≡ given (b ∷ []) → a ≡ b
value_same a b e = ap (λ (o : Outcome). get_or o.values 0 0) e

-- ---- regions and their rows
-- places in order, as regions
module _ (len : ℕ) where
  shaped_spans : (from : ℕ) (r : List (List ℕ)) → Shaped from len r → Shaped from len (map span_values (map span_back r))
  shaped_spans from [] h = tt
  shaped_spans from (x ∷ r) h = (h.0, h.1, h.2, shaped_spans (get_or x 1 0) r h.3)

shaped_fit : (from : ℕ) (r : List (List ℕ)) → Shaped from greatest r → SpansFit (map span_back r)
shaped_fit from [] h = tt
shaped_fit from (x ∷ r) h = (omega (arith, h.1, h.2), h.2, shaped_fit (get_or x 1 0) r h.3)

-- rows as regions are the rows
pub flatten_spans : (n : ℕ) (l : List ℕ) → n * wide ≤ length l → flatten span_values (regions_of n l) ≡ take (n * wide) l
flatten_spans zero l h = refl
flatten_spans (suc n) [] h = absurd (omega arith)
flatten_spans (suc n) (a ∷ []) h = absurd (omega arith)
flatten_spans (suc n) (a ∷ b ∷ l) h =
    let e : suc n * wide ≡ suc (suc (n * wide)) = omega arith in
    rw e (ap (λ (r : List ℕ). a ∷ b ∷ r) (flatten_spans n l (omega arith)))

-- as many of them as are asked for
pub regions_count : (n : ℕ) (l : List ℕ) → length (regions_of n l) ≡ n
regions_count n l = length-map (rows wide n l) span_back ∙ length-rows wide n l

-- and regions as rows are the regions
spans_back : (l : List Span) → map span_back (map span_values l) ≡ l
spans_back [] = refl
spans_back (p ∷ l) = ap (λ (r : List Span). p ∷ r) (spans_back l)

-- ---- reading what we wrote
-- a list that is written has an order, and places that fit
module _ (l : List ℕ) (n : ℕ) (e : misshapen l n greatest ≡ false) where
  pub spans_fit : SpansFit (regions_of n l)
  spans_fit = shaped_fit 0 (rows wide n l) (shape_order l n greatest e)

  spans_shaped : list_shaped (regions_of n l) ≡ true
  spans_shaped = holds-shaped 0 greatest (map span_values (regions_of n l)) (shaped_spans greatest 0 (rows wide n l) (shape_order l n greatest e))

  -- what reading its layout answers
  pub layout-answer : (w : ℕ) (dst : List ℕ) → n ≤ room w dst → read_answer w (layout (regions_of n l)) dst ≡ given (n ∷ [])
  layout-answer w dst h =
      read_file w dst (layout_file (regions_of n l) spans_fit)
      ∙ rw (spans_shaped, regions_count n l, le-ltb (room w dst) n h)

-- a list that was written and is read again, where there is room
pub write_read : {l : List ℕ} {n : ℕ} {out out' : List ℕ} {m : ℕ} {dst dst' : List ℕ} {o : Outcome}
    → WroteRecords l n out out' (given (m ∷ [])) → ReadRecords span_values wide (take m out') dst dst' o → n ≤ room wide dst
    → (o ≡ given (n ∷ [])) × (dst' ≡ over (take (n * wide) l) dst)
unfolding write_answer
write_read {l} {n} {out} {out'} {m} {dst} {dst'} {o} w r h =
    let b = layout (regions_of n l) in
    let p = passed 5 (omega arith) (misshapen l n greatest) (text_answer b out) (m ∷ []) w.answer in
    let q = passed 3 (omega arith) (ltb (length out) (length b)) (given (length b ∷ [])) (m ∷ []) p.1 in
    let size : m ≡ length b = value_same m (length b) q.1 in
    let left : out' ≡ over b out = w.list ∙ rw (p.0, q.0) in
    let text : take m out' ≡ b = rw (size, left) (take-append_seam b (drop (length b) out)) in
    let answered : read_answer wide (take m out') dst ≡ given (n ∷ []) = rw text (layout-answer l n p.0 wide dst h) in
    let regions : records_in (take m out') ≡ regions_of n l = rw text (file_records (layout_file (regions_of n l) (spans_fit l n p.0))) in
    let numbers = flatten_spans n l (room_fits wide n l (shape_fits l n greatest p.0)) in
    (r.answer ∙ answered, r.list ∙ rw (answered, regions, numbers))

-- ---- writing what was read
-- regions whose rows stand over the front of a run are its first ones, and in order if they were
module _ (l : List Span) (dst : List ℕ) where
  rows-over : rows wide (length l) (over (flatten span_values l) dst) ≡ map span_values l
  rows-over = rows-flatten span_values wide (λ a. refl) l (drop (length (flatten span_values l)) dst)

  pub spans_over : regions_of (length l) (over (flatten span_values l) dst) ≡ l
  spans_over = ap (λ (r : List (List ℕ)). map span_back r) rows-over ∙ spans_back l

  pub shaped-over : list_shaped l ≡ true → misshapen (over (flatten span_values l) dst) (length l) greatest ≡ false
  unfolding misshapen
  shaped-over e =
      let run = over (flatten span_values l) dst in
      let long : length l * wide ≤ length run = omega (arith, length-append (flatten span_values l) (drop (length (flatten span_values l)) dst), length-flatten span_values wide (λ a. refl) l) in
      let some : overfull wide run (length l) ≡ false = le-ltb (room wide run) (length l) (fits_room wide (length l) run (omega arith) long) in
      let order : shaped 0 greatest (rows wide (length l) run) ≡ true = rw rows-over e in
      rw (some, order)

-- a file's list that was read into a run and is written again
pub read_write : {l : List Span} {s dst dst' : List ℕ} {n : ℕ} {out out' : List ℕ} {o : Outcome}
    → File l s → ReadRecords span_values wide s dst dst' (given (n ∷ [])) → WroteRecords dst' n out out' o
    → (o ≡ text_answer (layout l) out) × (out' ≡ filled_by (text_answer (layout l) out) (layout l) out)
unfolding write_answer
read_write {l} {s} {dst} {dst'} {n} {out} {out'} {o} f r w =
    let p = passed 5 (omega arith) (not (list_shaped l)) (filled_answer wide l dst) (n ∷ []) (r.answer ∙ read_file wide dst f) in
    let q = passed 3 (omega arith) (crowded wide l dst) (given (length l ∷ [])) (n ∷ []) p.1 in
    let count : n ≡ length l = value_same n (length l) q.1 in
    let left : dst' ≡ over (flatten span_values l) dst = r.list ∙ rw (read_file wide dst f, p.0, q.0, file_records f) in
    let spans : regions_of n dst' ≡ l = rw (count, left) (spans_over l dst) in
    let shape : misshapen dst' n greatest ≡ false = rw (count, left) (shaped-over l dst (not-false (list_shaped l) p.0)) in
    let answered : write_answer dst' n out ≡ text_answer (layout l) out = rw (shape, spans) in
    (w.answer ∙ answered, w.list ∙ rw (answered, spans))

-- ---- the promises determine every answer, refused ones too, and the run that is left
pub writing_unique : {l : List ℕ} {n : ℕ} {out out' out'' : List ℕ} {r r' : Result ℕ Refusal}
    → WroteRecords l n out out' (told r) → WroteRecords l n out out'' (told r') → (r ≡ r') × (out' ≡ out'')
writing_unique {l} {n} {out} a b = (answer_unique {o = write_answer l n out} (record { answer = a.answer }) (record { answer = b.answer }), a.list ∙ sym b.list)

-- what says an outcome of reading: with values a count or a place, else a refusal
read_back : Outcome → Result ℕ Unread
read_back o = unless_none (read (λ l. Ok 0) (λ r. Err (unread.Refused r)) o) (λ l. cond (served o) (Ok (get_or l 0 0)) (Err (unread.Broken (get_or l 0 0)))) o.values

read_back_lem : (r : Result ℕ Unread) → read_back (told_read r) ≡ r
unfolding read_back
read_back_lem (Ok n) = refl
read_back_lem (Err (unread.Broken p)) = refl
read_back_lem (Err (unread.Refused r)) = read-refused {A = Result ℕ Unread} (λ l. Ok 0) (λ r. Err (unread.Refused r)) r

pub reading_unique : {flat : Span → List ℕ} {w : ℕ} {s out out' out'' : List ℕ} {r r' : Result ℕ Unread}
    → ReadRecords flat w s out out' (told_read r) → ReadRecords flat w s out out'' (told_read r') → (r ≡ r') × (out' ≡ out'')
reading_unique {w = w} {s = s} {out = out} a b =
    (told_unique told_read read_back read_back_lem {o = read_answer w s out} (record { answer = a.answer }) (record { answer = b.answer }), a.list ∙ sym b.list)

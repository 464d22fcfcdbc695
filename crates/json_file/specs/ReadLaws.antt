-- Reading a file of records into a list, in numbers or in bytes: the ways out. Assumes nothing.
use Rattle.std.specs.Prelude.{◌≡◌, true, false, List, [], ◌∷◌, ◌⊎◌, ℕ, ◌/◌, ◌≤◌, ◌<◌, leb, length, eqb, Result, Ok, Err}
use Rattle.std.proofs.Math.Path.{refl}
use Rattle.std.proofs.Common.{sym, ap, subst, ◌∙◌, inl, inr, arith, le-leb, lt-ltb}
use Rattle.std.proofs.lemmas.Bool.{lt-leb}
use Rattle.search.specs.Promise.{Gives}
use Rattle.search.specs.SearchLaws.{decide}
use Rattle.common.specs.Entry.{flatten, room}
use Rattle.common.specs.Lists.{Wrote, crowded, filled_answer}
use Rattle.common.specs.ListLaws.{fill_done}
use Rattle.common.specs.Refusals.{Outcome, given, refused, number_of}
use Rattle.common.specs.RefusalLaws.{number_some}
use Rattle.common.specs.declared.refusal.Refusal.{Refusal}
use Rattle.common.specs.declared.refusal.Refusal.TheVariants.{ListMisshapen, NotRecords}
use Rattle.common.specs.declared.span.Span.{Span}
use Rattle.cells.specs.Bytes.{row_bytes}
use Rattle.cells.specs.Reply.{fitted, answered, Replied}
use Rattle.cells.specs.Poured.{ListRuns, PouredAs}
use Rattle.cells.specs.PouredLaws.{poured_off, pour_full, pour_done}
use Rattle.json_file.specs.Form.{outset, follow, is_whole, broken_at}
use Rattle.json_file.specs.Records.{broken, list_shaped, records_in, read_answer, ReadRecords, checked_of, told_read}
use Rattle.json_file.specs.ByteRecords.{place_behind, span_bytes, ReadBytes}
use Rattle.json_file.specs.declared.Unread.{Unread}
use Rattle.json_file.specs.declared.Unread.TheVariants as unread

-- ---- what the first pass tells
-- of the answer
abbrev answer_told : ℕ → List ℕ → List ℕ → Result ℕ Unread → Outcome
answer_told w s out (Err (unread.Broken p)) = broken p
answer_told w s out (Err (unread.Refused q)) = refused (number_of q)
answer_told w s out (Ok n) = filled_answer w (records_in s) out

-- and of a file that it finds whole
abbrev WholeTold : List ℕ → Result ℕ Unread → Type 0
WholeTold s (Err (unread.Broken p)) = Unit {0}
WholeTold s (Err (unread.Refused q)) = Unit {0}
WholeTold s (Ok n) = (is_whole (follow outset s) ≡ true) × (n ≡ length (records_in s))

answer-told : (w : ℕ) (s out : List ℕ) → read_answer w s out ≡ answer_told w s out (checked_of (follow outset s) (broken_at outset s))
unfolding read_answer checked_of
answer-told w s out = by (decide (is_whole (follow outset s))) (decide (list_shaped (records_in s)))
  where
    by : (is_whole (follow outset s) ≡ true) ⊎ (is_whole (follow outset s) ≡ false) → (list_shaped (records_in s) ≡ true) ⊎ (list_shaped (records_in s) ≡ false) → read_answer w s out ≡ answer_told w s out (checked_of (follow outset s) (broken_at outset s))
    by (inl a) (inl b) = rw (a, b) refl
    by (inl a) (inr b) = rw (a, b) refl
    by (inr a) b = rw a refl

whole_told : (s : List ℕ) → WholeTold s (checked_of (follow outset s) (broken_at outset s))
unfolding checked_of
whole_told s = by (decide (is_whole (follow outset s))) (decide (list_shaped (records_in s)))
  where
    by : (is_whole (follow outset s) ≡ true) ⊎ (is_whole (follow outset s) ≡ false) → (list_shaped (records_in s) ≡ true) ⊎ (list_shaped (records_in s) ≡ false) → WholeTold s (checked_of (follow outset s) (broken_at outset s))
    by (inl a) (inl b) = rw (a, b) (a, refl)
    by (inl a) (inr b) = rw (a, b) tt
    by (inr a) b = rw a tt

module _ (s : List ℕ) (r : Result ℕ Unread) where
  answer-read : (w : ℕ) (out : List ℕ) (c : Result ℕ Unread) → r ≡ c → Gives (checked_of (follow outset s) (broken_at outset s)) r → read_answer w s out ≡ answer_told w s out c
  answer-read w out c e g = answer-told w s out ∙ ap (answer_told w s out) (sym g.answer ∙ e)

  module _ (n : ℕ) (e : r ≡ Ok n) (g : Gives (checked_of (follow outset s) (broken_at outset s)) r) where
    found : WholeTold s (Ok n)
    found = subst (WholeTold s) (sym g.answer ∙ e) (whole_told s)

    pub read_whole : is_whole (follow outset s) ≡ true
    read_whole = found.0

    pub read_count : n ≡ length (records_in s)
    read_count = found.1

    pub read-room : (w : ℕ) (out : List ℕ) → n ≤ length out / w → length (records_in s) ≤ room w out
    read-room w out h = omega (arith, read_count)

-- ---- the ways out of reading
module _ (flat : Span → List ℕ) (w : ℕ) (s out : List ℕ) (r : Result ℕ Unread) where
  pub read-broken : (p : ℕ) → r ≡ Err (unread.Broken p) → Gives (checked_of (follow outset s) (broken_at outset s)) r → ReadRecords flat w s out out (broken p)
  read-broken p e g = record { answer = sym (answer-read s r w out (Err (unread.Broken p)) e g); list = rw (answer-read s r w out (Err (unread.Broken p)) e g) refl }

  pub read-misshapen : r ≡ Err (unread.Refused ListMisshapen) → Gives (checked_of (follow outset s) (broken_at outset s)) r → ReadRecords flat w s out out (refused 5)
  read-misshapen e g = record { answer = sym (answer-read s r w out (Err (unread.Refused ListMisshapen)) e g); list = rw (answer-read s r w out (Err (unread.Refused ListMisshapen)) e g) refl }

  -- what isn't read is told as it is
  pub read_unread : (u : Unread) → r ≡ Err u → Gives (checked_of (follow outset s) (broken_at outset s)) r → ReadRecords flat w s out out (told_read (Err u))
  read_unread (unread.Broken p) e g = read-broken p e g
  read_unread (unread.Refused q) e g =
      let a = answer-read s r w out (Err (unread.Refused q)) e g in
      record { answer = sym a; list = rw (a, number_some q) refl }

  module _ (n : ℕ) (e : r ≡ Ok n) (g : Gives (checked_of (follow outset s) (broken_at outset s)) r) where
    pub read_full : length out / w < n → ReadRecords flat w s out out (refused 3)
    read_full h =
        let t : crowded w (records_in s) out ≡ true = lt-ltb (length out / w) (length (records_in s)) (omega (arith, read_count s r n e g)) in
        let a : read_answer w s out ≡ refused 3 = answer-read s r w out (Ok n) e g ∙ rw t refl in
        record { answer = sym a; list = rw a refl }

    pub read_done : (out' : List ℕ) (k : ℕ) → n ≤ length out / w → Wrote flat (records_in s) out out' k → ReadRecords flat w s out out' (given (k ∷ []))
    read_done out' k h v =
        let f = fill_done flat w (records_in s) out (length out / w) refl out' k (read-room s r n e g w out h) v in
        let a = answer-read s r w out (Ok n) e g in
        record { answer = f.answer ∙ sym a; list = rw a f.list }

-- ---- the ways out of pouring a file's regions: n is how many there are
module _ {A : Type 0} (flat : A → List ℕ) (w : ℕ) (l : List A) (lent : ListRuns) (n : ℕ) (c : n ≡ length l) where
  pub file_full : length lent.list / w < n → PouredAs flat w l lent lent 3
  file_full h = pour_full flat w l lent (leb (length l) (length lent.list / w)) (record { answer = refl }) (lt-leb (length l) (length lent.list / w) (omega (arith, c)))

  pub file_poured : (after : ListRuns) (m k r : ℕ) → n ≤ length lent.list / w → 1 < m → Gives (length lent.answer / 4) m → Wrote flat l lent.list after.list k → Replied (given (k ∷ [])) lent.answer after.answer r → PouredAs flat w l lent after r
  file_poured after m k r h q room v d =
      pour_done flat w l lent (leb (length l) (length lent.list / w)) (record { answer = refl }) after m k r (le-leb (length l) (length lent.list / w) (omega (arith, c))) q room v d

-- ---- the ways out of reading into bytes
-- a refusal alone has no place
nothing_behind : (q : Refusal) → place_behind (refused (number_of q)) ≡ 0
nothing_behind q = by (decide (eqb (number_of q) 10))
  where
    by : (eqb (number_of q) 10 ≡ true) ⊎ (eqb (number_of q) 10 ≡ false) → place_behind (refused (number_of q)) ≡ 0
    by (inl u) = rw u refl
    by (inr u) = rw u refl

module _ (s : List ℕ) (lent : ListRuns) (r : Result ℕ Unread) where
  pub placed_broken : (p number : ℕ) → r ≡ Err (unread.Broken p) → Gives (checked_of (follow outset s) (broken_at outset s)) r → Gives (number_of NotRecords) number → ReadBytes s lent lent number p
  unfolding fitted answered
  placed_broken p number e g v =
      let a = answer-read s r row_bytes lent.list (Err (unread.Broken p)) e g in
      record { poured = rw (a, v.answer) (record { reply = record { number = refl; list = refl }; left = refl }); placed = rw a refl }

  pub placed_misshapen : r ≡ Err (unread.Refused ListMisshapen) → Gives (checked_of (follow outset s) (broken_at outset s)) r → ReadBytes s lent lent 5 0
  placed_misshapen e g = record {
    poured = rw (answer-read s r row_bytes lent.list (Err (unread.Refused ListMisshapen)) e g) (poured_off 5 (flatten span_bytes (records_in s)) lent refl);
    placed = rw (answer-read s r row_bytes lent.list (Err (unread.Refused ListMisshapen)) e g) refl;
  }

  -- any other refusal
  pub placed_refused : (q : Refusal) (number : ℕ) → r ≡ Err (unread.Refused q) → Gives (checked_of (follow outset s) (broken_at outset s)) r → Gives (number_of q) number → ReadBytes s lent lent number 0
  placed_refused q number e g v =
      let a = answer-read s r row_bytes lent.list (Err (unread.Refused q)) e g in
      record { poured = rw (a, v.answer) (poured_off (number_of q) (flatten span_bytes (records_in s)) lent (number_some q)); placed = rw a (sym (nothing_behind q)) }

  pub placed_poured : (n : ℕ) (after : ListRuns) (k : ℕ) → r ≡ Ok n → Gives (checked_of (follow outset s) (broken_at outset s)) r → PouredAs span_bytes row_bytes (records_in s) lent after k → ReadBytes s lent after k 0
  placed_poured n after k e g v =
      let a = answer-read s r row_bytes lent.list (Ok n) e g in
      record { poured = rw a v; placed = unplaced (decide (crowded row_bytes (records_in s) lent.list)) ∙ ap place_behind (sym a) }
    where
      unplaced : (crowded row_bytes (records_in s) lent.list ≡ true) ⊎ (crowded row_bytes (records_in s) lent.list ≡ false) → 0 ≡ place_behind (filled_answer row_bytes (records_in s) lent.list)
      unplaced (inl u) = rw u refl
      unplaced (inr u) = rw u refl

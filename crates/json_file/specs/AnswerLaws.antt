-- What reading answers, in the words of the grammar: a file its list or a refusal, and any other text 10 with its place; and how long a file is at least. Assumes nothing.
use Rattle.std.specs.Prelude.{◌≡◌, Bool, true, false, not, List, [], ◌∷◌, ◌⊎◌, ℕ, suc, ◌+◌, ◌*◌, ◌<◌, ◌≤◌, length, take}
use Rattle.std.proofs.Common.{sym, ap, ◌∙◌, inl, inr, arith}
use Rattle.search.specs.SearchLaws.{decide}
use Rattle.common.specs.Lists.{filled_answer, crowded}
use Rattle.common.specs.Refusals.{given, refuse, number_of}
use Rattle.common.specs.declared.refusal.Refusal.TheVariants.{NotRecords}
use Rattle.common.specs.declared.span.Span.{Span}
use Rattle.json_file.specs.Form.{outset, follow, is_whole, broken_at, regions_read}
use Rattle.json_file.specs.declared.phase.Name.{Name}
use Rattle.json_file.specs.declared.phase.Name.TheVariants as name
use Rattle.json_file.specs.Grammar.{White, nothing, space, tab, feed, back, MoreDigits, no_digit, one_digit, Number, nought, int, Member, start_member, end_member, Members, start_first, end_first, Object, object, More, no_more, one_more, Array, empty, filled, File, BeginsFile, file}
use Rattle.json_file.specs.Records.{broken, list_shaped, records_in, read_answer}
use Rattle.json_file.specs.GrammarLaws.{file_followed}
use Rattle.json_file.specs.GrammarBack.{whole_file}
use Rattle.json_file.specs.PlaceLaws.{begins-front, file_begins, place_length, place_only}

-- the regions of a file are its list
pub file_records : {l : List Span} {s : List ℕ} → File l s → records_in s ≡ l
file_records f = ap regions_read (file_followed f)

module _ (w : ℕ) (out : List ℕ) where
  -- a file is never answered with 10
  pub read_file : {l : List Span} {s : List ℕ} → File l s → read_answer w s out ≡ refuse 5 (not (list_shaped l)) (filled_answer w l out)
  unfolding read_answer
  read_file f = rw (file_followed f)

  -- any other text is, with its place
  pub read-other : (s : List ℕ) → ((l : List Span) → File l s → ⊥) → read_answer w s out ≡ broken (broken_at outset s)
  unfolding read_answer
  read-other s n = by (decide (is_whole (follow outset s)))
    where
      by : (is_whole (follow outset s) ≡ true) ⊎ (is_whole (follow outset s) ≡ false) → read_answer w s out ≡ broken (broken_at outset s)
      by (inl e) = absurd (n (records_in s) (whole_file s e))
      by (inr e) = rw e

  -- what 10 says: no list has the text as its file
  pub read_ten : (s : List ℕ) → (read_answer w s out).number ≡ number_of NotRecords → (l : List Span) → File l s → ⊥
  read_ten s e l f = other (not (list_shaped l)) (crowded w l out) (rw (← (read_file f)) e)
    where
      other : (a b : Bool) → (refuse 5 a (refuse 3 b (given (length l ∷ [])))).number ≡ 10 → ⊥
      other true b h = omega arith
      other false true h = omega arith
      other false false h = omega arith

  -- and its place is as PlaceLaws has it
  pub ten_place : (s : List ℕ) → (read_answer w s out).number ≡ number_of NotRecords → read_answer w s out ≡ broken (broken_at outset s)
  ten_place s e = read-other s (read_ten s e)

  -- the bytes before p begin a file and with the byte there they begin none: 10 with p
  pub read_stops : (s : List ℕ) (p : ℕ) → p < length s → BeginsFile (take p s) → (BeginsFile (take (suc p) s) → ⊥) → read_answer w s out ≡ broken p
  read_stops s p h b n =
      let e : p ≡ broken_at outset s = place_only s p (omega arith) b (λ k. n) in
      read-other s (λ l f. n (begins-front (suc p) s (file_begins f))) ∙ ap broken (sym e)

  -- all of it begins a file and is none: 10 with the length
  pub read_breaks_off : (s : List ℕ) → BeginsFile s → ((l : List Span) → File l s → ⊥) → read_answer w s out ≡ broken (length s)
  read_breaks_off s b n = read-other s n ∙ ap broken (place_length s b)

-- ---- a file needs 20 bytes for each region: `{"start":0,"end":0}`, and a bracket or a comma before it
white_least : {s t : List ℕ} → White s t → length t ≤ length s
white_least nothing = omega arith
white_least (space u) = omega (arith, white_least u)
white_least (tab u) = omega (arith, white_least u)
white_least (feed u) = omega (arith, white_least u)
white_least (back u) = omega (arith, white_least u)

digits_least : {n m : ℕ} {s t : List ℕ} → MoreDigits n m s t → length t ≤ length s
digits_least no_digit = omega arith
digits_least (one_digit d h u) = omega (arith, digits_least u)

number_least : {n : ℕ} {s t : List ℕ} → Number n s t → 1 + length t ≤ length s
number_least nought = omega arith
number_least (int d a b u c) = omega (arith, digits_least u)

-- `"start":0` and `"end":0`
abbrev member_least : Name → ℕ
member_least name.Start = 9
member_least name.End = 7

member_least_lem : {w : Name} {n : ℕ} {s t : List ℕ} → Member w n s t → member_least w + length t ≤ length s
member_least_lem (start_member u v k) = omega (arith, white_least u, white_least v, number_least k)
member_least_lem (end_member u v k) = omega (arith, white_least u, white_least v, number_least k)

members_least : {p : Span} {s t : List ℕ} → Members p s t → 17 + length t ≤ length s
members_least (start_first u v w k) = omega (arith, member_least_lem u, white_least v, white_least w, member_least_lem k)
members_least (end_first u v w k) = omega (arith, member_least_lem u, white_least v, white_least w, member_least_lem k)

object_least : {p : Span} {s t : List ℕ} → Object p s t → 19 + length t ≤ length s
object_least (object u v w) = omega (arith, white_least u, members_least v, white_least w)

more_least : {l : List Span} {s t : List ℕ} → More l s t → length l * 20 + length t ≤ length s
more_least no_more = omega arith
more_least (one_more u o v k) = omega (arith, white_least u, object_least o, white_least v, more_least k)

array_least : {l : List Span} {s t : List ℕ} → Array l s t → length l * 20 + length t ≤ length s
array_least (empty u) = omega (arith, white_least u)
array_least (filled u o v k) = omega (arith, white_least u, object_least o, white_least v, more_least k)

pub records_few : {l : List Span} {s : List ℕ} → File l s → length l * 20 ≤ length s
records_few (file u v w) = omega (arith, white_least u, array_least v, white_least w)

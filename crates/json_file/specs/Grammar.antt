-- The files of records that are read, as a grammar: each type is a rule of RFC 8259, whose words head it, held to what request 4 accepts. `White s t`:
-- s is white space and then t; so for the others. Assumes nothing.
-- Request 4: "an array of objects with "start" and "end" … members in either order, white space as the RFC allows, numbers as plain unsigned integers to
-- 4,294,967,295 without leading zeros, no escapes in names, nothing else accepted."
use Rattle.std.specs.Prelude.{List, [], ◌∷◌, ◌++◌, ℕ, ◌+◌, ◌*◌, ◌<◌, ◌≤◌}
use Rattle.common.specs.declared.span.Span.{Span}
use Rattle.json_file.specs.declared.phase.Name.{Name}
use Rattle.json_file.specs.declared.phase.Name.TheVariants as name

-- "to 4,294,967,295": the greatest number of a file, and so the greatest place of a region
abbrev pub greatest : ℕ
greatest = 4294967295

-- "ws = *( %x20 / %x09 / %x0A / %x0D )"
pub data White : List ℕ → List ℕ → Type 0 where
  nothing : {t : List ℕ} → White t t
  space : {s t : List ℕ} → White s t → White (32 ∷ s) t
  tab : {s t : List ℕ} → White s t → White (9 ∷ s) t
  feed : {s t : List ℕ} → White s t → White (10 ∷ s) t
  back : {s t : List ℕ} → White s t → White (13 ∷ s) t

-- "*DIGIT", behind digits that make n, all of them making m
pub data MoreDigits : ℕ → ℕ → List ℕ → List ℕ → Type 0 where
  no_digit : {n : ℕ} {t : List ℕ} → MoreDigits n n t t
  one_digit : {n m : ℕ} {s t : List ℕ} (d : ℕ) → d < 10 → MoreDigits (n * 10 + d) m s t → MoreDigits n m ((48 + d) ∷ s) t

-- "int = zero / ( digit1-9 *DIGIT )"; "plain unsigned integers to 4,294,967,295"
pub data Number : ℕ → List ℕ → List ℕ → Type 0 where
  nought : {t : List ℕ} → Number 0 (48 ∷ t) t
  int : {n : ℕ} {s t : List ℕ} (d : ℕ) → 0 < d → d < 10 → MoreDigits d n s t → n ≤ greatest → Number n ((48 + d) ∷ s) t

-- "member = string name-separator value", "name-separator = ws %x3A ws"; "no escapes in names": `"start"` or `"end"`, byte for byte
pub data Member : Name → ℕ → List ℕ → List ℕ → Type 0 where
  start_member : {n : ℕ} {a b c t : List ℕ} → White a (58 ∷ b) → White b c → Number n c t → Member name.Start n (34 ∷ 115 ∷ 116 ∷ 97 ∷ 114 ∷ 116 ∷ 34 ∷ a) t
  end_member : {n : ℕ} {a b c t : List ℕ} → White a (58 ∷ b) → White b c → Number n c t → Member name.End n (34 ∷ 101 ∷ 110 ∷ 100 ∷ 34 ∷ a) t

-- "member *( value-separator member )", "value-separator = ws %x2C ws"; "members in either order"
pub data Members : Span → List ℕ → List ℕ → Type 0 where
  start_first : {p : Span} {s a b c t : List ℕ} → Member name.Start p.start s a → White a (44 ∷ b) → White b c → Member name.End p.end c t → Members p s t
  end_first : {p : Span} {s a b c t : List ℕ} → Member name.End p.end s a → White a (44 ∷ b) → White b c → Member name.Start p.start c t → Members p s t

-- "object = begin-object [ member *( value-separator member ) ] end-object", "begin-object = ws %x7B ws", "end-object = ws %x7D ws"
pub data Object : Span → List ℕ → List ℕ → Type 0 where
  object : {p : Span} {a b c t : List ℕ} → White a b → Members p b c → White c (125 ∷ t) → Object p (123 ∷ a) t

-- "*( value-separator value ) ] end-array", "end-array = ws %x5D ws"
pub data More : List Span → List ℕ → List ℕ → Type 0 where
  no_more : {t : List ℕ} → More [] (93 ∷ t) t
  one_more : {p : Span} {l : List Span} {a b c d t : List ℕ} → White a b → Object p b c → White c d → More l d t → More (p ∷ l) (44 ∷ a) t

-- "array = begin-array [ value *( value-separator value ) ] end-array", "begin-array = ws %x5B ws"
pub data Array : List Span → List ℕ → List ℕ → Type 0 where
  empty : {a t : List ℕ} → White a (93 ∷ t) → Array [] (91 ∷ a) t
  filled : {p : Span} {l : List Span} {a b c d t : List ℕ} → White a b → Object p b c → White c d → More l d t → Array (p ∷ l) (91 ∷ a) t

-- "JSON-text = ws value ws": s is a file of the list l
pub data File : List Span → List ℕ → Type 0 where
  file : {l : List Span} {s a b : List ℕ} → White s a → Array l a b → White b [] → File l s

-- "continue a file of this form": with bytes behind it, a text is a file
pub record BeginsFile (s : List ℕ) : Type 0 where
  pub behind : List ℕ
  pub list : List Span
  pub made : File list (s ++ behind)

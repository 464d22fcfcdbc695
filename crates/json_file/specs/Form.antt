-- What may come next in a file of records, byte by byte, and where a byte can't continue one. Assumes nothing.
-- Request 4: "members in either order, white space as the RFC allows, numbers as plain unsigned integers to 4,294,967,295 without leading zeros, no
-- escapes in names, nothing else accepted". GrammarLaws and GrammarBack show that what is read to its end is exactly what Grammar has.
use Rattle.std.specs.Prelude.{Bool, true, false, cond, ◌||◌, List, [], ◌∷◌, ◌++◌, ℕ, suc, ◌+◌, ◌-◌, ◌*◌, eqb, ltb}
use Rattle.search.specs.Search.{digit}
use Rattle.common.specs.declared.span.Span.{Span}
use Rattle.json_file.specs.Grammar.{greatest}
use Rattle.json_file.specs.declared.phase.Had.{Had}
use Rattle.json_file.specs.declared.phase.Had.TheVariants as had
use Rattle.json_file.specs.declared.phase.Name.{Name}
use Rattle.json_file.specs.declared.phase.Name.TheVariants as name
use Rattle.json_file.specs.declared.phase.Letter.{Letter}
use Rattle.json_file.specs.declared.phase.Letter.TheVariants.{StartT, StartA, StartR, StartLast, StartQuote, EndN, EndD, EndQuote}
use Rattle.json_file.specs.declared.phase.Part.{Part}
use Rattle.json_file.specs.declared.phase.Part.TheVariants as part
use Rattle.json_file.specs.declared.phase.Phase.{Phase}
use Rattle.json_file.specs.declared.phase.Phase.TheVariants as phase
use Rattle.json_file.specs.declared.phase.Move.{Move}
use Rattle.json_file.specs.declared.phase.Move.TheVariants.{On, Shut, Bad}

-- ---- a byte more
-- "white space as the RFC allows"
abbrev pub white : ℕ → Bool
white x = eqb x 32 || (eqb x 9 || (eqb x 10 || eqb x 13))

-- a byte that is asked for leads on, white space stays, and nothing else may come
abbrev pub await_move : ℕ → Move → Move → ℕ → Move
await_move c here on x = cond (white x) here (cond (eqb x c) on Bad)

-- the names' bytes as they are, `start` and `end`: the byte that is asked for
abbrev pub letter_byte : Letter → ℕ
letter_byte StartT = 116
letter_byte StartA = 97
letter_byte StartR = 114
letter_byte StartLast = 116
letter_byte StartQuote = 34
letter_byte EndN = 110
letter_byte EndD = 100
letter_byte EndQuote = 34

-- what may come behind it: the name's next byte, and behind its quote the colon
abbrev pub letter_on : Had → Letter → Phase
letter_on h StartT = phase.Naming h StartA
letter_on h StartA = phase.Naming h StartR
letter_on h StartR = phase.Naming h StartLast
letter_on h StartLast = phase.Naming h StartQuote
letter_on h StartQuote = phase.Colon h name.Start
letter_on h EndN = phase.Naming h EndD
letter_on h EndD = phase.Naming h EndQuote
letter_on h EndQuote = phase.Colon h name.End

-- "no escapes in names"
abbrev pub letter_move : Had → Letter → ℕ → Move
letter_move h p x = cond (eqb x (letter_byte p)) (On (letter_on h p)) Bad

-- "members in either order": a name that the object doesn't have yet
abbrev pub name_move : Had → ℕ → Move
name_move had.Nothing x = cond (eqb x 115) (On (phase.Naming had.Nothing StartT)) (cond (eqb x 101) (On (phase.Naming had.Nothing EndN)) Bad)
name_move (had.Start n) x = cond (eqb x 101) (On (phase.Naming (had.Start n) EndN)) Bad
name_move (had.End n) x = cond (eqb x 115) (On (phase.Naming (had.End n) StartT)) Bad

-- behind the colon: white space, or a number's first digit
abbrev pub value_move : Had → Name → ℕ → Move
value_move h w x = cond (white x) (On (phase.Value h w)) (cond (digit x) (On (phase.Number h w (x - 48))) Bad)

-- one digit more: "to 4,294,967,295 without leading zeros"
abbrev pub grown_move : Had → Name → ℕ → ℕ → Move
grown_move h w n d = cond (eqb n 0 || ltb greatest (n * 10 + d)) Bad (On (phase.Number h w (n * 10 + d)))

-- an object's members with one more
abbrev pub part_gained : Had → Name → ℕ → Part
part_gained had.Nothing name.Start n = part.Start n
part_gained had.Nothing name.End n = part.End n
part_gained (had.Start m) w n = part.Both m n
part_gained (had.End m) w n = part.Both n m

-- behind one member a comma, behind both the object's end
abbrev pub part_move : Part → ℕ → Move
part_move (part.Start n) x = await_move 44 (On (phase.Member (part.Start n))) (On (phase.Opened (had.Start n))) x
part_move (part.End n) x = await_move 44 (On (phase.Member (part.End n))) (On (phase.Opened (had.End n))) x
part_move (part.Both a b) x = await_move 125 (On (phase.Member (part.Both a b))) (Shut a b) x

-- behind a digit: another one, or what stands behind a member
abbrev pub digit_move : Had → Name → ℕ → ℕ → Move
digit_move h w n x = cond (digit x) (grown_move h w n (x - 48)) (part_move (part_gained h w n) x)

-- behind the array's bracket: its end, or the first object
abbrev pub first_move : ℕ → Move
first_move x = cond (eqb x 93) (On phase.Done) (await_move 123 (On phase.First) (On (phase.Opened had.Nothing)) x)

-- behind an object: the array's end, or a comma
abbrev pub closed_move : ℕ → Move
closed_move x = cond (eqb x 93) (On phase.Done) (await_move 44 (On phase.Closed) (On phase.Next) x)

-- behind the array: white space alone
abbrev pub done_move : ℕ → Move
done_move x = cond (white x) (On phase.Done) Bad

-- a byte more at each phase
unfoldable pub phase_move : Phase → ℕ → Move
phase_move phase.Begin x = await_move 91 (On phase.Begin) (On phase.First) x
phase_move phase.First x = first_move x
phase_move phase.Next x = await_move 123 (On phase.Next) (On (phase.Opened had.Nothing)) x
phase_move (phase.Opened h) x = await_move 34 (On (phase.Opened h)) (On (phase.Quoted h)) x
phase_move (phase.Quoted h) x = name_move h x
phase_move (phase.Naming h p) x = letter_move h p x
phase_move (phase.Colon h w) x = await_move 58 (On (phase.Colon h w)) (On (phase.Value h w)) x
phase_move (phase.Value h w) x = value_move h w x
phase_move (phase.Number h w n) x = digit_move h w n x
phase_move (phase.Member q) x = part_move q x
phase_move phase.Closed x = closed_move x
phase_move phase.Done x = done_move x

-- ---- a file
-- how far a file was read: to these regions and what may come next; or a byte came that can't continue
pub data Course : Type 0 where
  upto : List Span → Phase → Course
  off : Course

-- before the first byte
abbrev pub outset : Course
outset = upto [] phase.Begin

-- the region of an object
abbrev pub span : ℕ → ℕ → Span
span a b = record { start = a; end = b }

-- a byte more, with the regions before it: an object's end adds its region
abbrev pub move_on : List Span → Move → Course
move_on l (On g) = upto l g
move_on l (Shut a b) = upto (l ++ (span a b ∷ [])) phase.Closed
move_on l Bad = off

-- all bytes of a text, one after another; behind one that can't continue nothing can
unfoldable pub follow : Course → List ℕ → Course
follow c [] = c
follow off (x ∷ s) = off
follow (upto l g) (x ∷ s) = follow (move_on l (phase_move g x)) s

-- whether a file may end here
abbrev pub may_end : Phase → Bool
may_end phase.Begin = false
may_end phase.First = false
may_end phase.Next = false
may_end (phase.Opened h) = false
may_end (phase.Quoted h) = false
may_end (phase.Naming h p) = false
may_end (phase.Colon h w) = false
may_end (phase.Value h w) = false
may_end (phase.Number h w n) = false
may_end (phase.Member q) = false
may_end phase.Closed = false
may_end phase.Done = true

-- whether a text that was followed so far is a file
abbrev pub is_whole : Course → Bool
is_whole off = false
is_whole (upto l g) = may_end g

-- whether a byte came that can't continue
abbrev pub is_off : Course → Bool
is_off off = true
is_off (upto l g) = false

-- "the place of the first byte that can't continue a file of this form, list shape aside, or the length of a file that breaks off"
unfoldable pub broken_at : Course → List ℕ → ℕ
broken_at c [] = 0
broken_at off (x ∷ s) = 0
broken_at (upto l g) (x ∷ s) = elim (is_off (move_on l (phase_move g x))) [ true ↦ 0 | false ↦ suc (broken_at (move_on l (phase_move g x)) s) ]

-- the regions that were read
abbrev pub regions_read : Course → List Span
regions_read off = []
regions_read (upto l g) = l

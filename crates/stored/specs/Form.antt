-- The form of a question, and its parts. Assumes nothing.
-- The head of the first list: "A text, and any other list, is its length and its numbers." and "A capital letter asks the same of all texts of
-- one length: the parameters as above, the size of an alphabet and its bytes, the length n".
use Rattle.std.specs.Prelude.{Bool, true, false, cond, not, ◌&&◌, ◌||◌, List, [], ℕ, zero, suc, ◌+◌, eqb, ltb, leb, length, get_or, set, replicate}
use Rattle.stored.specs.Parts.{numbers_between, after_list, list_in, front, every, are_bytes}
use Rattle.stored.specs.declared.form.Form.{Form}
use Rattle.stored.specs.declared.form.Question.{Question}
use Rattle.stored.specs.declared.form.Way.{Way}
use Rattle.stored.specs.declared.texts.Places.{Places}
use Rattle.stored.specs.declared.texts.Places.TheVariants.{Whole, FromStart, FromSecond, Beyond, Nowhere, AtStart}
use Rattle.stored.specs.declared.form.Way.TheVariants.{One, Runs, All, Drawn, Unknown}

-- ---- forms
abbrev pub form_of : ℕ → ℕ → ℕ → Places → Form
form_of wide singles lists places = record { wide = wide; singles = singles; lists = lists; free = replicate 7 false; places = places }

abbrev pub unknown_form : Form
unknown_form = form_of 0 0 0 Nowhere

-- list i may hold any numbers
abbrev pub freed : Form → ℕ → Form
freed f i = cond (leb 7 i) f (record { wide = f.wide; singles = f.singles; lists = f.lists; free = set f.free i true; places = f.places })

-- ---- letters
-- "A capital letter asks the same of all texts of one length"
abbrev pub is_capital : ℕ → Bool
is_capital l = leb 65 l && leb l 90

abbrev pub small_of : ℕ → ℕ
small_of l = cond (is_capital l) (l + 32) l

-- ---- where the parts of a question end
-- list i, where the form has it, and the text, which is list 7, begin with their count; another has no numbers
abbrev pub next_end : Form → List ℕ → ℕ → ℕ → ℕ
next_end f asked a i = cond (ltb i f.lists || eqb i 7) (after_list asked a) a

unfoldable pub list_end : Form → List ℕ → ℕ → ℕ
list_end f asked zero = f.singles
list_end f asked (suc i) = next_end f asked (list_end f asked i) i

abbrev pub ends_of : Form → List ℕ → List ℕ
ends_of f asked = front (list_end f asked) 9 9

abbrev pub question_of : Form → ℕ → ℕ → List ℕ → Question
question_of f section letter asked = record { section = section; letter = small_of letter; places = f.places; at = ends_of f asked }

-- the numbers of list i, and those behind the text
abbrev pub part_of : {A : Type 0} → Question → List A → ℕ → List A
part_of q s i = cond (leb i 7) (list_in s (get_or q.at i 0) (get_or q.at (i + 1) 0)) []

abbrev pub rest_of : {A : Type 0} → Question → List A → List A
rest_of q s = numbers_between s (get_or q.at 8 0) (length s)

-- ---- whether numbers are bytes where bytes are meant
abbrev pub list_sound : Form → List ℕ → Question → ℕ → Bool
list_sound f asked q i = leb 7 i || (get_or f.free i false || are_bytes (part_of q asked i) false)

abbrev pub lists_sound : Form → List ℕ → Question → Bool
lists_sound f asked q = every (list_sound f asked q) 7

abbrev pub has_places : Places → Bool
has_places Whole = true
has_places FromStart = true
has_places FromSecond = true
has_places Beyond = true
has_places Nowhere = false
has_places AtStart = true

abbrev pub is_sound : Form → List ℕ → Question → Bool → Bool
is_sound f asked q runs = has_places f.places && (are_bytes (numbers_between asked f.wide f.singles) false && (are_bytes (part_of q asked 7) runs && lists_sound f asked q))

-- ---- how the texts are given
-- how many numbers stand behind the text: a place; "the length n"; with a star also "a seed and how many texts there are"
abbrev pub behind_one : Places → ℕ
behind_one Whole = 0
behind_one FromStart = 1
behind_one FromSecond = 1
behind_one Beyond = 1
behind_one Nowhere = 1
behind_one AtStart = 1

abbrev pub behind_text : Form → Bool → Bool → ℕ
behind_text f capital starred = cond capital (cond starred 3 1) (behind_one f.places)

abbrev pub way_by : Bool → Bool → Way
way_by capital starred = cond capital (cond starred Drawn All) (cond starred Runs One)

-- whether a question has a form
abbrev pub fits : Form → Bool → Bool → List ℕ → Question → Bool
fits f capital starred asked q = eqb (length (rest_of q asked)) (behind_text f capital starred) && is_sound f asked q (not capital && starred)

abbrev pub way_of : Form → ℕ → Bool → List ℕ → Question → Way
way_of f l starred asked q = cond (fits f (is_capital l) starred asked q) (way_by (is_capital l) starred) Unknown

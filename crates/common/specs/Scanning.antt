-- Scanners of items that lead a line: a state's fields, the turn that they choose, what a step answers and leaves, and the items that a state has before it. Assumes nothing.
-- The page: "With up to three accepted bytes the streaming scan is used, else the line scan; in a handmade state its flag decides, and a
-- needle count over 3 acts as 3.", "State fields follow the Rust's.", "For a scanner: 1, 2."
use Rattle.std.specs.Prelude.{Bool, false, cond, List, [], ◌∷◌, ℕ, ◌≤◌, length, take}
use Rattle.search.specs.Promise.{Steps}
use Rattle.search.specs.Search.{one_of}
use Rattle.common.specs.Sets.{probe}
use Rattle.common.specs.Refusals.{Outcome, given, read, unless_none}
use Rattle.common.specs.Turn.{Turn, go, stop, found, first_turn, all_found}
use Rattle.common.specs.Items.{ItemGrammar, grammar, has, answer_by, state_by}
use Rattle.common.specs.declared.refusal.Refusal.{Refusal}
use Rattle.common.specs.declared.sets.Probe.{Probe}

-- ---- the fields of a state
pub record Fields : Type 0 where
  pub eol : ℕ
  pub sep : ℕ
  pub tab : ℕ
  pub pos : ℕ
  pub needles : List ℕ
  pub nn : ℕ
  pub streaming : Bool

-- those of a state at another place
abbrev pub moved : Fields → ℕ → Fields
moved f q = record { eol = f.eol; sep = f.sep; tab = f.tab; pos = q; needles = f.needles; nn = f.nn; streaming = f.streaming }

-- those of a state with its flag off
abbrev pub unflagged : Fields → Fields
unflagged f = record { eol = f.eol; sep = f.sep; tab = f.tab; pos = f.pos; needles = f.needles; nn = f.nn; streaming = false }

-- those that a probe makes: "With up to three accepted bytes the streaming scan is used, else the line scan"
abbrev pub probed : ℕ → ℕ → ℕ → Probe → Fields
probed eol sep tab p = record { eol = eol; sep = sep; tab = tab; pos = 0; needles = p.needles; nn = p.nn; streaming = p.streaming }

-- what the streaming scan reads by: "a needle count over 3 acts as 3"
abbrev pub by_needles : Fields → ItemGrammar
by_needles f = grammar f.eol f.sep f.tab (one_of (take f.nn f.needles))

-- what the line scan reads by
abbrev pub by_set : Fields → List Bool → ItemGrammar
by_set f set = grammar f.eol f.sep f.tab (has set)

-- ---- a scanner of items A with states S
pub record Scanner (S A : Type 0) : Type 0 where
  -- a state's fields, and the state that has them
  pub fields : S → Fields
  pub made : Fields → S
  -- one turn of its streaming scan and of its line scan, by what they read by
  pub streams : ItemGrammar → List ℕ → ℕ → Turn A
  pub lines : ItemGrammar → List ℕ → ℕ → Turn A
  -- an item's values, and the item of such values
  pub values : A → List ℕ
  pub back : List ℕ → A

module _ {S A : Type 0} (c : Scanner S A) where
  -- a fresh state
  abbrev pub fresh : ℕ → ℕ → ℕ → List Bool → S
  fresh eol sep tab set = c.made (probed eol sep tab (probe set))

  -- the state at another place
  abbrev pub at : S → ℕ → S
  at g q = c.made (moved (c.fields g) q)

  -- the state with its flag off: it scans by lines
  abbrev pub flag_off : S → S
  flag_off g = c.made (unflagged (c.fields g))

  -- the turn that a state's fields choose: "in a handmade state its flag decides"
  abbrev pub turn_by : List Bool → List ℕ → Fields → ℕ → Turn A
  turn_by set s f = cond f.streaming (c.streams (by_needles f) s) (c.lines (by_set f set) s)

  unfoldable pub turn : S → List Bool → List ℕ → ℕ → Turn A
  turn g set s = turn_by set s (c.fields g)

  -- the first turn from the state's place that does not only go on
  unfoldable pub first : S → List Bool → List ℕ → Turn A
  first g set s = first_turn (turn g set s) (length s) (c.fields g).pos

  -- what a step answers, and the state after it
  unfoldable pub answer : S → List Bool → List ℕ → Outcome
  answer g set s = answer_by c.values s (c.fields g).pos (first g set s)

  unfoldable pub state : S → List Bool → List ℕ → S
  state g set s = state_by at g s (c.fields g).pos (first g set s)

  -- the promise of a step for what its answer says and the state after it
  abbrev pub Keeps : S → List Bool → List ℕ → Outcome → S → Type 0
  Keeps g set s o n = Steps (answer g set s) (state g set s) o n

  -- that promise of a state wherever it stands in the text: `says` is what a step's answer says, `next` the state after it
  abbrev pub KeepsFrom : S → List Bool → List ℕ → (S → Outcome) → (S → S) → Type 0
  KeepsFrom g set s says next = (q : ℕ) → q ≤ length s → Keeps (at g q) set s (says (at g q)) (next (at g q))

  -- what the code has for an answer, by what it has for an item, for none and for a refusal
  abbrev pub found_by : {F : Type 0} → (A → F) → F → (Refusal → F) → Outcome → F
  found_by item none denied = read (unless_none none (λ l. item (c.back l))) denied

  -- all items that a state's scan has before it
  abbrev pub items : S → List Bool → List ℕ → List A
  items g set s = all_found (turn g set s) (length s) (c.fields g).pos

  -- ---- a step as one pair: what it answers, and the state after it
  abbrev pub result : S → List Bool → List ℕ → Outcome × S
  result g set s = (answer g set s, state g set s)

  module _ (g : S) (set : List Bool) (s : List ℕ) where
    -- that of the state from place n on
    abbrev pub on_from : ℕ → Outcome × S
    on_from n = result (at g n) set s

    -- that of a line's item, if it has one, where the next line begins at n
    abbrev pub of_line : List A → ℕ → Outcome × S
    of_line [] n = on_from n
    of_line (a ∷ l) n = (given (c.values a), at g n)

    -- that of a turn
    abbrev pub of_turn : Turn A → Outcome × S
    of_turn (go n) = on_from n
    of_turn (stop v) = (given [], at g v)
    of_turn (found a n) = (given (c.values a), at g n)

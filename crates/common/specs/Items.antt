-- Items that lead a line: what both item scanners read a text by, the bytes of a line, and what a scanner makes of a scan's answer. Assumes nothing.
-- The page: "Optional separators and tabs, one accepted byte, one separator or tab; the span is the rest of the line."
use Rattle.std.specs.Prelude.{◌≡◌, Bool, true, false, cond, ◌&&◌, List, [], ◌∷◌, ℕ, ◌+◌, ◌-◌, ltb, length}
use Rattle.std.proofs.Math.Seq.{slice}
use Rattle.search.specs.Search.{either, find, back, line_start, line_end, after_line}
use Rattle.common.specs.Rules.{entry}
use Rattle.common.specs.Refusals.{Outcome, given, refuse, leaves, unless_none, too_long, past}
use Rattle.common.specs.Turn.{Turn, go, stop, found, between, Step, yields, ends}

-- what lines of items are read by: line end, separator, tab, and the test of accepted bytes
pub record ItemGrammar : Type 0 where
  pub eol : ℕ
  pub sep : ℕ
  pub tab : ℕ
  pub accepts : ℕ → Bool

abbrev pub grammar : ℕ → ℕ → ℕ → (ℕ → Bool) → ItemGrammar
grammar eol sep tab accepts = record { eol = eol; sep = sep; tab = tab; accepts = accepts }

-- whether a byte is a separator or a tab
abbrev pub blank : ItemGrammar → ℕ → Bool
blank g = either g.sep g.tab

-- whether a set accepts a byte
abbrev pub has : List Bool → ℕ → Bool
has set x = entry false set x

-- "none of line end, separator, tab", "the line end is neither separator nor tab"
pub record Apart (g : ItemGrammar) : Type 0 where
  pub not_eol : g.accepts g.eol ≡ false
  pub not_sep : g.accepts g.sep ≡ false
  pub not_tab : g.accepts g.tab ≡ false
  pub eol_sep : g.eol ≡ g.sep → ⊥
  pub eol_tab : g.eol ≡ g.tab → ⊥

-- ---- the bytes of a line
-- those of the line that begins at a, without its line end
abbrev pub line_bytes : ItemGrammar → List ℕ → ℕ → List ℕ
line_bytes g s a = slice a (line_end g.eol s a) s

-- the leading bytes that pass a test
unfoldable pub leading : (ℕ → Bool) → List ℕ → List ℕ
leading t [] = []
leading t (x ∷ l) = elim (t x) [ true ↦ x ∷ leading t l | false ↦ [] ]

-- the bytes behind those
unfoldable pub beyond : (ℕ → Bool) → List ℕ → List ℕ
beyond t [] = []
beyond t (x ∷ l) = elim (t x) [ true ↦ beyond t l | false ↦ x ∷ l ]

-- whether only separators and tabs stand before p on its line
unfoldable pub leads : ℕ → ℕ → ℕ → List ℕ → ℕ → Bool
leads eol sep tab s p = line_start eol s (p - back (either sep tab) s p)

-- ---- the item of a line
module _ {A : Type 0} where
  -- of a line's bytes, the first of them at k: one accepted byte, one separator or tab, and the rest of the line; `make` makes the item of
  -- that byte and of its content's start and end
  abbrev pub item_from : ItemGrammar → (ℕ → ℕ → ℕ → A) → ℕ → List ℕ → List A
  item_from g make k [] = []
  item_from g make k (x ∷ []) = []
  item_from g make k (x ∷ y ∷ rest) = cond (g.accepts x && blank g y) (make x (k + 2) (k + 2 + length rest) ∷ []) []

  abbrev pub line_found : List A → ℕ → Turn A
  line_found [] n = go n
  line_found (i ∷ l) n = found i n

-- where `line a l` is the item of a line whose bytes are l, the first of them at a
module _ {A : Type 0} (g : ItemGrammar) (line : ℕ → List ℕ → List A) (s : List ℕ) where
  -- the item of a place: that of the line which begins there
  unfoldable pub item_at : ℕ → List A
  item_at a = cond (line_start g.eol s a) (line a (line_bytes g s a)) []

  -- all items of a text
  unfoldable pub items_of : List A
  items_of = between item_at 0 (length s)

  -- one turn of a line scan at q, taken for a line's start
  unfoldable pub read_turn : ℕ → Turn A
  read_turn q = cond (ltb q (length s)) (line_found (line q (line_bytes g s q)) (after_line g.eol s q)) (stop q)

-- one turn of a streaming scan at q: what `hit` makes of the next accepted byte's place; where there is none the scan stays
abbrev pub hit_turn : {A : Type 0} → ItemGrammar → (ℕ → Turn A) → List ℕ → ℕ → Turn A
hit_turn g hit s q = cond (ltb (find g.accepts s q) (length s)) (hit (find g.accepts s q)) (stop q)

-- ---- a scanner's step, by its scan's answer
-- "For a scanner: 1, 2.", as for a leaf that takes a place and no rules; else what follows. The place, or the state, may be misplaced in its text
abbrev pub unless_refused : List ℕ → Bool → Outcome → Outcome
unless_refused s misplaced o = refuse 1 (too_long s) (refuse 2 misplaced o)

module _ {A : Type 0} where
  -- what the answer says, by the values of a thing found
  abbrev pub said : (A → List ℕ) → Turn A → Outcome
  said values (go n) = given []
  said values (stop v) = given []
  said values (found a n) = given (values a)

  -- the place that the state goes on from
  abbrev pub place_of : Turn A → ℕ
  place_of (go n) = n
  place_of (stop v) = v
  place_of (found a n) = n

  -- the step's answer from a place p of a text
  abbrev pub answer_by : (A → List ℕ) → List ℕ → ℕ → Turn A → Outcome
  answer_by values s p t = unless_refused s (past s p) (said values t)

  -- the state after it: a refusal hands the state back as it was
  abbrev pub state_by : {S : Type 0} → (S → ℕ → S) → S → List ℕ → ℕ → Turn A → S
  state_by at g s p t = leaves (unless_refused s (past s p) (given [])) g (at g (place_of t))

-- the step that an answer's values make, with the state after it, where `back` is the thing of such values: no values are the end
abbrev pub step_for : {A S : Type 0} → (List ℕ → A) → List ℕ → S → Step A S
step_for back l g = unless_none (ends g) (λ l. yields (back l) g) l

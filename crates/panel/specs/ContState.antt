-- The state of the scanner of frames as a byte run. Assumes nothing.
-- The page: "State fields follow the Rust's." and "each number of a list is four bytes, low byte first."
use Rattle.std.specs.Prelude.{◌≡◌, List, [], ◌∷◌, ◌++◌, ℕ, ◌+◌, ◌*◌, length, get_or, replicate}
use Rattle.common.specs.Entry.{flatten}
use Rattle.common.specs.Refusals.{span_values}
use Rattle.common.specs.Rules.{tabulate}
use Rattle.common.specs.declared.span.Span.{Span}
use Rattle.cont.specs.declared.ContIter.{ContIter}
use Rattle.cont.specs.Cont as cont
use Rattle.cont.specs.Frames.{frame}
use Rattle.cells.specs.Reply.{LaidAt}
use Rattle.panel.specs.State.{Stepper}

-- the first four fields are bytes
unfoldable pub cont_limits : List ℕ
cont_limits = 255 ∷ 255 ∷ 255 ∷ 255 ∷ replicate 101 4294967295

abbrev pub single : ℕ → List ℕ
single n = n ∷ []

-- an array of 32 laid from cell k on
pub record Spread {A : Type 0} (flat : A → List ℕ) (k : ℕ) (all : List A) (out out' : List ℕ) : Type 0 where
  pub long : length all ≡ 32
  pub laid : LaidAt k (flatten flat all) out out'

-- the cells of a state, in the order of its fields: a span's start and then its end
unfoldable pub cont_cells : ContIter → List ℕ
cont_cells g =
    ((((g.byte ∷ g.eol ∷ g.sep ∷ g.tab ∷ g.cap ∷ g.pos ∷ []) ++ flatten single g.«open») ++ (g.open_len ∷ [])) ++ flatten span_values g.pending) ++ (g.pending_len ∷ g.pending_idx ∷ [])

-- the cells from the seventh on, of which 32
abbrev pub open_cell : List ℕ → ℕ → ℕ
open_cell l i = get_or l (i + 6) 0

unfoldable pub open_cells : List ℕ → List ℕ
open_cells l = tabulate (open_cell l) 32 0

-- the spans from the fortieth cell on, of which 32
abbrev pub pending_cell : List ℕ → ℕ → Span
pending_cell l i = frame (get_or l (i * 2 + 39) 0) (get_or l (i * 2 + 40) 0)

unfoldable pub pending_from : List ℕ → List Span
pending_from l = tabulate (pending_cell l) 32 0

-- the state that cells make
unfoldable pub cont_from : List ℕ → ContIter
cont_from l = record {
  byte = get_or l 0 0;
  eol = get_or l 1 0;
  sep = get_or l 2 0;
  tab = get_or l 3 0;
  cap = get_or l 4 0;
  pos = get_or l 5 0;
  «open» = open_cells l;
  open_len = get_or l 38 0;
  pending = pending_from l;
  pending_len = get_or l 103 0;
  pending_idx = get_or l 104 0;
}

abbrev pub cont_stepper : Stepper ContIter
cont_stepper = record { read = cont_from; show = cont_cells; limits = cont_limits; answer = cont.answer; next = cont.state }

-- States, lists and answers as a host has them in bytes: what a state's run holds, and what an answer run says. Assumes nothing.
-- The page: "each number of a list is four bytes, low byte first.", "State fields follow the Rust's."
use Rattle.std.specs.Prelude.{◌≡◌, true, List, ℕ, ◌≤◌, length, get_or, take, drop, replicate}
use Rattle.common.specs.Entry.{flatten}
use Rattle.common.specs.Turning.{Each}
use Rattle.common.specs.declared.span.Span.{Span}
use Rattle.cont.specs.declared.ContIter.{ContIter}
use Rattle.cells.specs.Bytes.{four, cells, within, readable}

-- limits of 32 bits
abbrev pub Small : List ℕ → Type 0
Small limits = within (replicate (length limits) 4294967295) limits ≡ true

-- ---- any scanner's state
module _ {G : Type 0} (from : List ℕ → G) (show : G → List ℕ) (limits : List ℕ) where
  -- a state whose cells are within the limits, and make it
  pub record Held (g : G) : Type 0 where
    pub fits : within limits (show g) ≡ true
    pub same : from (show g) ≡ g

  -- a run that holds a state: its bytes are the state's, and are read as it
  pub record Holds (run : List ℕ) (g : G) : Type 0 where
    pub bytes : run ≡ flatten four (show g)
    pub readable : readable limits run ≡ true
    pub reads : from (cells run) ≡ g

-- ---- the state of the scanner of frames
-- a number of 32 bits, and a span of such
abbrev pub Few : ℕ → Type 0
Few x = x ≤ 4294967295

abbrev pub FewSpan : Span → Type 0
FewSpan p = Few p.start × Few p.end

-- a state whose bytes are bytes, whose numbers have 32 bits, and whose arrays have 32 places
pub record Bounded (g : ContIter) : Type 0 where
  pub byte : g.byte ≤ 255
  pub eol : g.eol ≤ 255
  pub sep : g.sep ≤ 255
  pub tab : g.tab ≤ 255
  pub cap : Few g.cap
  pub pos : Few g.pos
  pub opens : Each Few g.«open»
  pub opens_long : length g.«open» ≡ 32
  pub held : Few g.open_len
  pub waits : Each FewSpan g.pending
  pub waits_long : length g.pending ≡ 32
  pub waiting : Few g.pending_len
  pub drawn : Few g.pending_idx

-- ---- texts and answers
-- a byte, and a text, which is a run of bytes
abbrev pub Byte : ℕ → Type 0
Byte x = x ≤ 255

abbrev pub ByteRun : List ℕ → Type 0
ByteRun s = Each Byte s

-- the values that an answer run says: how many there are, and then these
abbrev pub values_in : List ℕ → List ℕ
values_in run = take (get_or (cells run) 0 0) (drop 1 (cells run))

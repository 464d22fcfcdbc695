-- Laws of states read back from their bytes: what an entry wrote, the next entry reads, for the fence scanner and both scanners of items. Assumes nothing.
-- The page: "each number of a list is four bytes, low byte first.", "each step takes a state and gives the answer with the next state".
use Rattle.std.specs.Prelude.{◌≡◌, Bool, false, cond, List, [], ◌∷◌, ◌⊎◌, ℕ, zero, suc, ◌+◌, ◌*◌, ◌≤◌, ◌<◌, eqb, ltb, get_or, drop, replicate}
use Rattle.std.proofs.Math.Path.{refl, ap}
use Rattle.std.proofs.Common.{sym, subst, ◌∙◌, inl, inr, arith, ltb→lt, drop_of_length-le, drop-cons}
use Rattle.std.proofs.Math.Bool.{true}
use Rattle.std.proofs.Math.Dec.{T, leb}
use Rattle.std.proofs.Math.ListN.{length, set}
use borrow.Author.Tests.{le-leb, leb-true, eq-eqb, ltb-false}
use Rattle.search.specs.SearchLaws.{decide, and_true}
use Rattle.common.specs.Entry.{flatten}
use Rattle.common.specs.Rules.{tabulate}
use Rattle.common.specs.Refusals.{too_long, past}
use Rattle.common.specs.Turn.{Turn, first_turn}
use Rattle.common.specs.Turning.{Adv, Leads}
use Rattle.common.specs.TurnLaws.{by_turn, scan_ends}
use Rattle.common.specs.Items.{place_of, state_by}
use Rattle.common.specs.Scanning.{Fields, Scanner, moved, probed, fresh, at, first, state}
use Rattle.common.specs.ScanningLaws.{Lawful, turn_adv}
use Rattle.common.specs.Sets.{accepted_from, accepted, padded, probe, as_flag}
use Rattle.fence.specs.declared.FenceIter.{FenceIter}
use Rattle.fence.specs.Fence as fence
use Rattle.fence.specs.Laws.{turn_adv as fence-adv}
use Rattle.block_marker.specs.Marker.{BlockMarkerIter}
use Rattle.block_marker.specs.Marker as marker
use Rattle.block_marker.specs.MarkerRun.{lawful as marker-lawful}
use Rattle.block_numbered.specs.Numbered.{BlockNumberedIter}
use Rattle.block_numbered.specs.Numbered as numbered
use Rattle.block_numbered.specs.NumberedRun.{lawful as numbered-lawful}
use Rattle.cells.specs.Bytes.{four, cells, fourfold, within, readable}
use Rattle.cells.specs.ByteLaws.{length-four}
use Rattle.cells.specs.BackLaws.{Narrow, cells-four, reply_served}
use Rattle.cells.specs.CellLaws.{within-at}
use Rattle.panel.specs.State.{Made, StateRuns, Stepper, step_answer, Stepped, fence_limits, fence_cells, fence_from, item_limits, item_cells, item_fields, item_show, item_read, marker_cells, marker_from, numbered_cells, numbered_from}
use Rattle.panel.specs.Back.{Small, Held, Holds}

-- ---- cells within limits
pub within_size : (limits l : List ℕ) → within limits l ≡ true → length l ≡ length limits
unfolding within
within_size [] [] e = refl
within_size [] (x ∷ l) e = let z : ◌≡◌ {A = ℕ} 0 1 = cc in absurd (omega arith)
within_size (m ∷ limits) [] e = let z : ◌≡◌ {A = ℕ} 0 1 = cc in absurd (omega arith)
within_size (m ∷ limits) (x ∷ l) e = ap suc (within_size limits l (and_true (leb x m) (within limits l) e).1)

-- a cell set to a number within its limit
pub within-set : (limits l : List ℕ) (k x : ℕ) → within limits l ≡ true → x ≤ get_or limits k 0 → within limits (set l k x) ≡ true
unfolding within
within-set [] [] k x e h = refl
within-set [] (y ∷ l) k x e h = let z : ◌≡◌ {A = ℕ} 0 1 = cc in absurd (omega arith)
within-set (m ∷ limits) [] k x e h = let z : ◌≡◌ {A = ℕ} 0 1 = cc in absurd (omega arith)
within-set (m ∷ limits) (y ∷ l) zero x e h = rw (le-leb x m h) (and_true (leb y m) (within limits l) e).1
within-set (m ∷ limits) (y ∷ l) (suc k) x e h = rw (and_true (leb y m) (within limits l) e).0 (within-set limits l k x (and_true (leb y m) (within limits l) e).1 h)

most_small : (n m k : ℕ) → get_or (replicate n m) k 0 ≤ m
most_small zero m k = omega arith
most_small (suc n) m zero = omega arith
most_small (suc n) m (suc k) = most_small n m k

pub within_narrow : (limits l : List ℕ) → Small limits → within limits l ≡ true → Narrow l
within_narrow limits l w e i j = omega (arith, within-at limits l i e, within-at (replicate (length limits) 4294967295) limits i w, most_small (length limits) 4294967295 i)

-- numbers within limits are read back from their bytes, and are readable there
module _ (limits l : List ℕ) (small : Small limits) (e : within limits l ≡ true) where
  pub cells-back : cells (flatten four l) ≡ l
  cells-back = cells-four l (within_narrow limits l small e)

  pub readable-back : readable limits (flatten four l) ≡ true
  unfolding readable
  readable-back =
      let n : length (flatten four l) ≡ length limits * 4 = length-four l ∙ ap (λ (k : ℕ). k * 4) (within_size limits l e) in
      rw (eq-eqb (length (flatten four l)) (length limits * 4) n, cells-back) e

-- the numbers of a readable run are within its limits
pub readable-within : (limits run : List ℕ) → readable limits run ≡ true → within limits (cells run) ≡ true
unfolding readable
readable-within limits run e = (and_true (eqb (length run) (length limits * 4)) (within limits (cells run)) e).1

-- the first n numbers behind a, taken one by one
pub tabulate-drop : {B : Type 0} (l : List B) (d : B) (n a : ℕ) → a + n ≡ length l → tabulate (λ i. get_or l i d) n a ≡ drop a l
unfolding tabulate
tabulate-drop l d zero a h = sym (drop_of_length-le l {i = a} (omega arith))
tabulate-drop l d (suc n) a h = ap (λ (r : List _). get_or l a d ∷ r) (tabulate-drop l d n (suc a) (omega arith)) ∙ sym (drop-cons l a d (omega arith))

-- ---- any scanner's state
module _ {G : Type 0} (from : List ℕ → G) (show : G → List ℕ) (limits : List ℕ) where
  module _ (small : Small limits) (g : G) (w : Held from show limits g) where
    pub held_back : Holds from show limits (flatten four (show g)) g
    held_back = record { bytes = refl; readable = readable-back limits (show g) small w.fits; reads = ap from (cells-back limits (show g) small w.fits) ∙ w.same }

    -- what `new` wrote
    pub made_back : (run run' : List ℕ) → Made (show g) run run' 0 → Holds from show limits run' g
    made_back run run' d = subst (λ (x : List ℕ). Holds from show limits x g) (sym (d.left ∙ by (decide (fourfold run (show g))))) held_back
      where
        by : (fourfold run (show g) ≡ true) ⊎ (fourfold run (show g) ≡ false) → cond (fourfold run (show g)) (flatten four (show g)) run ≡ flatten four (show g)
        by (inl u) = rw u
        by (inr u) =
            let z : ◌≡◌ {A = ℕ} 0 2 = d.number ∙ rw u in
            absurd (omega arith)

-- what a step wrote
pub stepped-back : {G : Type 0} (c : Stepper G) → Small c.limits → (s : List ℕ) (before after : StateRuns) → Held c.read c.show c.limits (c.next (c.read (cells before.state)) s) → Stepped c s before after 0
    → Holds c.read c.show c.limits after.state (c.next (c.read (cells before.state)) s)
stepped-back c small s before after w d =
    let v = reply_served (step_answer c s before) before.answer (sym d.reply.number) in
    let g = c.next (c.read (cells before.state)) s in
    subst (λ (x : List ℕ). Holds c.read c.show c.limits x g) (sym (d.left ∙ rw v.0)) (held_back c.read c.show c.limits small g w)

-- a scan's place is within the text
pub place_inside : {A : Type 0} {Lies : ℕ → ℕ → A → Type 0} {step : ℕ → Turn A} {len : ℕ} → Adv Lies step len → (q : ℕ) → q ≤ len → place_of (first_turn step len q) ≤ len
place_inside {step = step} {len = len} adv q h =
    scan_ends step (λ q. q ≤ len) (λ t. place_of t ≤ len) (λ q i. by_turn adv (Leads (λ q. q ≤ len) (λ t. place_of t ≤ len)) q i (λ n m j. j) (λ v m j. j) (λ a n m j w. j)) (λ q i. i) (suc len) q h

-- a step leaves the given state, or that state at a place within the text
state_held : {G A : Type 0} (P : G → Type 0) (at : G → ℕ → G) (g : G) (s : List ℕ) (p : ℕ) (t : Turn A) → P g → ((q : ℕ) → q ≤ 4294967295 → P (at g q)) → (p ≤ length s → place_of t ≤ length s) → P (state_by at g s p t)
state_held P at g s p t h on inside = by (decide (too_long s)) (decide (past s p))
  where
    by : (too_long s ≡ true) ⊎ (too_long s ≡ false) → (past s p ≡ true) ⊎ (past s p ≡ false) → P (state_by at g s p t)
    by (inl u) v = rw u h
    by (inr u) (inl v) = rw (u, v) h
    by (inr u) (inr v) = rw (u, v) (on (place_of t) (omega (arith, inside (ltb-false (length s) p v), ltb-false 4294967295 (length s) u)))

-- ---- the fence scanner
abbrev pub FenceHeld : FenceIter → Type 0
FenceHeld = Held fence_from fence_cells fence_limits

pub fence_small : Small fence_limits
unfolding within
fence_small = refl

fence_held : (g : FenceIter) → within fence_limits (fence_cells g) ≡ true → FenceHeld g
unfolding fence_from
fence_held g e = record { fits = e; same = refl }

-- a fresh state, a state that a run says, and the state after a step
pub fence_fresh : (byte min eol sep tab : ℕ) → byte ≤ 255 → min ≤ 255 → eol ≤ 255 → sep ≤ 255 → tab ≤ 255 → FenceHeld (fence.fresh byte min eol sep tab)
unfolding within
fence_fresh byte min eol sep tab a b c d e = fence_held (fence.fresh byte min eol sep tab) (rw (le-leb byte 255 a, le-leb min 255 b, le-leb eol 255 c, le-leb sep 255 d, le-leb tab 255 e) refl)

pub fence_read : (run : List ℕ) → readable fence_limits run ≡ true → FenceHeld (fence_from (cells run))
unfolding fence_from tabulate
fence_read run r =
    let e = readable-within fence_limits run r in
    let z : fence_cells (fence_from (cells run)) ≡ cells run = tabulate-drop (cells run) 0 6 0 (sym (within_size fence_limits (cells run) e)) in
    fence_held (fence_from (cells run)) (rw z e)

pub fence_next : (g : FenceIter) (s : List ℕ) → FenceHeld g → FenceHeld (fence.state g s)
unfolding fence.state fence.first_open
fence_next g s w =
    state_held FenceHeld fence.at g s g.pos (fence.first_open g s) w (λ q h. fence_held (fence.at g q) (within-set fence_limits (fence_cells g) 5 q w.fits h)) (λ h. place_inside (fence-adv g s) g.pos h)

-- ---- the scanners of items
flag_back : (b : Bool) → eqb (as_flag b) 1 ≡ b
flag_back true = refl
flag_back false = refl

flag_cell : (x : ℕ) → x ≤ 1 → as_flag (eqb x 1) ≡ x
flag_cell zero h = refl
flag_cell (suc zero) h = refl
flag_cell (suc (suc x)) h = absurd (omega arith)

fields_back : (f : Fields) → length f.needles ≡ 3 → item_fields (item_cells f) ≡ f
unfolding tabulate
fields_back f h =
    let n : get_or f.needles 0 0 ∷ get_or f.needles 1 0 ∷ get_or f.needles 2 0 ∷ [] ≡ f.needles = tabulate-drop f.needles 0 3 0 (sym h) in
    rw (n, flag_back f.streaming)

cells-fields : (l : List ℕ) → within item_limits l ≡ true → item_cells (item_fields l) ≡ l
unfolding tabulate
cells-fields l e =
    let f = flag_cell (get_or l 8 0) (within-at item_limits l 8 e) in
    rw f (tabulate-drop l 0 9 0 (sym (within_size item_limits l e)))

padded-at : (n k : ℕ) (l : List ℕ) → k < n → get_or (padded n l) k 0 ≡ get_or l k 0
padded-at zero k l h = absurd (omega arith)
padded-at (suc n) zero [] h = refl
padded-at (suc n) (suc k) [] h = padded-at n k [] (omega arith)
padded-at (suc n) zero (x ∷ l) h = refl
padded-at (suc n) (suc k) (x ∷ l) h = padded-at n k l (omega arith)

padded_size : (n : ℕ) (l : List ℕ) → length (padded n l) ≡ n
padded_size zero l = refl
padded_size (suc n) [] = ap suc (padded_size n [])
padded_size (suc n) (x ∷ l) = ap suc (padded_size n l)

-- a set accepts bytes
accepted_byte : (set : List Bool) (n b k : ℕ) → b + n ≤ 256 → get_or (accepted_from set n b) k 0 ≤ 255
unfolding accepted_from
accepted_byte set zero b k h = omega arith
accepted_byte set (suc n) b k h = by k (get_or set b false) (accepted_byte set n (suc b))
  where
    by : (k : ℕ) (y : Bool) → ((j : ℕ) → suc b + n ≤ 256 → get_or (accepted_from set n (suc b)) j 0 ≤ 255) → get_or (elim y [ true ↦ b ∷ accepted_from set n (suc b) | false ↦ accepted_from set n (suc b) ]) k 0 ≤ 255
    by zero true ih = omega arith
    by (suc k) true ih = ih k (omega arith)
    by k false ih = ih k (omega arith)

pub item_small : Small item_limits
unfolding within
item_small = refl

module _ {S A : Type 0} {c : Scanner S A} {Lies : ℕ → ℕ → A → Type 0} (w : Lawful c Lies) where
  abbrev pub ItemHeld : S → Type 0
  ItemHeld = Held (item_read c) (item_show c) item_limits

  fields_held : (f : Fields) → length f.needles ≡ 3 → within item_limits (item_cells f) ≡ true → ItemHeld (c.made f)
  unfolding item_read
  fields_held f h e = record { fits = ap (λ (x : Fields). within item_limits (item_cells x)) (w.of_made f) ∙ e; same = ap (λ (x : Fields). c.made (item_fields (item_cells x))) (w.of_made f) ∙ ap c.made (fields_back f h) }

  pub item-fresh : (eol sep tab : ℕ) (set : List Bool) → eol ≤ 255 → sep ≤ 255 → tab ≤ 255 → ItemHeld (fresh c eol sep tab set)
  unfolding within
  item-fresh eol sep tab set a b d = fields_held (probed eol sep tab (probe set)) (padded_size 3 (accepted set)) (rw (le-leb eol 255 a, le-leb sep 255 b, le-leb tab 255 d, needle 0 tt, needle 1 tt, needle 2 tt, few, flag) refl)
    where
      needle : (k : ℕ) → T (ltb k 3) → leb (get_or (padded 3 (accepted set)) k 0) 255 ≡ true
      needle k h = le-leb (get_or (padded 3 (accepted set)) k 0) 255 (omega (arith, padded-at 3 k (accepted set) (ltb→lt k 3 h), accepted_byte set 256 0 k (omega arith)))

      few : leb (cond (leb (length (accepted set)) 3) (length (accepted set)) 0) 4294967295 ≡ true
      few = by (decide (leb (length (accepted set)) 3))
        where
          by : (leb (length (accepted set)) 3 ≡ true) ⊎ (leb (length (accepted set)) 3 ≡ false) → leb (cond (leb (length (accepted set)) 3) (length (accepted set)) 0) 4294967295 ≡ true
          by (inl u) = rw u (le-leb (length (accepted set)) 4294967295 (omega (arith, leb-true (length (accepted set)) 3 u)))
          by (inr u) = rw u refl

      flag : leb (as_flag (leb (length (accepted set)) 3)) 1 ≡ true
      flag = by (leb (length (accepted set)) 3)
        where
          by : (y : Bool) → leb (as_flag y) 1 ≡ true
          by true = refl
          by false = refl

  pub item-read : (run : List ℕ) → readable item_limits run ≡ true → ItemHeld (item_read c (cells run))
  unfolding item_read
  item-read run r = let e = readable-within item_limits run r in fields_held (item_fields (cells run)) refl (rw (cells-fields (cells run) e) e)

  three : (g : S) → ItemHeld g → length (c.fields g).needles ≡ 3
  unfolding item_read
  three g h = ap (λ (x : S). length (c.fields x).needles) (sym h.same) ∙ ap (λ (x : Fields). length x.needles) (w.of_made (item_fields (item_show c g)))

  pub item-next : (g : S) (set : List Bool) (s : List ℕ) → ItemHeld g → ItemHeld (state c g set s)
  unfolding state first
  item-next g set s h =
      state_held ItemHeld (at c) g s (c.fields g).pos (first c g set s) h (λ q i. fields_held (moved (c.fields g) q) (three g h) (within-set item_limits (item_cells (c.fields g)) 3 q h.fits i))
      (λ i. place_inside (turn_adv w g set s) (c.fields g).pos i)

-- of each of them, as the panel reads and shows it
pub marker-fresh : (eol sep tab : ℕ) (set : List Bool) → eol ≤ 255 → sep ≤ 255 → tab ≤ 255 → Held marker_from marker_cells item_limits (marker.fresh eol sep tab set)
marker-fresh = item-fresh marker-lawful

pub marker-read : (run : List ℕ) → readable item_limits run ≡ true → Held marker_from marker_cells item_limits (marker_from (cells run))
marker-read = item-read marker-lawful

pub marker-next : (g : BlockMarkerIter) (set : List Bool) (s : List ℕ) → Held marker_from marker_cells item_limits g → Held marker_from marker_cells item_limits (marker.state g set s)
marker-next g set s h = item-next marker-lawful g set s h

pub numbered-fresh : (eol sep tab : ℕ) (set : List Bool) → eol ≤ 255 → sep ≤ 255 → tab ≤ 255 → Held numbered_from numbered_cells item_limits (numbered.fresh eol sep tab set)
numbered-fresh = item-fresh numbered-lawful

pub numbered-read : (run : List ℕ) → readable item_limits run ≡ true → Held numbered_from numbered_cells item_limits (numbered_from (cells run))
numbered-read = item-read numbered-lawful

pub numbered_next : (g : BlockNumberedIter) (set : List Bool) (s : List ℕ) → Held numbered_from numbered_cells item_limits g → Held numbered_from numbered_cells item_limits (numbered.state g set s)
numbered_next g set s h = item-next numbered-lawful g set s h

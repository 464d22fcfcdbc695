-- Laws of the state of the scanner of frames read back from its bytes: what an entry wrote, the next entry reads. Assumes nothing.
-- The page: "each number of a list is four bytes, low byte first.", "each step takes a state and gives the answer with the next state".
use Rattle.std.specs.Prelude.{◌≡◌, cond, ◌⊎◌, ltb, replicate}
use Rattle.std.proofs.Math.Path.{refl, ap}
use Rattle.std.proofs.Common.{sym, ◌∙◌, inl, inr}
use Rattle.std.proofs.Math.Bool.{true, false}
use mathlib.Core.List.{List, [], ◌∷◌, ◌++◌}
use Prim.Native.Nat.{ℕ, zero, suc, ◌+◌, ◌-◌, ◌*◌, ◌≤◌, ◌<◌}
use native.Mathlib.Omega.{arith}
use Rattle.std.proofs.Math.ListN.{length, get_or, length-append, length-drop, get_or-append}
use Rattle.std.proofs.lemmas.List.{length-replicate}
use Rattle.std.proofs.Math.Seq.{get_or-append-add, get_or_at}
use borrow.Author.Tests.{le-leb, ltb-true, ltb-false}
use Rattle.search.specs.SearchLaws.{decide, find_le, past_end}
use Rattle.search.specs.Search.{find, is, holds, line_start, line_end}
use Rattle.common.specs.Entry.{flatten}
use Rattle.common.specs.EntryLaws.{length-flatten, length_put}
use Rattle.common.specs.Rules.{tabulate}
use Rattle.common.specs.TableLaws.{length-tabulate}
use Rattle.common.specs.Turn.{Step, yields, ends}
use Rattle.common.specs.Turning.{Each}
use Rattle.common.specs.ItemLaws.{both}
use Rattle.common.specs.Refusals.{given, leaves, too_long, span_values}
use Rattle.common.specs.Items.{unless_refused}
use Rattle.common.specs.declared.span.Span.{Span}
use Rattle.cont.specs.declared.ContIter.{ContIter}
use Rattle.cont.specs.declared.Framing.{Framing}
use Rattle.cont.specs.Frames.{frame, mark_at, after_mark, marks_from, line_marks}
use Rattle.cont.specs.Cont as cont
use Rattle.cont.specs.Cont.{Stand, FrameTurn, go, close, stop, framing_of, standing, kept, new_marks, closed_frames}
use Rattle.cont.specs.MarkLaws.{mark_in, marks_few}
use Rattle.cont.specs.Steps.{Served}
use Rattle.cont.specs.StepLaws.{served}
use Rattle.cont.specs.TurnLaws.{closing-length}
use Rattle.cells.specs.Bytes.{cells, within, readable}
use Rattle.cells.specs.CellLaws.{within-at}
use Rattle.panel.specs.ContState.{cont_limits, single, cont_cells, open_cell, open_cells, pending_cell, pending_from, cont_from}
use Rattle.panel.specs.Back.{Small, Held, Few, FewSpan, Bounded}
use Rattle.common.specs.EachLaws.{each_append, each_get_or, each_put, each_drop, each_same, each_table}
use Rattle.panel.specs.BackLaws.{within_narrow, readable-within, tabulate-drop}

-- ---- the cells of a state
within_most : (l : List ℕ) → Each Few l → within (replicate (length l) 4294967295) l ≡ true
unfolding within
within_most [] v = refl
within_most (x ∷ l) v = rw (le-leb x 4294967295 v.0) (within_most l v.1)

each_single : (l : List ℕ) → flatten single l ≡ l
each_single [] = refl
each_single (x ∷ l) = ap (λ (r : List ℕ). x ∷ r) (each_single l)

each_spans : (l : List Span) → Each FewSpan l → Each Few (flatten span_values l)
each_spans [] v = tt
each_spans (p ∷ l) v = (v.0.0, (v.0.1, each_spans l v.1))

span_start : (l : List Span) (i : ℕ) → get_or (flatten span_values l) (i * 2) 0 ≡ (get_or l i (frame 0 0)).start
span_start [] i = refl
span_start (p ∷ l) zero = refl
span_start (p ∷ l) (suc i) =
    let e : suc i * 2 ≡ suc (suc (i * 2)) = omega arith in
    ap (λ (k : ℕ). get_or (flatten span_values (p ∷ l)) k 0) e ∙ span_start l i

span_end_lem : (l : List Span) (i : ℕ) → get_or (flatten span_values l) (i * 2 + 1) 0 ≡ (get_or l i (frame 0 0)).end
span_end_lem [] i = refl
span_end_lem (p ∷ l) zero = refl
span_end_lem (p ∷ l) (suc i) =
    let e : suc i * 2 + 1 ≡ suc (suc (i * 2 + 1)) = omega arith in
    ap (λ (k : ℕ). get_or (flatten span_values (p ∷ l)) k 0) e ∙ span_end_lem l i

table_same : {B : Type 0} (f h : ℕ → B) (n a : ℕ) → ((i : ℕ) → i < a + n → f i ≡ h i) → tabulate f n a ≡ tabulate h n a
unfolding tabulate
table_same f h zero a e = refl
table_same f h (suc n) a e = ap (λ (x : _). x ∷ tabulate f n (suc a)) (e a (omega arith)) ∙ ap (λ (r : List _). h a ∷ r) (table_same f h n (suc a) (λ i j. e i (omega arith)))

module _ (g : ContIter) (w : Bounded g) where
  six : List ℕ
  six = g.byte ∷ g.eol ∷ g.sep ∷ g.tab ∷ g.cap ∷ g.pos ∷ []

  o : List ℕ
  o = flatten single g.«open»

  p : List ℕ
  p = flatten span_values g.pending

  upto : List ℕ
  upto = (six ++ o) ++ (g.open_len ∷ [])

  size_o : length o ≡ 32
  unfolding o
  size_o = ap length (each_single g.«open») ∙ w.opens_long

  size_p : length p ≡ 64
  unfolding p
  size_p = length-flatten span_values 2 (λ n. refl) g.pending ∙ omega (arith, w.waits_long)

  size_six : length (six ++ o) ≡ 38
  unfolding six
  size_six = length-append six o ∙ omega (arith, size_o)

  size_upto : length upto ≡ 39
  unfolding upto
  size_upto = length-append (six ++ o) (g.open_len ∷ []) ∙ omega (arith, size_six)

  size_all : length (upto ++ p) ≡ 103
  size_all = length-append upto p ∙ omega (arith, size_upto, size_p)

  last : List ℕ
  last = g.pending_len ∷ g.pending_idx ∷ []

  size_last : length last ≡ 2
  unfolding last
  size_last = refl

  abbrev shown_cell : ℕ → ℕ
  shown_cell k = get_or ((upto ++ p) ++ last) k 0

  at_front : (shown_cell 0 ≡ g.byte) × (shown_cell 1 ≡ g.eol) × (shown_cell 2 ≡ g.sep) × (shown_cell 3 ≡ g.tab) × (shown_cell 4 ≡ g.cap) × (shown_cell 5 ≡ g.pos)
  unfolding upto six
  at_front = (refl, refl, refl, refl, refl, refl)

  at_open : (i : ℕ) → i < 32 → get_or ((upto ++ p) ++ last) (i + 6) 0 ≡ get_or g.«open» i 0
  unfolding upto six o
  at_open i h =
      let e : i + 6 ≡ 6 + i = omega arith in
      get_or-append (upto ++ p) last 0 (i + 6) (omega (arith, size_all))
      ∙ get_or-append upto p 0 (i + 6) (omega (arith, size_upto))
      ∙ get_or-append (six ++ o) (g.open_len ∷ []) 0 (i + 6) (omega (arith, size_six))
      ∙ ap (λ (k : ℕ). get_or (six ++ o) k 0) e
      ∙ get_or-append-add six o i 0
      ∙ ap (λ (l : List ℕ). get_or l i 0) (each_single g.«open»)

  at_held : get_or ((upto ++ p) ++ last) 38 0 ≡ g.open_len
  unfolding upto
  at_held = get_or-append (upto ++ p) last 0 38 (omega (arith, size_all)) ∙ get_or-append upto p 0 38 (omega (arith, size_upto)) ∙ get_or_at (six ++ o) g.open_len [] 0 38 size_six

  at_pending : (j : ℕ) → j < 64 → get_or ((upto ++ p) ++ last) (j + 39) 0 ≡ get_or p j 0
  at_pending j h =
      let e : j + 39 ≡ length upto + j = omega (arith, size_upto) in
      get_or-append (upto ++ p) last 0 (j + 39) (omega (arith, size_all)) ∙ ap (λ (k : ℕ). get_or (upto ++ p) k 0) e ∙ get_or-append-add upto p j 0

  at_waiting : get_or ((upto ++ p) ++ last) 103 0 ≡ g.pending_len
  unfolding last
  at_waiting = get_or_at (upto ++ p) g.pending_len (g.pending_idx ∷ []) 0 103 size_all

  at_drawn : get_or ((upto ++ p) ++ last) 104 0 ≡ g.pending_idx
  unfolding last
  at_drawn =
      let e : 104 ≡ length (upto ++ p) + 1 = omega (arith, size_all) in
      ap (λ (k : ℕ). get_or ((upto ++ p) ++ last) k 0) e ∙ get_or-append-add (upto ++ p) last 1 0

  all-cells : cont_cells g ≡ (upto ++ p) ++ last
  unfolding cont_cells upto six o p last
  all-cells = refl

  open_back : open_cells ((upto ++ p) ++ last) ≡ g.«open»
  unfolding open_cells
  open_back =
      table_same (open_cell ((upto ++ p) ++ last)) (λ i. get_or g.«open» i 0) 32 0 (λ i h. at_open i h) ∙ tabulate-drop g.«open» 0 32 0 (sym w.opens_long)

  pending_back : pending_from ((upto ++ p) ++ last) ≡ g.pending
  unfolding pending_from p
  pending_back =
      table_same (pending_cell ((upto ++ p) ++ last)) (λ i. get_or g.pending i (frame 0 0)) 32 0 each
      ∙ tabulate-drop g.pending (frame 0 0) 32 0 (sym w.waits_long)
    where
      each : (i : ℕ) → i < 32 → pending_cell ((upto ++ p) ++ last) i ≡ get_or g.pending i (frame 0 0)
      each i h =
          let a : get_or ((upto ++ p) ++ last) (i * 2 + 39) 0 ≡ (get_or g.pending i (frame 0 0)).start = at_pending (i * 2) (omega arith) ∙ span_start g.pending i in
          let k : i * 2 + 40 ≡ i * 2 + 1 + 39 = omega arith in
          let b : get_or ((upto ++ p) ++ last) (i * 2 + 40) 0 ≡ (get_or g.pending i (frame 0 0)).end = ap (λ (n : ℕ). get_or ((upto ++ p) ++ last) n 0) k ∙ at_pending (i * 2 + 1) (omega arith) ∙ span_end_lem g.pending i in
          rw (a, b)

  cont_fits : within cont_limits (cont_cells g) ≡ true
  unfolding within cont_limits cont_cells
  cont_fits =
      let l : List ℕ = ((((g.cap ∷ g.pos ∷ []) ++ flatten single g.«open») ++ (g.open_len ∷ [])) ++ flatten span_values g.pending) ++ (g.pending_len ∷ g.pending_idx ∷ []) in
      let x : suc (suc (suc (suc (length l)))) ≡ 105 = ap length all-cells ∙ length-append (upto ++ p) last ∙ omega (arith, size_all, size_last) in
      let n : length l ≡ 101 = omega arith in
      let v : Each Few l = each_append Few ((((g.cap ∷ g.pos ∷ []) ++ flatten single g.«open») ++ (g.open_len ∷ [])) ++ flatten span_values g.pending) (g.pending_len ∷ g.pending_idx ∷ [])
      (each_append Few (((g.cap ∷ g.pos ∷ []) ++ flatten single g.«open») ++ (g.open_len ∷ [])) (flatten span_values g.pending)
      (each_append Few ((g.cap ∷ g.pos ∷ []) ++ flatten single g.«open») (g.open_len ∷ []) (each_append Few (g.cap ∷ g.pos ∷ []) (flatten single g.«open») (w.cap, (w.pos, tt)) (rw (each_single g.«open») w.opens)) (w.held, tt))
      (each_spans g.pending w.waits)) (w.waiting, (w.drawn, tt)) in
      rw (le-leb g.byte 255 w.byte, le-leb g.eol 255 w.eol, le-leb g.sep 255 w.sep, le-leb g.tab 255 w.tab)
      (ap (λ (k : ℕ). within (replicate k 4294967295) l) (sym n) ∙ within_most l v)

  -- such a state is read back
  pub cont_held : Held cont_from cont_cells cont_limits g
  unfolding cont_from
  cont_held = record { fits = cont_fits; same = ap cont_from all-cells ∙ rw (at_front.0, at_front.1, at_front.2, at_front.3, at_front.4, at_front.5, open_back, pending_back, at_held, at_waiting, at_drawn) refl }

within-few : (limits l : List ℕ) → Small limits → within limits l ≡ true → (k : ℕ) → Few (get_or l k 0)
within-few limits l small e k = by (decide (ltb k (length l)))
  where
    by : (ltb k (length l) ≡ true) ⊎ (ltb k (length l) ≡ false) → Few (get_or l k 0)
    by (inl u) = omega (arith, within_narrow limits l small e k (ltb-true k (length l) u))
    by (inr u) = omega (arith, past_end l k (ltb-false k (length l) u))

-- ---- a fresh state, and one that a run says
pub cont_fresh : (byte eol sep tab nest : ℕ) → byte ≤ 255 → eol ≤ 255 → sep ≤ 255 → tab ≤ 255 → Bounded (cont.fresh byte eol sep tab nest)
cont_fresh byte eol sep tab nest a b c d =
    record {
      byte = a;
      eol = b;
      sep = c;
      tab = d;
      cap = omega arith;
      pos = omega arith;
      opens = each_same Few 32 0 (omega arith);
      opens_long = length-replicate {A = ℕ} 32 0;
      held = omega arith;
      waits = each_same FewSpan 32 (frame 0 0) (omega arith, omega arith);
      waits_long = length-replicate 32 (frame 0 0);
      waiting = omega arith;
      drawn = omega arith;
    }

pub cont_small : Small cont_limits
unfolding within cont_limits
cont_small = refl

pub cont_read : (run : List ℕ) → readable cont_limits run ≡ true → Bounded (cont_from (cells run))
unfolding cont_from cont_limits open_cells pending_from
cont_read run r =
    let e = readable-within cont_limits run r in
    let few : (k : ℕ) → Few (get_or (cells run) k 0) = λ k. within-few cont_limits (cells run) cont_small e k in
    record {
      byte = within-at cont_limits (cells run) 0 e;
      eol = within-at cont_limits (cells run) 1 e;
      sep = within-at cont_limits (cells run) 2 e;
      tab = within-at cont_limits (cells run) 3 e;
      cap = few 4;
      pos = few 5;
      opens = each_table Few (open_cell (cells run)) (λ i. few (i + 6)) 32 0;
      opens_long = length-tabulate (open_cell (cells run)) 32 0;
      held = few 38;
      waits = each_table FewSpan (pending_cell (cells run)) (λ i. (few (i * 2 + 39), few (i * 2 + 40))) 32 0;
      waits_long = length-tabulate (pending_cell (cells run)) 32 0;
      waiting = few 103;
      drawn = few 104;
    }

-- ---- a step
-- where a scan may stand: within the text, with at most 32 frames open, at places of 32 bits
record Stood (s : List ℕ) (t : Stand) : Type 0 where
  inside : t.pos ≤ length s
  opens : Each Few t.cells
  long : length t.cells ≡ 32
  few : t.count ≤ 32

-- a turn that leads there, with frames of 32 bits closed, 32 at the most
abbrev Goes : List ℕ → FrameTurn → Type 0
Goes s (go t) = Stood s t
Goes s (close l t) = Stood s t × Each FewSpan l × (length l ≤ 32)
Goes s (stop t) = Stood s t

closing-few : (o : List ℕ) (e from k : ℕ) → Each Few o → Few e → Each FewSpan (closed_frames o e from k)
closing-few o e from zero v h = tt
closing-few o e from (suc k) v h = ((each_get_or Few o 0 v (omega arith) (from + k), h), closing-few o e from k v h)

module _ (m : Framing) (s : List ℕ) (short : length s ≤ 4294967295) (nests : m.cap ≤ 32) where
  marks_few_bits : (e n p : ℕ) → e ≤ length s → Each Few (marks_from m s e n p)
  unfolding marks_from
  marks_few_bits e zero p h = tt
  marks_few_bits e (suc n) p h = by (decide (mark_at m s e p)) (marks_few_bits e n (after_mark m s e p) h)
    where
      by : (mark_at m s e p ≡ true) ⊎ (mark_at m s e p ≡ false) → Each Few (marks_from m s e n (after_mark m s e p)) → Each Few (elim (mark_at m s e p) [ true ↦ p ∷ marks_from m s e n (after_mark m s e p) | false ↦ [] ])
      by (inl u) v = rw u (omega (arith, mark_in m s e p u), v)
      by (inr u) v = rw u tt

  line_goes : (p : ℕ) (o : List ℕ) (n : ℕ) → p ≤ length s → Each Few o → length o ≡ 32 → n ≤ 32 → Goes s (cont.turn_on_line m s p o n)
  unfolding cont.turn_on_line line_marks
  line_goes p o n h v l k = by (decide (ltb (kept m s p n) n))
    where
      by : (ltb (kept m s p n) n ≡ true) ⊎ (ltb (kept m s p n) n ≡ false) → Goes s (cond (ltb (kept m s p n) n) (cont.close_from m s p o n (kept m s p n)) (cont.open_with m s p o n (new_marks m s p n)))
      by (inl u) =
          rw u
          (record { inside = omega arith; opens = v; long = l; few = omega (arith, ltb-true (kept m s p n) n u) }, closing-few o p (kept m s p n) (n - kept m s p n) v (omega arith), omega (arith, closing-length o p (kept m s p n) (n - kept m s p n)))
      by (inr u) =
          let e = find_le (is m.eol) s p h in
          let q = marks_few m s (line_end m.eol s p) m.cap p in
          rw u
          (record {
            inside = omega arith;
            opens = each_put Few n (new_marks m s p n) o (each_drop Few n (line_marks m s p) (marks_few_bits (line_end m.eol s p) m.cap p e)) v;
            long = length_put n (new_marks m s p n) o ∙ l;
            few = omega (arith, length-drop n (line_marks m s p));
          })

  turn_goes : (t : Stand) → Stood s t → Goes s (cont.next_turn m s t)
  unfolding cont.next_turn
  turn_goes t w =
      let q = t.pos in
      let p = find (is m.byte) s q in
      let n = t.count in
      let o = t.cells in
      let e = find_le (is m.byte) s q w.inside in
      both (Goes s) (ltb 0 n) _ _
      (λ a.
      both (Goes s) (ltb q (length s)) _ _
      (λ b.
      both (Goes s) (holds (is m.byte) s q) _ _ (λ d. line_goes q o n w.inside w.opens w.long w.few)
      (λ d. (record { inside = e; opens = w.opens; long = w.long; few = omega arith }, closing-few o q 0 n w.opens (omega (arith, w.inside)), omega (arith, closing-length o q 0 n, w.few))))
      (λ b. (record { inside = w.inside; opens = w.opens; long = w.long; few = omega arith }, closing-few o (length s) 0 n w.opens (omega arith), omega (arith, closing-length o (length s) 0 n, w.few))))
      (λ a.
      both (Goes s) (ltb p (length s)) _ _
      (λ b.
      both (Goes s) (line_start m.eol s p) _ _ (λ d. line_goes p o n e w.opens w.long w.few)
      (λ d. record { inside = omega (arith, ltb-true p (length s) b); opens = w.opens; long = w.long; few = w.few }))
      (λ b. record { inside = w.inside; opens = w.opens; long = w.long; few = w.few }))

  -- what a scan closes, and where it then stands
  scan_goes : (f : ℕ) (t : Stand) → Stood s t → Goes s (close (cont.shut_within m s f t).closed (cont.shut_within m s f t).left)
  unfolding cont.shut_within
  scan_goes zero t w = (w, tt, omega arith)
  scan_goes (suc f) t w = by (scan_goes f) (cont.next_turn m s t) (turn_goes t w)
    where
      by : ((u : Stand) → Stood s u → Goes s (close (cont.shut_within m s f u).closed (cont.shut_within m s f u).left)) → (c : FrameTurn) → Goes s c → Goes s (close (cont.then_shut (cont.shut_within m s f) c).closed (cont.then_shut (cont.shut_within m s f) c).left)
      by ih (go u) a = ih u a
      by ih (close l u) a = a
      by ih (stop u) a = (a, tt, omega arith)

-- a pending frame taken
taken_bounded : (g : ContIter) → Bounded g → g.pending_idx < g.pending_len → Bounded (cont.frame_taken g)
taken_bounded g v l =
    record {
      byte = v.byte;
      eol = v.eol;
      sep = v.sep;
      tab = v.tab;
      cap = v.cap;
      pos = v.pos;
      opens = v.opens;
      opens_long = v.opens_long;
      held = v.held;
      waits = v.waits;
      waits_long = v.waits_long;
      waiting = v.waiting;
      drawn = omega (arith, v.waiting);
    }

taken-served : (g : ContIter) (s : List ℕ) → Served g s → g.pending_idx < g.pending_len → Served (cont.frame_taken g) s
taken-served g s v l = record { short = v.short; inside = v.inside; nests = v.nests; opens = v.opens; waits = v.waits; drawn = omega arith }

-- a bounded state that is served
abbrev pub Good : List ℕ → ContIter → Type 0
Good s g = Bounded g × Served g s

-- what a step says: a frame of 32 bits, or none
abbrev pub SaysPending : Step Span ContIter → Type 0
SaysPending (yields f g) = FewSpan f
SaysPending (ends g) = Unit {0}

drained_good : (s : List ℕ) (g : ContIter) (e : Step Span ContIter) → Good s g → Good s (cont.state_of e) → SaysPending e → Good s (cont.state_of (cont.drained_or g e)) × SaysPending (cont.drained_or g e)
drained_good s g e v u x =
    both (λ y. Good s (cont.state_of y) × SaysPending y) (ltb g.pending_idx g.pending_len) _ _
    (λ d. let l = ltb-true g.pending_idx g.pending_len d in ((taken_bounded g v.0 l, taken-served g s v.1 l), each_get_or FewSpan g.pending (frame 0 0) v.0.waits (omega arith, omega arith) g.pending_idx))
    (λ d. (u, x))

-- a step of a served state leaves such a state, and says such a frame
module _ (g : ContIter) (s : List ℕ) (w : Bounded g) (z : Served g s) where
  pub cont_steps : Good s (cont.state_of (cont.stepped g s)) × SaysPending (cont.stepped g s)
  unfolding cont.stepped
  cont_steps =
      let r = cont.first_shut (framing_of g) s (standing g) in
      let a = scan_goes (framing_of g) s z.short z.nests (suc (length s)) (standing g) (record { inside = z.inside; opens = w.opens; long = w.opens_long; few = z.opens }) in
      let f : Bounded (cont.refilled g r) =
      record {
        byte = w.byte;
        eol = w.eol;
        sep = w.sep;
        tab = w.tab;
        cap = w.cap;
        pos = omega (arith, a.0.inside, z.short);
        opens = a.0.opens;
        opens_long = a.0.long;
        held = omega (arith, a.0.few);
        waits = each_put FewSpan 0 r.closed g.pending a.1 w.waits;
        waits_long = length_put 0 r.closed g.pending ∙ w.waits_long;
        waiting = omega (arith, a.2);
        drawn = omega arith;
      } in
      let h : Served (cont.refilled g r) s = record { short = z.short; inside = a.0.inside; nests = z.nests; opens = a.0.few; waits = a.2; drawn = omega arith } in
      let v = drained_good s (cont.refilled g r) (ends (cont.refilled g r)) (f, h) (f, h) tt in
      drained_good s g (cont.drained_or_end (cont.refilled g r)) (w, z) v.0 v.1

-- the state after a step
pub cont_next : (g : ContIter) (s : List ℕ) → Bounded g → Bounded (cont.state g s)
unfolding cont.state
cont_next g s w = by (decide (too_long s)) (decide (cont.misplaced g s))
  where
    by : (too_long s ≡ true) ⊎ (too_long s ≡ false) → (cont.misplaced g s ≡ true) ⊎ (cont.misplaced g s ≡ false) → Bounded (leaves (unless_refused s (cont.misplaced g s) (given [])) g (cont.state_of (cont.stepped g s)))
    by (inl u) v = rw u w
    by (inr u) (inl v) = rw (u, v) w
    by (inr u) (inr v) = rw (u, v) (cont_steps g s w (served g s {y = false} refl (record { answer = sym v }) (ltb-false 4294967295 (length s) u))).0.0

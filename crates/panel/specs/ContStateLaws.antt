-- Laws of the state of the scanner of frames as a byte run: the loops that lay and read its arrays. Assumes nothing.
use Rattle.std.specs.Prelude.{◌≡◌, refl, Bool, true, List, [], ◌∷◌, ◌++◌, ℕ, ◌+◌, ◌*◌, ◌≤◌, ◌<◌, length, get_or, set, replicate}
use Rattle.std.proofs.Common.{sym, ap, ◌∙◌, arith, length-append}
use Rattle.search.specs.Promise.{Gives}
use Rattle.common.specs.Refusals.{span_values}
use Rattle.common.specs.Entry.{flatten, put_at}
use Rattle.common.specs.EntryLaws.{length-flatten}
use Rattle.common.specs.declared.span.Span.{Span}
use Rattle.cont.specs.declared.ContIter.{ContIter}
use Rattle.cont.specs.Frames.{frame}
use Rattle.cells.specs.Bytes.{cells, readable}
use Rattle.panel.specs.ContState.{cont_limits, single, Spread, cont_cells, open_cell, open_cells, pending_cell, pending_from, cont_from}
use Rattle.cells.specs.ByteLaws.{put_all, Lays, lays_first, lays_next, lays_all, Fills, fills_again, fills_all}
use Rattle.cells.specs.ReplyLaws.{laid_behind}
use Rattle.cells.specs.CellLaws.{readable_long, byte_field}

-- ---- laying
module _ {o out₀ : List ℕ} where
  pub open_first : length o ≡ 32 → length out₀ ≡ 105 → Lays single 1 o 6 0 out₀ out₀
  open_first h k = lays_first (omega arith)

  pub open_again : {i : ℕ} {out : List ℕ} → Lays single 1 o 6 i out₀ out → i < length o → Lays single 1 o 6 (i + 1) out₀ (set out (i + 6) (get_or o i 0))
  open_again {i} {out} l h =
      let e : i + 6 ≡ 6 + i * 1 = omega arith in
      lays_next single 1 (λ n. refl) 0 l (set out (i + 6) (get_or o i 0)) h (record { list = ap (λ (k : ℕ). set out k (get_or o i 0)) e })

  pub open_all : {i : ℕ} {out : List ℕ} → Lays single 1 o 6 i out₀ out → length o ≡ 32 → 32 ≤ i → Spread single 6 o out₀ out
  open_all l h k = record { long = h; laid = lays_all l (omega arith) }

module _ {p : List Span} {out₀ : List ℕ} where
  pub pending_first : length p ≡ 32 → length out₀ ≡ 105 → Lays span_values 2 p 39 0 out₀ out₀
  pending_first h k = lays_first (omega arith)

  pub pending_again : {i : ℕ} {out : List ℕ} → Lays span_values 2 p 39 i out₀ out → i < length p
      → Lays span_values 2 p 39 (i + 1) out₀ (set (set out (i * 2 + 39) (get_or p i (frame 0 0)).start) (i * 2 + 40) (get_or p i (frame 0 0)).end)
  pending_again {i} {out} l h =
      let s = get_or p i (frame 0 0) in
      let a : i * 2 + 39 ≡ 39 + i * 2 = omega arith in
      let b : i * 2 + 40 ≡ 39 + i * 2 + 1 = omega arith in
      lays_next span_values 2 (λ n. refl) (frame 0 0) l (set (set out (i * 2 + 39) s.start) (i * 2 + 40) s.end) h
      (record { list = ap (λ (k : ℕ). set (set out k s.start) (i * 2 + 40) s.end) a ∙ ap (λ (k : ℕ). set (set out (39 + i * 2) s.start) k s.end) b })

  pub pending_all : {i : ℕ} {out : List ℕ} → Lays span_values 2 p 39 i out₀ out → length p ≡ 32 → 32 ≤ i → Spread span_values 39 p out₀ out
  pending_all l h k = record { long = h; laid = lays_all l (omega arith) }

-- all of a state's cells
pub cells_laid : (g : ContIter) (x y : List ℕ) → Spread single 6 g.«open» (set (set (set (set (set (set (replicate 105 0) 0 g.byte) 1 g.eol) 2 g.sep) 3 g.tab) 4 g.cap) 5 g.pos) x
    → Spread span_values 39 g.pending (set x 38 g.open_len) y → Gives (cont_cells g) (set (set y 103 g.pending_len) 104 g.pending_idx)
unfolding cont_cells
cells_laid g x y a b =
    let z : List ℕ = replicate 105 0 in
    let six = g.byte ∷ g.eol ∷ g.sep ∷ g.tab ∷ g.cap ∷ g.pos ∷ [] in
    let o = flatten single g.«open» in
    let p = flatten span_values g.pending in
    let lo : length o ≡ 32 = length-flatten single 1 (λ n. refl) g.«open» ∙ omega (arith, a.long) in
    let lp : length p ≡ 64 = length-flatten span_values 2 (λ n. refl) g.pending ∙ omega (arith, b.long) in
    let n1 : length (six ++ o) ≡ 38 = length-append six o ∙ omega arith in
    let n2 : length ((six ++ o) ++ (g.open_len ∷ [])) ≡ 39 = length-append (six ++ o) (g.open_len ∷ []) ∙ omega arith in
    let n3 : length (((six ++ o) ++ (g.open_len ∷ [])) ++ p) ≡ 103 = length-append ((six ++ o) ++ (g.open_len ∷ [])) p ∙ omega arith in
    let l1 = laid_behind 0 6 six o z (put_at 0 six z) x (record { list = refl }) a.laid refl in
    let l2 = laid_behind 0 38 (six ++ o) (g.open_len ∷ []) z x (set x 38 g.open_len) l1 (record { list = refl }) (omega arith) in
    let l3 = laid_behind 0 39 ((six ++ o) ++ (g.open_len ∷ [])) p z (set x 38 g.open_len) y l2 b.laid (omega arith) in
    let l4 = laid_behind 0 103 (((six ++ o) ++ (g.open_len ∷ [])) ++ p) (g.pending_len ∷ g.pending_idx ∷ []) z y (set (set y 103 g.pending_len) 104 g.pending_idx) l3 (record { list = refl }) (omega arith) in
    record { answer = l4.list ∙ put_all ((((six ++ o) ++ (g.open_len ∷ [])) ++ p) ++ (g.pending_len ∷ g.pending_idx ∷ [])) z (length-append (((six ++ o) ++ (g.open_len ∷ [])) ++ p) (g.pending_len ∷ g.pending_idx ∷ []) ∙ omega arith) }

pub cont_room : (state next : List ℕ) (b : Bool) → length next ≡ 105 → b ≡ true → Gives (readable cont_limits state) b → length next * 4 ≡ length state
unfolding cont_limits
cont_room state next b h e g = omega (arith, readable_long cont_limits state (sym g.answer ∙ e))

-- ---- reading
module _ (run : List ℕ) (i : ℕ) where
  pub read_open_again : (v : ℕ) (out₀ out : List ℕ) → i < 32 → Gives (get_or (cells run) (i + 6) 0) v → Fills (open_cell (cells run)) 32 out₀ out i → Fills (open_cell (cells run)) 32 out₀ (set out i v) (i + 1)
  read_open_again v out₀ out h g l = fills_again (open_cell (cells run)) 32 i v out₀ out h g.answer l

  pub read_open_all : (out₀ out : List ℕ) → 32 ≤ i → Fills (open_cell (cells run)) 32 out₀ out i → out ≡ open_cells (cells run)
  unfolding open_cells
  read_open_all out₀ out h l = fills_all (open_cell (cells run)) 32 i out₀ out h l

  pub read_pending_again : (a b : ℕ) (out₀ out : List Span) → i < 32 → Gives (get_or (cells run) (i * 2 + 39) 0) a → Gives (get_or (cells run) (i * 2 + 40) 0) b → Fills (pending_cell (cells run)) 32 out₀ out i → Fills (pending_cell (cells run)) 32 out₀ (set out i (frame a b)) (i + 1)
  read_pending_again a b out₀ out h x y l = fills_again (pending_cell (cells run)) 32 i (frame a b) out₀ out h (rw (x.answer, y.answer)) l

  pub read_pending_all : (out₀ out : List Span) → 32 ≤ i → Fills (pending_cell (cells run)) 32 out₀ out i → out ≡ pending_from (cells run)
  unfolding pending_from
  read_pending_all out₀ out h l = fills_all (pending_cell (cells run)) 32 i out₀ out h l

pub cont_read : (run : List ℕ) (b e s t c q n k i : ℕ) (o : List ℕ) (p : List Span) → readable cont_limits run ≡ true → Gives (get_or run 0 0) b → Gives (get_or run 4 0) e → Gives (get_or run 8 0) s → Gives (get_or run 12 0) t
    → Gives (get_or (cells run) 4 0) c → Gives (get_or (cells run) 5 0) q → Gives (open_cells (cells run)) o → Gives (get_or (cells run) 38 0) n → Gives (pending_from (cells run)) p → Gives (get_or (cells run) 103 0) k → Gives (get_or (cells run) 104 0) i
    → record { byte = b; eol = e; sep = s; tab = t; cap = c; pos = q; «open» = o; open_len = n; pending = p; pending_len = k; pending_idx = i } ≡ cont_from (cells run)
unfolding cont_from cont_limits
cont_read run b e s t c q n k i o p h gb ge gs gt gc gq go gn gp gk gi =
    let x0 = byte_field cont_limits run 0 b h tt tt gb in
    let x1 = byte_field cont_limits run 1 e h tt tt ge in
    let x2 = byte_field cont_limits run 2 s h tt tt gs in
    let x3 = byte_field cont_limits run 3 t h tt tt gt in
    rw (x0, x1, x2, x3, gc.answer, gq.answer, go.answer, gn.answer, gp.answer, gk.answer, gi.answer)

-- Laws of replies: the ways out of the functions that reply, and that two replies to the same arguments are equal. Assumes nothing.
use Rattle.std.specs.Prelude.{◌≡◌, refl, Bool, true, false, ◌⊎◌, List, [], ◌∷◌, ◌++◌, ℕ, ◌+◌, ◌-◌, ◌*◌, ◌/◌, ◌≤◌, ◌<◌, eqb, ltb, length, Err, None, Ok, Option, Result, Some}
use Rattle.std.proofs.Common.{sym, ap, ◌∙◌, inl, inr, arith, length-append, lt-ltb, le-ltb, ltb-true, ltb-false}
use Rattle.search.specs.Promise.{Gives}
use Rattle.search.specs.SearchLaws.{decide}
use Rattle.common.specs.Entry.{flatten}
use Rattle.common.specs.EntryLaws.{flatten-append, put_append, put_over}
use Rattle.common.specs.Lists.{RowPut}
use Rattle.common.specs.Refusals.{Outcome, given, refused, number_of, told, told_found}
use Rattle.common.specs.RefusalLaws.{number_some}
use Rattle.common.specs.declared.refusal.Refusal.{Refusal}
use Rattle.cells.specs.Bytes.{four, row_bytes}
use Rattle.cells.specs.ByteLaws.{length-four}
use Rattle.cells.specs.Reply.{LaidAt, LaidIf, written, short, fitted, answered, Replied}

-- two replies to the same arguments are one: the number, and the run that is left
pub replied_unique : {o : Outcome} {run run' run'' : List ℕ} {r r' : ℕ} → Replied o run run' r → Replied o run run'' r' → (r ≡ r') × (run' ≡ run'')
replied_unique a b = (a.number ∙ sym b.number, a.list ∙ sym b.list)

-- ---- numbers where there is room for them
pub lacks-past : (len from n : ℕ) → len < from → true ≡ ltb len (from + n * 4)
lacks-past len from n h = sym (lt-ltb len (from + n * 4) (omega arith))

pub lacks_rest : (len from n : ℕ) → from ≤ len → ltb ((len - from) / 4) n ≡ ltb len (from + n * 4)
lacks_rest len from n h = by (decide (ltb ((len - from) / 4) n))
  where
    by : (ltb ((len - from) / 4) n ≡ true) ⊎ (ltb ((len - from) / 4) n ≡ false) → ltb ((len - from) / 4) n ≡ ltb len (from + n * 4)
    by (inl u) = u ∙ sym (lt-ltb len (from + n * 4) (omega (arith, ltb-true ((len - from) / 4) n u)))
    by (inr u) = u ∙ sym (le-ltb len (from + n * 4) (omega (arith, ltb-false ((len - from) / 4) n u)))

module _ (from : ℕ) (l out : List ℕ) (y : Bool) (g : Gives (ltb (length out) (from + length l * 4)) y) where
  lacking : y ≡ ltb (length out) (from + length (flatten four l))
  lacking = g.answer ∙ ap (λ (k : ℕ). ltb (length out) (from + k)) (sym (length-four l))

  pub put_none : y ≡ true → LaidIf from (flatten four l) out out
  put_none e = record { list = simp (← lacking, e) }

  pub put_room : y ≡ false → from + length l * 4 ≤ length out
  put_room e = ltb-false (length out) (from + length l * 4) (sym g.answer ∙ e)

  pub put_some : (out' : List ℕ) → y ≡ false → LaidAt from (flatten four l) out out' → LaidIf from (flatten four l) out out'
  put_some out' e d = record { list = d.list ∙ simp (← lacking, e) }

-- where there is room, they are laid
pub laid_there : (k : ℕ) (l out out' : List ℕ) → k + length l ≤ length out → LaidIf k l out out' → LaidAt k l out out'
laid_there k l out out' h d = record { list = d.list ∙ simp (le-ltb (length out) (k + length l) h) }

-- a region in a row of `row_bytes`
pub laid_region : (n start end : ℕ) (out out' : List ℕ) → n * row_bytes + row_bytes ≤ length out → LaidIf (n * row_bytes) (flatten four (start ∷ end ∷ [])) out out' → RowPut (flatten four (start ∷ end ∷ [])) n out out' (n + 1)
laid_region n start end out out' h d = record { next = refl; list = (laid_there (n * row_bytes) (flatten four (start ∷ end ∷ [])) out out' h d).list }

-- two results for the same arguments are one
pub laid_unique : {k : ℕ} {l out out' out'' : List ℕ} → LaidIf k l out out' → LaidIf k l out out'' → out' ≡ out''
laid_unique a b = a.list ∙ sym b.list

-- ---- a run with room for m numbers
module _ (vs run : List ℕ) (m : ℕ) (room : Gives (length run / 4) m) where
  pub too_short : m ≤ length vs → short (given vs) run ≡ true
  too_short h = lt-ltb (length run) (length (written vs)) (omega (arith, room.answer, length-four vs))

  pub enough : length vs < m → short (given vs) run ≡ false
  enough h = le-ltb (length run) (length (written vs)) (omega (arith, room.answer, length-four vs))

  -- the run is too short
  pub reply_short : m ≤ length vs → Replied (given vs) run run 3
  unfolding fitted answered
  reply_short h = record { number = simp (too_short h); list = simp (too_short h) }

  -- the values stand over its front
  pub laid_reply : (run' : List ℕ) → length vs < m → LaidAt 0 (written vs) run run' → Replied (given vs) run run' 0
  unfolding fitted answered
  laid_reply run' h d =
      record {
        number = simp (enough h);
        list = d.list ∙ put_over (written vs) run (omega (arith, room.answer, length-four vs)) ∙ simp (enough h);
      }

-- laid behind one another
pub laid_behind : (k j : ℕ) (a b out out' out'' : List ℕ) → LaidAt k a out out' → LaidAt j b out' out'' → j ≡ k + length a → LaidAt k (a ++ b) out out''
laid_behind k j a b out out' out'' x y e = record { list = y.list ∙ rw (e, x.list) (sym (put_append k a b out)) }

pub reply_values : (vs run run' run'' : List ℕ) (m : ℕ) → Gives (length run / 4) m → length vs < m → LaidAt 0 (four (length vs)) run run' → LaidAt 4 (flatten four vs) run' run'' → Replied (given vs) run run'' 0
reply_values vs run run' run'' m room h x y = laid_reply vs run m room run'' h (laid_behind 0 4 (four (length vs)) (flatten four vs) run run' run'' x y refl)

-- numbers, and bytes behind them
module _ (a b run : List ℕ) (n m : ℕ) (e : n ≡ length a + length b) (room : Gives (length run / 4) m) where
  pub mixed_short : m ≤ n → Replied (given (a ++ b)) run run 3
  mixed_short h = reply_short (a ++ b) run m room (omega (arith, length-append a b))

  pub mixed_values : (run' run'' run''' : List ℕ) → n < m → LaidAt 0 (four n) run run' → LaidAt 4 (flatten four a) run' run'' → LaidAt (4 + length a * 4) (flatten four b) run'' run''' → Replied (given (a ++ b)) run run''' 0
  mixed_values run' run'' run''' h x y z =
      let c : n ≡ length (a ++ b) = e ∙ sym (length-append a b) in
      let w = laid_behind 4 (4 + length a * 4) (flatten four a) (flatten four b) run' run'' run''' y z (omega (arith, length-four a)) in
      reply_values (a ++ b) run run' run''' m room (omega (arith, c)) (rw c at x) (rw (flatten-append four a b) w)

-- ---- by what the core answered
pub refused_by : (n : ℕ) (run : List ℕ) → eqb n 0 ≡ false → Replied (refused n) run run n
unfolding fitted answered
refused_by n run e = record { number = simp e; list = simp e }

pub reply_refused : (r : Refusal) (n : ℕ) (run : List ℕ) → Gives (number_of r) n → Replied (refused (number_of r)) run run n
reply_refused r n run g = rw g.answer (refused_by (number_of r) run (number_some r))

module _ (a : Result ℕ Refusal) (run run' : List ℕ) (n : ℕ) where
  pub reply_value : (v : ℕ) → a ≡ Ok v → Replied (given (v ∷ [])) run run' n → Replied (told a) run run' n
  reply_value v e d = rw e d

  pub reply_no_value : (r : Refusal) → a ≡ Err r → Gives (number_of r) n → Replied (told a) run run n
  reply_no_value r e g = rw e (reply_refused r n run g)

module _ (a : Result (Option ℕ) Refusal) (run run' : List ℕ) (n : ℕ) where
  pub reply_found : (v : ℕ) → a ≡ Ok (Some v) → Replied (given (v ∷ [])) run run' n → Replied (told_found a) run run' n
  reply_found v e d = rw e d

  pub reply_nothing : a ≡ (Ok None) → Replied (given []) run run' n → Replied (told_found a) run run' n
  reply_nothing e d = rw e d

  pub reply_unfound : (r : Refusal) → a ≡ Err r → Gives (number_of r) n → Replied (told_found a) run run n
  reply_unfound r e g = rw e (reply_refused r n run g)

-- an entry that replies what the core gives
pub replied : {o o' : Outcome} {run run' : List ℕ} {n : ℕ} → Gives o o' → Replied o' run run' n → Replied o run run' n
replied g d = rw g.answer at d

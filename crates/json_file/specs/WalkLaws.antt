-- Laws of how far a file was read: a byte more, the file's end, and the walk to an object's end. Assumes nothing.
use Rattle.std.specs.Prelude.{◌≡◌, refl, true, false, ℕ, suc, ◌+◌, ◌-◌, ◌<◌, ◌≤◌, length, get_or, drop}
use Rattle.std.proofs.Common.{sym, subst, ◌∙◌, drop_of_length-le, drop-cons}
use Rattle.std.proofs.Math.Path.{ap}
use mathlib.Core.List.{List, [], ◌∷◌, ◌++◌}
use native.Mathlib.Omega.{arith}
use Rattle.search.specs.Promise.{Gives}
use Rattle.common.specs.declared.span.Span.{Span}
use Rattle.json_file.specs.Form.{Course, upto, off, outset, span, phase_move, move_on, follow, is_off, broken_at}
use Rattle.json_file.specs.FormLaws.{follow_off}
use Rattle.json_file.specs.Walk.{Reached, WalkedTo, Walks}
use Rattle.json_file.specs.declared.phase.Phase.{Phase}
use Rattle.json_file.specs.declared.phase.Phase.TheVariants as phase
use Rattle.json_file.specs.declared.phase.Move.{Move}
use Rattle.json_file.specs.declared.phase.Move.TheVariants.{On, Shut, Bad}
use Rattle.json_file.specs.declared.objects.NextObject.{NextObject}
use Rattle.json_file.specs.declared.objects.NextObject.TheVariants as next

-- ---- a byte more
pub reached_first : (s : List ℕ) → Reached s 0 phase.Begin []
reached_first s = record { same = refl; at = omega arith }

one_follow : (l : List Span) (g : Phase) (x : ℕ) (s : List ℕ) → follow (upto l g) (x ∷ s) ≡ follow (move_on l (phase_move g x)) s
unfolding follow
one_follow l g x s = refl

-- how far it goes on behind a byte
abbrev behind_byte : Course → List ℕ → ℕ
behind_byte c s = elim (is_off c) [ true ↦ 0 | false ↦ suc (broken_at c s) ]

one_broken : (l : List Span) (g : Phase) (x : ℕ) (s : List ℕ) → broken_at (upto l g) (x ∷ s) ≡ behind_byte (move_on l (phase_move g x)) s
unfolding broken_at
one_broken l g x s = refl

module _ (s : List ℕ) (i : ℕ) (g : Phase) (l : List Span) (w : Reached s i g l) (h : i < length s) (m : Move) (v : Gives (phase_move g (get_or s i 0)) m) where
  cut : drop i s ≡ get_or s i 0 ∷ drop (i + 1) s
  cut =
      let e : suc i ≡ i + 1 = omega arith in
      drop-cons s i 0 h ∙ ap (λ (z : ℕ). get_or s i 0 ∷ drop z s) e

  moved : follow outset s ≡ follow (move_on l m) (drop (i + 1) s)
  moved = w.same ∙ ap (follow (upto l g)) cut ∙ one_follow l g (get_or s i 0) (drop (i + 1) s) ∙ ap (λ (z : Move). follow (move_on l z) (drop (i + 1) s)) (sym v.answer)

  placed : broken_at outset s ≡ i + behind_byte (move_on l m) (drop (i + 1) s)
  placed =
      w.at ∙ ap (λ (z : List ℕ). i + broken_at (upto l g) z) cut ∙ ap (λ (z : ℕ). i + z) (one_broken l g (get_or s i 0) (drop (i + 1) s))
      ∙ ap (λ (z : Move). i + behind_byte (move_on l z) (drop (i + 1) s)) (sym v.answer)

  pub reached_on : (k : Phase) → m ≡ On k → Reached s (i + 1) k l
  reached_on k e =
      let p : broken_at outset s ≡ i + suc (broken_at (upto l k) (drop (i + 1) s)) = placed ∙ ap (λ (z : Move). i + behind_byte (move_on l z) (drop (i + 1) s)) e in
      record { same = moved ∙ ap (λ (z : Move). follow (move_on l z) (drop (i + 1) s)) e; at = p ∙ omega arith }

  pub reached_shut : (a b : ℕ) → m ≡ Shut a b → Reached s (i + 1) phase.Closed (l ++ (span a b ∷ []))
  reached_shut a b e =
      let p : broken_at outset s ≡ i + suc (broken_at (upto (l ++ (span a b ∷ [])) phase.Closed) (drop (i + 1) s)) = placed ∙ ap (λ (z : Move). i + behind_byte (move_on l z) (drop (i + 1) s)) e in
      record { same = moved ∙ ap (λ (z : Move). follow (move_on l z) (drop (i + 1) s)) e; at = p ∙ omega arith }

  pub reached_bad : m ≡ Bad → (follow outset s ≡ off) × (broken_at outset s ≡ i)
  reached_bad e =
      let p : broken_at outset s ≡ i + 0 = placed ∙ ap (λ (z : Move). i + behind_byte (move_on l z) (drop (i + 1) s)) e in
      (moved ∙ ap (λ (z : Move). follow (move_on l z) (drop (i + 1) s)) e ∙ follow_off (drop (i + 1) s), p ∙ omega arith)

-- at the file's end
module _ (s : List ℕ) (i : ℕ) (g : Phase) (l : List Span) (w : Reached s i g l) (h : length s ≤ i) where
  pub reached_end : follow outset s ≡ upto l g
  unfolding follow
  reached_end = w.same ∙ ap (follow (upto l g)) (drop_of_length-le s h)

  pub reached_place : broken_at outset s ≡ i
  unfolding broken_at
  reached_place = w.at ∙ ap (λ (z : List ℕ). i + broken_at (upto l g) z) (drop_of_length-le s h) ∙ omega arith

-- ---- the walk to an object's end
-- it has come from place f and phase k to i and g
pub record Underway (s : List ℕ) (f : ℕ) (k : Phase) (i : ℕ) (g : Phase) : Type 0 where
  pub low : f ≤ i
  pub high : i ≤ length s
  pub way : (l : List Span) → Reached s f k l → Reached s i g l

pub underway_first : (s : List ℕ) (f : ℕ) (k : Phase) → f ≤ length s → Underway s f k f k
underway_first s f k h = record { low = omega arith; high = h; way = λ l w. w }

module _ (s : List ℕ) (f : ℕ) (k : Phase) (i : ℕ) (g : Phase) (w : Underway s f k i g) where
  module _ (h : i < length s) (m : Move) where
    pub underway_on : (n : Phase) → m ≡ On n → Gives (phase_move g (get_or s i 0)) m → Underway s f k (i + 1) n
    underway_on n e v = record { low = omega (arith, w.low); high = omega arith; way = λ l u. reached_on s i g l (w.way l u) h m v n e }

    pub walks_region : (a b : ℕ) → m ≡ Shut a b → Gives (phase_move g (get_or s i 0)) m → Walks s f k (next.Region a b (i + 1))
    walks_region a b e v = record { to = (omega (arith, w.low), omega arith, λ l u. reached_shut s i g l (w.way l u) h m v a b e) }

    pub walks_bad : m ≡ Bad → Gives (phase_move g (get_or s i 0)) m → Walks s f k (next.Bad i)
    walks_bad e v = record { to = λ l u. reached_bad s i g l (w.way l u) h m v e }

  pub walks_over : length s ≤ i → Walks s f k (next.Over g)
  walks_over h =
      let e : i ≡ length s = omega (arith, w.high) in
      record { to = λ l u. (reached_end s i g l (w.way l u) h, reached_place s i g l (w.way l u) h ∙ e) }

-- behind an object less is left
pub walks_less : (s : List ℕ) (i : ℕ) (g : Phase) (r : NextObject) (a b k : ℕ) → Walks s i g r → r ≡ next.Region a b k → length s - k < length s - i
walks_less s i g r a b k v e =
    let t : WalkedTo s i g (next.Region a b k) = subst (WalkedTo s i g) e v.to in
    omega (arith, t.0, t.1)

pub ruleset walk_rules = (underway_first, underway_on, walks_region, walks_bad, walks_over)

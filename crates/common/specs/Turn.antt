-- Scans in turns: the first turn that does not only go on, all that a scan finds, what a run of steps yields, and what the places of a stretch have. Assumes nothing.
-- The page: "each step takes a state and gives the answer with the next state", and "The scan goes on from the span's end."
use Rattle.std.specs.Prelude.{◌≡◌, List, [], ◌∷◌, ◌++◌, ℕ, zero, suc, ◌+◌, ◌-◌, ◌≤◌, ◌<◌}

-- a turn of a scan that stands at a place: on from a later place; an end, at a place; or a thing found and the place that the scan goes on from
pub data Turn (A : Type 0) : Type 0 where
  go : ℕ → Turn A
  stop : ℕ → Turn A
  found : A → ℕ → Turn A

module _ {A : Type 0} where
  -- the turn itself, or what k says of the place that it only goes on from
  abbrev pub then_scan : (ℕ → Turn A) → Turn A → Turn A
  then_scan k (go n) = k n
  then_scan k (stop v) = stop v
  then_scan k (found a n) = found a n

  -- the first of at most f turns from q that does not only go on
  unfoldable pub scan : (ℕ → Turn A) → ℕ → ℕ → Turn A
  scan step zero q = stop q
  scan step (suc f) q = then_scan (scan step f) (step q)

  -- what a turn finds, and behind it what k says of the place that it goes on from
  abbrev pub then_collect : (ℕ → List A) → Turn A → List A
  then_collect k (go n) = k n
  then_collect k (stop v) = []
  then_collect k (found a n) = a ∷ k n

  -- the things that at most f turns from q find
  unfoldable pub collect : (ℕ → Turn A) → ℕ → ℕ → List A
  collect step zero q = []
  collect step (suc f) q = then_collect (collect step f) (step q)

  -- the first turn from q that does not only go on, in a text of length len
  abbrev pub first_turn : (ℕ → Turn A) → ℕ → ℕ → Turn A
  first_turn step len q = scan step (suc len) q

  -- the things found from q on, in a text of length len
  abbrev pub all_found : (ℕ → Turn A) → ℕ → ℕ → List A
  all_found step len q = collect step (suc len) q

  -- the things that the first n scans find, each from where the one before went on, up to the first that finds nothing
  unfoldable pub answers : (ℕ → Turn A) → ℕ → ℕ → ℕ → List A
  answers step len zero q = []
  answers step len (suc n) q = then_collect (answers step len n) (first_turn step len q)

-- the turn with every place k further on, and f of the thing found
abbrev pub move_t : {A B : Type 0} → (A → B) → ℕ → Turn A → Turn B
move_t f k (go n) = go (k + n)
move_t f k (stop v) = stop (k + v)
move_t f k (found a n) = found (f a) (k + n)

-- a step of a state: a thing and the state after it, or the state at the end
pub data Step (A S : Type 0) : Type 0 where
  yields : A → S → Step A S
  ends : S → Step A S

module _ {A S : Type 0} where
  -- what a step yields, and behind it what k says of the state after it
  abbrev pub then_drain : (S → List A) → Step A S → List A
  then_drain k (yields a s) = a ∷ k s
  then_drain k (ends s) = []

  -- the things that the first n steps from a state yield, up to the first that yields nothing
  unfoldable pub drain : (S → Step A S) → ℕ → S → List A
  drain next zero s = []
  drain next (suc n) s = then_drain (drain next n) (next s)

  -- the step that a scan's answer makes, where `at n` is the state at place n
  abbrev pub step_of : (ℕ → S) → Turn A → Step A S
  step_of at (go n) = ends (at n)
  step_of at (stop v) = ends (at v)
  step_of at (found a n) = yields a (at n)

module _ {A : Type 0} (at : ℕ → List A) where
  -- the things that n places have, the first of them a
  unfoldable pub gather : ℕ → ℕ → List A
  gather zero a = []
  gather (suc n) a = at a ++ gather n (suc a)

  -- the things that the places from a up to e have
  abbrev pub between : ℕ → ℕ → List A
  between a e = gather (e - a) a

  -- a stretch from a up to b whose places have nothing
  abbrev pub None : ℕ → ℕ → Type 0
  None a b = (k : ℕ) → a ≤ k → k < b → at k ≡ []

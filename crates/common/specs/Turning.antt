-- What laws and loops know of scans in turns: steps that move on, places that a turn answers for, a loop that looks for the first turn. Assumes nothing.
use Rattle.std.specs.Prelude.{◌≡◌, List, [], ◌∷◌, ℕ, suc, ◌≤◌, ◌<◌}
use Rattle.common.specs.Turn.{Turn, go, stop, found, first_turn, between, None}

-- ---- what the laws ask of a step
module _ {A : Type 0} (Lies : ℕ → ℕ → A → Type 0) where
  -- a turn at q that moves on within the text; `Lies q n a` is what holds of an a found between q and n
  abbrev pub Ahead : ℕ → ℕ → Turn A → Type 0
  Ahead q len (go n) = (q < n) × (n ≤ len)
  Ahead q len (stop v) = (q ≤ v) × (v ≤ len)
  Ahead q len (found a n) = (q < n) × (n ≤ len) × Lies q n a

  -- a turn from q that moves on within the text and does not only go on
  abbrev pub Last : ℕ → ℕ → Turn A → Type 0
  Last q len (go n) = ⊥
  Last q len (stop v) = (q ≤ v) × (v ≤ len)
  Last q len (found a n) = (q < n) × (n ≤ len) × Lies q n a

  -- a step all of whose turns move on within the text
  pub record Adv (step : ℕ → Turn A) (len : ℕ) : Type 0 where
    pub ahead : (q : ℕ) → q ≤ len → Ahead q len (step q)

module _ {A : Type 0} where
  -- a turn that only goes on, to a place of P, or is one of Q
  abbrev pub Leads : (ℕ → Type 0) → (Turn A → Type 0) → Turn A → Type 0
  Leads P Q (go n) = P n
  Leads P Q (stop v) = Q (stop v)
  Leads P Q (found a n) = Q (found a n)

  -- a list of things that all have P
  abbrev pub Each : (A → Type 0) → List A → Type 0
  Each P [] = Unit {0}
  Each P (a ∷ l) = P a × Each P l

  -- a turn that finds nothing, or a thing that has P
  abbrev pub OnFound : (A → Type 0) → Turn A → Type 0
  OnFound P (go n) = Unit {0}
  OnFound P (stop v) = Unit {0}
  OnFound P (found a n) = P a

  -- a turn at q that answers for the places from q up to the one that it goes on from, where Inv holds again
  abbrev pub Covers : (ℕ → List A) → (ℕ → Type 0) → ℕ → ℕ → Turn A → Type 0
  Covers at Inv len q (go n) = (q < n) × (n ≤ len) × Inv n × None at q n
  Covers at Inv len q (stop v) = None at q len
  Covers at Inv len q (found a n) = (n ≤ len) × Inv n × (k : ℕ) × (q ≤ k) × (k < n) × (at k ≡ a ∷ []) × None at q k × None at (suc k) n

  -- a scan's answer that tells the first of `all` and the place from which on the others lie
  abbrev pub Told : (ℕ → List A) → (ℕ → Type 0) → ℕ → List A → Turn A → Type 0
  Told at Inv len all (go n) = ⊥
  Told at Inv len all (stop v) = all ≡ []
  Told at Inv len all (found a n) = (n ≤ len) × Inv n × (all ≡ a ∷ between at n len)

-- ---- what a loop of turns knows
module _ {A : Type 0} where
  -- a turn that finds an a and goes on from an n of which P holds
  abbrev pub Finds : (A → ℕ → Type 0) → Turn A → Type 0
  Finds P (go n) = ⊥
  Finds P (stop v) = ⊥
  Finds P (found a n) = P a n

  -- a turn that does not only go on
  abbrev pub Rests : Turn A → Type 0
  Rests t = Leads (λ n. ⊥) (λ t. Unit {0}) t

module _ {A : Type 0} (Lies : ℕ → ℕ → A → Type 0) (step : ℕ → Turn A) (len from : ℕ) where
  -- a loop at q that looks for the first turn from `from` that does not only go on
  pub record Stands (q : ℕ) : Type 0 where
    pub adv : Adv Lies step len
    pub inside : q ≤ len
    pub same : first_turn step len from ≡ first_turn step len q

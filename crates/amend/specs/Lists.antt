-- Laws of region lists: moved, kept before or from a place, reaching a place, in order, without tags. Assumes nothing.
use Rattle.std.specs.Prelude.{◌≡◌, Bool, ◌||◌, ◌&&◌, ℕ, ◌+◌, ◌-◌, ◌≤◌, ◌<◌}
use Rattle.std.proofs.Math.Path.{refl, ap}
use Rattle.std.proofs.Common.{sym, ◌∙◌, arith}
use Rattle.std.proofs.Math.Bool.{true, false, and-false, or_assoc}
use mathlib.Core.List.{List, [], ◌∷◌, ◌++◌, map, map-append, map-map}
use Rattle.std.proofs.Math.Dec.{ltb, leb}
use borrow.Author.Tests.{lt-ltb, le-ltb, le-leb, lt-leb}
use Rattle.region.specs.Region.{Region, move, up, reaches, keep_before, keep_from, InOrder, retag}
use Rattle.amend.specs.Places.{ltb_up, leb_up}

pub reaches_none : (T : Type 0) (k : ℕ) → reaches {T = T} k [] ≡ false
unfolding reaches
reaches_none T k = refl

module _ {T : Type 0} where
  -- ---- moved
  pub up-append : (k : ℕ) (l m : List (Region T)) → up k (l ++ m) ≡ up k l ++ up k m
  up-append k l m = map-append (move (λ x. k + x)) l m

  -- by two ways that agree
  pub move_alike : (f g : ℕ → ℕ) → ((x : ℕ) → f x ≡ g x) → (l : List (Region T)) → map (move f) l ≡ map (move g) l
  move_alike f g same [] = refl
  move_alike f g same (r ∷ l) = rw (same r.start, same r.stop, move_alike f g same l)

  -- by a way that changes nothing
  pub move_none : (f : ℕ → ℕ) → ((x : ℕ) → f x ≡ x) → (l : List (Region T)) → map (move f) l ≡ l
  move_none f same [] = refl
  move_none f same (r ∷ l) = rw (same r.start, same r.stop, move_none f same l)

  pub up_zero : (l : List (Region T)) → up 0 l ≡ l
  up_zero l = move_none (λ x. 0 + x) (λ x. omega arith) l

  pub stay : (l : List (Region T)) → map (move (λ x. x + 0 - 0)) l ≡ l
  stay l = move_none (λ x. x + 0 - 0) (λ x. omega arith) l

  pub up_up : (k j : ℕ) (l : List (Region T)) → up k (up j l) ≡ up (k + j) l
  up_up k j l = map-map (move (λ x. k + x)) (move (λ x. j + x)) l ∙ move_alike (λ x. k + (j + x)) (λ x. k + j + x) (λ x. omega arith) l

  -- from behind q to behind n
  pub move_up : (q n : ℕ) (l : List (Region T)) → map (move (λ x. x + n - q)) (up q l) ≡ up n l
  move_up q n l = map-map (move (λ x. x + n - q)) (move (λ x. q + x)) l ∙ move_alike (λ x. q + x + n - q) (λ x. n + x) (λ x. omega arith) l

  -- ---- reaching a place
  pub reaches_now : (k : ℕ) (r : Region T) (l : List (Region T)) → r.start < k → k ≤ r.stop → reaches k (r ∷ l) ≡ true
  unfolding reaches
  reaches_now k r l h m = rw (lt-ltb r.start k h, le-leb k r.stop m)

  pub reaches_later : (k : ℕ) (r : Region T) (l : List (Region T)) → r.stop < k → reaches k (r ∷ l) ≡ reaches k l
  unfolding reaches
  reaches_later k r l h = rw (lt-leb k r.stop h, and-false (ltb r.start k))

  pub reaches-append : (k : ℕ) (l m : List (Region T)) → reaches k (l ++ m) ≡ (reaches k l || reaches k m)
  unfolding reaches
  reaches-append k [] m = refl
  reaches-append k (r ∷ l) m = rw (reaches-append k l m) (sym (or_assoc (ltb r.start k && leb k r.stop) (reaches k l) (reaches k m)))

  pub reaches-up : (q k : ℕ) (l : List (Region T)) → reaches (q + k) (up q l) ≡ reaches k l
  unfolding reaches
  reaches-up q k [] = refl
  reaches-up q k (r ∷ l) = rw (ltb_up q r.start k, leb_up q k r.stop, reaches-up q k l)

  pub reaches_zero : (l : List (Region T)) → reaches 0 l ≡ false
  unfolding reaches
  reaches_zero [] = refl
  reaches_zero (r ∷ l) = rw (le-ltb r.start 0 (omega arith), reaches_zero l)

  -- ---- a list that lies before k, with one from k on behind it
  pub before_all : (k q : ℕ) (l m : List (Region T)) → InOrder q k l → keep_before k (l ++ up k m) ≡ l
  unfolding keep_before
  before_all k q [] [] w = refl
  before_all k q [] (r ∷ m) w = rw (le-ltb (k + r.start) k (omega arith), keep_before) (before_all k q [] m w)
  before_all k q (r ∷ l) m w = rw (lt-ltb r.start k (omega arith), keep_before) (ap (λ (z : List (Region T)). r ∷ z) (before_all k r.stop l m w.3))

  pub from_all : (k q : ℕ) (l m : List (Region T)) → InOrder q k l → keep_from k (l ++ up k m) ≡ up k m
  unfolding keep_from
  from_all k q [] [] w = refl
  from_all k q [] (r ∷ m) w = rw (le-ltb (k + r.start) k (omega arith), keep_from) (ap (λ (z : List (Region T)). move (λ x. k + x) r ∷ z) (from_all k q [] m w))
  from_all k q (r ∷ l) m w = rw (lt-ltb r.start k (omega arith), keep_from) (from_all k r.stop l m w.3)

  pub from_none : (k q : ℕ) (l : List (Region T)) → InOrder q k l → keep_from k l ≡ []
  unfolding keep_from
  from_none k q [] w = refl
  from_none k q (r ∷ l) w = rw (lt-ltb r.start k (omega arith), keep_from) (from_none k r.stop l w.3)

  pub from_zero : (l : List (Region T)) → keep_from 0 l ≡ l
  unfolding keep_from
  from_zero [] = refl
  from_zero (r ∷ l) = rw (le-ltb r.start 0 (omega arith), keep_from) (ap (λ (z : List (Region T)). r ∷ z) (from_zero l))

  pub before_up : (q k : ℕ) (l : List (Region T)) → keep_before (q + k) (up q l) ≡ up q (keep_before k l)
  unfolding keep_before
  before_up q k [] = refl
  before_up q k (r ∷ l) = by (before_up q k l) (ltb r.start k) refl
    where
      by : keep_before (q + k) (up q l) ≡ up q (keep_before k l) → (t : Bool) → ltb r.start k ≡ t → keep_before (q + k) (up q (r ∷ l)) ≡ up q (keep_before k (r ∷ l))
      by ih true u = rw (ltb_up q r.start k, u, keep_before) (ap (λ (z : List (Region T)). move (λ x. q + x) r ∷ z) ih)
      by ih false u = rw (ltb_up q r.start k, u, keep_before) ih

-- ---- with other tags
module _ {S T : Type 0} (f : S → T) where
  pub retag-up : (k : ℕ) (l : List (Region S)) → map (retag f) (up k l) ≡ up k (map (retag f) l)
  retag-up k [] = refl
  retag-up k (r ∷ l) = ap (λ (z : List (Region T)). move (λ x. k + x) (retag f r) ∷ z) (retag-up k l)

  pub retag-reaches : (k : ℕ) (l : List (Region S)) → reaches k (map (retag f) l) ≡ reaches k l
  unfolding reaches
  retag-reaches k [] = refl
  retag-reaches k (r ∷ l) = ap (λ (t : Bool). (ltb r.start k && leb k r.stop) || t) (retag-reaches k l)

  pub retag_order : (q k : ℕ) (l : List (Region S)) → InOrder q k l → InOrder q k (map (retag f) l)
  retag_order q k [] w = tt
  retag_order q k (r ∷ l) w = (w.0, w.1, w.2, retag_order r.stop k l w.3)

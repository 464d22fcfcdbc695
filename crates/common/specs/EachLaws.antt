-- Laws of what all of a list have. Assumes nothing.
use Rattle.std.specs.Prelude.{List, [], ◌∷◌, ◌++◌, map, get_or, set, take, drop, replicate}
use Prim.Native.Nat.{ℕ, zero, suc, ◌+◌, ◌≤◌, ◌<◌}
use Rattle.std.proofs.Common.{arith}
use Rattle.common.specs.Entry.{put_at}
use Rattle.common.specs.Rules.{tabulate}
use Rattle.common.specs.Turn.{gather}
use Rattle.common.specs.Turning.{Each}

module _ {A : Type 0} (P : A → Type 0) where
  pub each_append : (a b : List A) → Each P a → Each P b → Each P (a ++ b)
  each_append [] b v w = w
  each_append (x ∷ a) b v w = (v.0, each_append a b v.1 w)

  pub each_left : (a b : List A) → Each P (a ++ b) → Each P a
  each_left [] b w = tt
  each_left (x ∷ a) b w = (w.0, each_left a b w.1)

  pub each_right : (a b : List A) → Each P (a ++ b) → Each P b
  each_right [] b w = w
  each_right (x ∷ a) b w = each_right a b w.1

  pub each_all : ((x : A) → P x) → (l : List A) → Each P l
  each_all f [] = tt
  each_all f (x ∷ l) = (f x, each_all f l)

  pub each_get_or : (l : List A) (d : A) → Each P l → P d → (i : ℕ) → P (get_or l i d)
  each_get_or [] d v h i = h
  each_get_or (x ∷ l) d v h zero = v.0
  each_get_or (x ∷ l) d v h (suc i) = each_get_or l d v.1 h i

  pub each_set : (l : List A) (i : ℕ) (x : A) → Each P l → P x → Each P (set l i x)
  each_set [] i x v h = tt
  each_set (y ∷ l) zero x v h = (h, v.1)
  each_set (y ∷ l) (suc i) x v h = (v.0, each_set l i x v.1 h)

  pub each_put : (k : ℕ) (l out : List A) → Each P l → Each P out → Each P (put_at k l out)
  each_put k [] out v w = w
  each_put k (x ∷ l) out v w = each_put (k + 1) l (set out k x) v.1 (each_set out k x w v.0)

  pub each_drop : (n : ℕ) (l : List A) → Each P l → Each P (drop n l)
  each_drop zero l v = v
  each_drop (suc n) [] v = tt
  each_drop (suc n) (x ∷ l) v = each_drop n l v.1

  pub each_same : (n : ℕ) (x : A) → P x → Each P (replicate n x)
  each_same zero x h = tt
  each_same (suc n) x h = (h, each_same n x h)

  pub each_table : (f : ℕ → A) → ((i : ℕ) → P (f i)) → (n a : ℕ) → Each P (tabulate f n a)
  unfolding tabulate
  each_table f h zero a = tt
  each_table f h (suc n) a = (h a, each_table f h n (suc a))

  pub each_take : (n : ℕ) (l : List A) → Each P l → Each P (take n l)
  each_take zero l v = tt
  each_take (suc n) [] v = tt
  each_take (suc n) (x ∷ l) v = (v.0, each_take n l v.1)

  pub each_gather : (at : ℕ → List A) (n a : ℕ) → ((k : ℕ) → a ≤ k → k < a + n → Each P (at k)) → Each P (gather at n a)
  unfolding gather
  each_gather at zero a w = tt
  each_gather at (suc n) a w = each_append (at a) (gather at n (suc a)) (w a (omega arith) (omega arith)) (each_gather at n (suc a) (λ k l h. w k (omega arith) (omega arith)))

pub each_as : {A : Type 0} (P Q : A → Type 0) → ((a : A) → P a → Q a) → (l : List A) → Each P l → Each Q l
each_as P Q f [] w = tt
each_as P Q f (a ∷ l) w = (f a w.0, each_as P Q f l w.1)

pub each_map : {A B : Type 0} (P : B → Type 0) (f : A → B) (l : List A) → Each (λ a. P (f a)) l → Each P (map f l)
each_map P f [] w = tt
each_map P f (a ∷ l) w = (w.0, each_map P f l w.1)

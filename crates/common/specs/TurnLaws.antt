-- The laws of scans in turns, of runs of steps and of what the places of a stretch have, and the rules of the loops that look. Assumes nothing.
use Rattle.std.specs.Prelude.{◌≡◌, length}
use Rattle.std.proofs.Math.Path.{refl, sym, ap}
use Rattle.std.proofs.Common.{subst, ◌∙◌, not-suc-le-zero, Fits, take_all}
use mathlib.Core.List.{List, [], ◌∷◌, ◌++◌, map, append_assoc, append-nil}
use Prim.Native.Nat.{ℕ, zero, suc, ◌+◌, ◌-◌, ◌≤◌, ◌<◌}
use native.Mathlib.Omega.{arith}
use Rattle.std.specs.Int.{w32}
use Rattle.std.proofs.Math.ListN.{take}
use Rattle.common.specs.Turn.{Turn, go, stop, found, then_scan, scan, then_collect, collect, first_turn, all_found, answers, move_t, Step, then_drain, drain, step_of, gather, between, None}
use Rattle.common.specs.Turning.{Ahead, Last, Adv, Leads, Each, OnFound, Covers, Told, Finds, Rests, Stands}

-- ---- a step that moves on within its text
module _ {A : Type 0} {Lies : ℕ → ℕ → A → Type 0} {step : ℕ → Turn A} {len : ℕ} (adv : Adv Lies step len) where
  -- a property of the turn at q, by cases
  pub by_turn : (P : Turn A → Type 0) (q : ℕ) → q ≤ len → ((n : ℕ) → q < n → n ≤ len → P (go n)) → ((v : ℕ) → q ≤ v → v ≤ len → P (stop v))
      → ((a : A) (n : ℕ) → q < n → n ≤ len → Lies q n a → P (found a n)) → P (step q)
  by_turn P q h g s f = by (step q) (adv.ahead q h)
    where
      by : (t : Turn A) → Ahead Lies q len t → P t
      by (go n) a = g n a.0 a.1
      by (stop v) a = s v a.0 a.1
      by (found x n) a = f x n a.0 a.1 a.2

  pub turn-ahead : {q : ℕ} {t : Turn A} → q ≤ len → step q ≡ t → Ahead Lies q len t
  turn-ahead {q} h e = subst (Ahead Lies q len) e (adv.ahead q h)

  -- it is enough to know less of what is found
  pub adv_weaken : (Lies' : ℕ → ℕ → A → Type 0) → ((q n : ℕ) (a : A) → Lies q n a → Lies' q n a) → Adv Lies' step len
  adv_weaken Lies' g = record { ahead = λ q h. by_turn (Ahead Lies' q len) q h (λ n m i. (m, i)) (λ v m i. (m, i)) (λ a n m i w. (m, i, g q n a w)) }

  -- fuel past what is left of the text changes nothing
  pub scan_fuel : (f f' q : ℕ) → q ≤ len → len - q < f → len - q < f' → scan step f q ≡ scan step f' q
  unfolding scan
  scan_fuel zero f' q h l l' = absurd (not-suc-le-zero l)
  scan_fuel (suc f) zero q h l l' = absurd (not-suc-le-zero l')
  scan_fuel (suc f) (suc f') q h l l' =
      by_turn (λ t. then_scan (scan step f) t ≡ then_scan (scan step f') t) q h (λ n m i. scan_fuel f f' n i (omega arith) (omega arith)) (λ v m i. refl) (λ a n m i w. refl)

  pub collect_fuel : (f f' q : ℕ) → q ≤ len → len - q < f → len - q < f' → collect step f q ≡ collect step f' q
  unfolding collect
  collect_fuel zero f' q h l l' = absurd (not-suc-le-zero l)
  collect_fuel (suc f) zero q h l l' = absurd (not-suc-le-zero l')
  collect_fuel (suc f) (suc f') q h l l' =
      by_turn (λ t. then_collect (collect step f) t ≡ then_collect (collect step f') t) q h (λ n m i. collect_fuel f f' n i (omega arith) (omega arith)) (λ v m i. refl)
      (λ a n m i w. ap (λ (l : List A). a ∷ l) (collect_fuel f f' n i (omega arith) (omega arith)))

  -- one turn of a scan with the text's own fuel
  pub scan-turn : (q : ℕ) → q ≤ len → first_turn step len q ≡ then_scan (first_turn step len) (step q)
  unfolding scan
  scan-turn q h =
      by_turn (λ t. then_scan (scan step len) t ≡ then_scan (first_turn step len) t) q h (λ n m i. scan_fuel len (suc len) n i (omega arith) (omega arith)) (λ v m i. refl) (λ a n m i w. refl)

  pub collect-turn : (q : ℕ) → q ≤ len → all_found step len q ≡ then_collect (all_found step len) (step q)
  unfolding collect
  collect-turn q h =
      by_turn (λ t. then_collect (collect step len) t ≡ then_collect (all_found step len) t) q h (λ n m i. collect_fuel len (suc len) n i (omega arith) (omega arith)) (λ v m i. refl)
      (λ a n m i w. ap (λ (l : List A). a ∷ l) (collect_fuel len (suc len) n i (omega arith) (omega arith)))

  pub scan_go : {q n : ℕ} → q ≤ len → step q ≡ go n → first_turn step len q ≡ first_turn step len n
  scan_go {q} h e = scan-turn q h ∙ ap (then_scan (first_turn step len)) e

  pub scan_stop : {q v : ℕ} → q ≤ len → step q ≡ stop v → first_turn step len q ≡ stop v
  scan_stop {q} h e = scan-turn q h ∙ ap (then_scan (first_turn step len)) e

  pub scan_found : {q n : ℕ} {a : A} → q ≤ len → step q ≡ found a n → first_turn step len q ≡ found a n
  scan_found {q} h e = scan-turn q h ∙ ap (then_scan (first_turn step len)) e

  pub collect_go : {q n : ℕ} → q ≤ len → step q ≡ go n → all_found step len q ≡ all_found step len n
  collect_go {q} h e = collect-turn q h ∙ ap (then_collect (all_found step len)) e

  pub collect_stop : {q v : ℕ} → q ≤ len → step q ≡ stop v → all_found step len q ≡ []
  collect_stop {q} h e = collect-turn q h ∙ ap (then_collect (all_found step len)) e

  pub collect_found : {q n : ℕ} {a : A} → q ≤ len → step q ≡ found a n → all_found step len q ≡ a ∷ all_found step len n
  collect_found {q} h e = collect-turn q h ∙ ap (then_collect (all_found step len)) e

  -- from two places whose turns find the same and go on alike the same is found
  pub collect_alike : {q r : ℕ} → q ≤ len → r ≤ len → ((k : ℕ → List A) → then_collect k (step q) ≡ then_collect k (step r)) → all_found step len q ≡ all_found step len r
  collect_alike {q} {r} h i e = collect-turn q h ∙ e (all_found step len) ∙ sym (collect-turn r i)

  -- all that is found is what the first scan finds, and what is found from where it goes on
  pub collect-scan : (f q : ℕ) → q ≤ len → len - q < f → all_found step len q ≡ then_collect (all_found step len) (scan step f q)
  unfolding scan
  collect-scan zero q h l = absurd (not-suc-le-zero l)
  collect-scan (suc f) q h l =
      collect-turn q h
      ∙ by_turn (λ t. then_collect (all_found step len) t ≡ then_collect (all_found step len) (then_scan (scan step f) t)) q h (λ n m i. collect-scan f n i (omega arith)) (λ v m i. refl) (λ a n m i w. refl)

  -- all that is found has what follows from where it lies
  pub collect_each : (P : A → Type 0) → ((q n : ℕ) (a : A) → n ≤ len → Lies q n a → P a) → (f q : ℕ) → q ≤ len → Each P (collect step f q)
  unfolding collect
  collect_each P g zero q h = tt
  collect_each P g (suc f) q h =
      by_turn (λ t. Each P (then_collect (collect step f) t)) q h (λ n m i. collect_each P g f n i) (λ v m i. tt) (λ a n m i w. (g q n a i w, collect_each P g f n i))

-- what each turn says of the thing that it finds holds of all
pub turns_each : {A : Type 0} (P : A → Type 0) (step : ℕ → Turn A) → ((q : ℕ) → OnFound P (step q)) → (f q : ℕ) → Each P (collect step f q)
unfolding collect
turns_each P step w zero q = tt
turns_each {A} P step w (suc f) q = by (turns_each P step w f) (step q) (w q)
  where
    by : ((n : ℕ) → Each P (collect step f n)) → (t : Turn A) → OnFound P t → Each P (then_collect (collect step f) t)
    by ih (go n) v = ih n
    by ih (stop n) v = tt
    by ih (found a n) v = (v, ih n)

-- ---- the turn that a scan ends with
module _ {A : Type 0} (step : ℕ → Turn A) (P : ℕ → Type 0) (Q : Turn A → Type 0) (leads : (q : ℕ) → P q → Leads P Q (step q)) (none : (q : ℕ) → P q → Q (stop q)) where
  pub scan_ends : (f q : ℕ) → P q → Q (scan step f q)
  unfolding scan
  scan_ends zero q p = none q p
  scan_ends (suc f) q p = by (scan_ends f) (step q) (leads q p)
    where
      by : ((n : ℕ) → P n → Q (scan step f n)) → (t : Turn A) → Leads P Q t → Q (then_scan (scan step f) t)
      by ih (go n) l = ih n l
      by ih (stop v) l = l
      by ih (found a n) l = l

module _ {A : Type 0} {Lies : ℕ → ℕ → A → Type 0} {step : ℕ → Turn A} {len : ℕ} (adv : Adv Lies step len) where
  -- what it finds has what follows from where that lies
  pub scan_each : (P : A → Type 0) → ((q n : ℕ) (a : A) → n ≤ len → Lies q n a → P a) → (f q : ℕ) → q ≤ len → OnFound P (scan step f q)
  scan_each P g =
      scan_ends step (λ q. q ≤ len) (OnFound P) (λ q h. by_turn adv (Leads (λ q. q ≤ len) (OnFound P)) q h (λ n m i. i) (λ v m i. tt) (λ a n m i w. g q n a i w)) (λ q h. tt)

  -- it lies within the text and does not only go on
  pub scan_last : ((q n m : ℕ) (a : A) → q ≤ n → Lies n m a → Lies q m a) → (f q : ℕ) → q ≤ len → Last Lies q len (scan step f q)
  scan_last wider f q h = scan_ends step In (Last Lies q len) leads (λ n p. p) f q (omega arith, h)
    where
      In : ℕ → Type 0
      In n = (q ≤ n) × (n ≤ len)

      leads : (n : ℕ) → In n → Leads In (Last Lies q len) (step n)
      leads n p =
          by_turn adv (Leads In (Last Lies q len)) n p.1 (λ m k i. (omega arith, i)) (λ v k i. (omega arith, i)) (λ a m k i w. (omega arith, i, wider q n m a p.0 w))

-- ---- two scans that take the same turns where P holds, and stay there
module _ {A : Type 0} (step step' : ℕ → Turn A) (P : ℕ → Type 0) (same : (q : ℕ) → P q → step' q ≡ step q) (stays : (q : ℕ) → P q → Leads P (λ t. Unit {0}) (step q)) where
  pub scan-same : (f q : ℕ) → P q → scan step' f q ≡ scan step f q
  unfolding scan
  scan-same zero q p = refl
  scan-same (suc f) q p = ap (then_scan (scan step' f)) (same q p) ∙ by (scan-same f) (step q) (stays q p)
    where
      by : ((n : ℕ) → P n → scan step' f n ≡ scan step f n) → (t : Turn A) → Leads P (λ t. Unit {0}) t → then_scan (scan step' f) t ≡ then_scan (scan step f) t
      by ih (go n) l = ih n l
      by ih (stop v) l = refl
      by ih (found a n) l = refl

-- ---- a text that stands k places further on
module _ {A B : Type 0} {Lies : ℕ → ℕ → A → Type 0} {step : ℕ → Turn A} {len : ℕ} (adv : Adv Lies step len) (f : A → B) (step' : ℕ → Turn B) (k : ℕ) (same : (q : ℕ) → q ≤ len → step' (k + q) ≡ move_t f k (step q)) where
  pub scan-move : (g q : ℕ) → q ≤ len → scan step' g (k + q) ≡ move_t f k (scan step g q)
  unfolding scan
  scan-move zero q h = refl
  scan-move (suc g) q h =
      ap (then_scan (scan step' g)) (same q h)
      ∙ by_turn adv (λ t. then_scan (scan step' g) (move_t f k t) ≡ move_t f k (then_scan (scan step g) t)) q h (λ n m i. scan-move g n i) (λ v m i. refl) (λ a n m i w. refl)

  pub collect-move : (g q : ℕ) → q ≤ len → collect step' g (k + q) ≡ map f (collect step g q)
  unfolding collect
  collect-move zero q h = refl
  collect-move (suc g) q h =
      ap (then_collect (collect step' g)) (same q h)
      ∙ by_turn adv (λ t. then_collect (collect step' g) (move_t f k t) ≡ map f (then_collect (collect step g) t)) q h (λ n m i. collect-move g n i) (λ v m i. refl)
      (λ a n m i w. ap (λ (l : List B). f a ∷ l) (collect-move g n i))

  -- the same with each text's own fuel
  pub first_turn-move : (len' q : ℕ) → len ≤ len' → q ≤ len → first_turn step' len' (k + q) ≡ move_t f k (first_turn step len q)
  first_turn-move len' q l h = scan-move (suc len') q h ∙ ap (move_t f k) (scan_fuel adv (suc len') (suc len) q h (omega arith) (omega arith))

  pub all_found-move : (len' q : ℕ) → len ≤ len' → q ≤ len → all_found step' len' (k + q) ≡ map f (all_found step len q)
  all_found-move len' q l h = collect-move (suc len') q h ∙ ap (map f) (collect_fuel adv (suc len') (suc len) q h (omega arith) (omega arith))

-- ---- what the places of a stretch have
module _ {A : Type 0} (at : ℕ → List A) where
  pub gather_none : (n a : ℕ) → None at a (a + n) → gather at n a ≡ []
  unfolding gather
  gather_none zero a w = refl
  gather_none (suc n) a w = rw (w a (omega arith) (omega arith)) (gather_none n (suc a) (λ k l m. w k (omega arith) (omega arith)))

  pub gather-split : (m r n a b : ℕ) → n ≡ m + r → b ≡ a + m → gather at n a ≡ gather at m a ++ gather at r b
  unfolding gather
  gather-split zero r n a b e f =
      let x : n ≡ r = omega arith in
      let y : b ≡ a = omega arith in
      rw (x, y)
  gather-split (suc m) r zero a b e f = absurd (omega arith)
  gather-split (suc m) r (suc n) a b e f = rw (gather-split m r n (suc a) b (omega arith) (omega arith)) (sym (append_assoc (at a) (gather at m (suc a)) (gather at r b)))

  pub between_none : (a e : ℕ) → None at a e → between at a e ≡ []
  between_none a e w = gather_none (e - a) a (λ k h l. w k h (omega arith))

  pub between_skip : (a b e : ℕ) → a ≤ b → b ≤ e → None at a b → between at a e ≡ between at b e
  between_skip a b e h l w = gather-split (b - a) (e - b) (e - a) a b (omega arith) (omega arith) ∙ ap (λ (x : List A). x ++ between at b e) (between_none a b w)

  pub between-at : (a b e : ℕ) (l : List A) → a < b → b ≤ e → at a ≡ l → None at (suc a) b → between at a e ≡ l ++ between at b e
  unfolding gather
  between-at a b e l h m x w =
      gather-split 1 (e - suc a) (e - a) a (suc a) (omega arith) (omega arith) ∙ rw (x, append-nil l, between_skip (suc a) b e (omega arith) m w)

  pub between_one : (a k b e : ℕ) (x : A) → a ≤ k → k < b → b ≤ e → None at a k → at k ≡ x ∷ [] → None at (suc k) b → between at a e ≡ x ∷ between at b e
  between_one a k b e x h l m w y v = between_skip a k e h (omega arith) w ∙ between-at k b e (x ∷ []) l m y v

-- ---- a step whose turns answer for the places that they pass
module _ {A : Type 0} (step : ℕ → Turn A) (at : ℕ → List A) (Inv : ℕ → Type 0) (len : ℕ) (cov : (q : ℕ) → q ≤ len → Inv q → Covers at Inv len q (step q)) where
  pub collect-covers : (f q : ℕ) → q ≤ len → len - q < f → Inv q → collect step f q ≡ between at q len
  unfolding collect
  collect-covers zero q h l i = absurd (not-suc-le-zero l)
  collect-covers (suc f) q h l i = by (collect-covers f) (step q) (cov q h i)
    where
      by : ((n : ℕ) → n ≤ len → len - n < f → Inv n → collect step f n ≡ between at n len) → (t : Turn A) → Covers at Inv len q t → then_collect (collect step f) t ≡ between at q len
      by ih (go n) c = ih n c.1 (omega arith) c.2 ∙ sym (between_skip at q n len (omega arith) c.1 c.3)
      by ih (stop v) c = sym (between_none at q len c)
      by ih (found x n) c = ap (λ (l : List A). x ∷ l) (ih n c.0 (omega arith) c.1) ∙ sym (between_one at q c.2 n len x c.3 c.4 c.0 c.6 c.5 c.7)

  pub scan-told : (f q : ℕ) → q ≤ len → len - q < f → Inv q → Told at Inv len (between at q len) (scan step f q)
  unfolding scan
  scan-told zero q h l i = absurd (not-suc-le-zero l)
  scan-told (suc f) q h l i = by (scan-told f) (step q) (cov q h i)
    where
      by : ((n : ℕ) → n ≤ len → len - n < f → Inv n → Told at Inv len (between at n len) (scan step f n)) → (t : Turn A) → Covers at Inv len q t → Told at Inv len (between at q len) (then_scan (scan step f) t)
      by ih (go n) c = rw (between_skip at q n len (omega arith) c.1 c.3) (ih n c.1 (omega arith) c.2)
      by ih (stop v) c = between_none at q len c
      by ih (found x n) c = (c.0, c.1, between_one at q c.2 n len x c.3 c.4 c.0 c.6 c.5 c.7)

  pub answers-covers : (n q : ℕ) → q ≤ len → Inv q → answers step len n q ≡ take n (between at q len)
  unfolding answers
  answers-covers zero q h i = refl
  answers-covers (suc n) q h i = by (answers-covers n) (first_turn step len q) (scan-told (suc len) q h (omega arith) i)
    where
      by : ((m : ℕ) → m ≤ len → Inv m → answers step len n m ≡ take n (between at m len)) → (t : Turn A) → Told at Inv len (between at q len) t → then_collect (answers step len n) t ≡ take (suc n) (between at q len)
      by ih (go m) c = absurd c
      by ih (stop v) c = ap (take (suc n)) (sym c)
      by ih (found x m) c = ap (λ (l : List A). x ∷ l) (ih m c.0 c.1) ∙ ap (take (suc n)) (sym c.2)

-- ---- one scan at a time
module _ {A : Type 0} {Lies : ℕ → ℕ → A → Type 0} {step : ℕ → Turn A} {len : ℕ} (adv : Adv Lies step len) where
  -- a property of a scan's answer, by cases
  pub by_last : (P : Turn A → Type 0) (q : ℕ) → q ≤ len → ((v : ℕ) → P (stop v)) → ((a : A) (n : ℕ) → n ≤ len → P (found a n)) → P (first_turn step len q)
  by_last P q h s f = by (first_turn step len q) (scan_last (adv_weaken adv (λ q n a. Unit {0}) (λ q n a w. tt)) (λ q n m a i w. w) (suc len) q h)
    where
      by : (t : Turn A) → Last (λ q n a. Unit {0}) q len t → P t
      by (go n) l = absurd l
      by (stop v) l = s v
      by (found a n) l = f a n l.1

  -- the first n scans find the first n of all things
  pub answers-take : (n q : ℕ) → q ≤ len → answers step len n q ≡ take n (all_found step len q)
  unfolding answers
  answers-take zero q h = refl
  answers-take (suc n) q h =
      rw (collect-scan adv (suc len) q h (omega arith))
      (by_last (λ t. then_collect (answers step len n) t ≡ take (suc n) (then_collect (all_found step len) t)) q h (λ v. refl) (λ a m i. ap (λ (l : List A). a ∷ l) (answers-take n m i)))

  -- as many scans as there are things find them all
  pub answers-all : (n q : ℕ) → q ≤ len → length (all_found step len q) ≤ n → answers step len n q ≡ all_found step len q
  answers-all n q h l = answers-take n q h ∙ take_all n (all_found step len q) l

  -- a state whose step is a scan at its place; `at q` is the state moved to q
  module _ {S : Type 0} (next : S → Step A S) (at : ℕ → S) (steps : (q : ℕ) → q ≤ len → next (at q) ≡ step_of at (first_turn step len q)) where
    pub drain-answers : (n q : ℕ) → q ≤ len → drain next n (at q) ≡ answers step len n q
    unfolding drain answers
    drain-answers zero q h = refl
    drain-answers (suc n) q h =
        rw (steps q h)
        (by_last (λ t. then_drain (drain next n) (step_of at t) ≡ then_collect (answers step len n) t) q h (λ v. refl) (λ a m i. ap (λ (l : List A). a ∷ l) (drain-answers n m i)))

    pub drain-all : (n q : ℕ) → q ≤ len → length (all_found step len q) ≤ n → drain next n (at q) ≡ all_found step len q
    drain-all n q h l = drain-answers n q h ∙ answers-all n q h l

  -- the same of a state s that has its place in it; `at s q` is s moved to q
  pub drain-state : {S : Type 0} (next : S → Step A S) (pos : S → ℕ) (at : S → ℕ → S) (s : S) → at s (pos s) ≡ s → ((q : ℕ) → q ≤ len → next (at s q) ≡ step_of (at s) (first_turn step len q))
      → (n : ℕ) → pos s ≤ len → length (all_found step len (pos s)) ≤ n → drain next n s ≡ all_found step len (pos s)
  drain-state next pos at s e steps n h l = ap (drain next n) (sym e) ∙ drain-all next (at s) steps n (pos s) h l

-- ---- loops of turns: d is the code's value of the turn at q, e what a `match` told that d is, and `view` says which turn such a value stands for

-- a turn that is known by a part of it
module _ {A : Type 0} where
  pub has-is : (P : A → ℕ → Type 0) (t : Turn A) → Finds P t → (a : A) × (n : ℕ) × (t ≡ found a n) × P a n
  has-is P (go n) s = absurd s
  has-is P (stop v) s = absurd s
  has-is P (found a n) s = (a, n, refl, s)

module _ {A : Type 0} {Lies : ℕ → ℕ → A → Type 0} {step : ℕ → Turn A} {len q : ℕ} where
  pub stands_first : q ≤ len → Adv Lies step len → Stands Lies step len q q
  stands_first h adv = record { adv = adv; inside = h; same = refl }

-- a loop that looks for the first turn that does not only go on
module _ {A D : Type 0} (view : D → Turn A) {Lies : ℕ → ℕ → A → Type 0} {step : ℕ → Turn A} {len from q : ℕ} {d e : D} (i : Stands Lies step len from q) (p : view d ≡ step q) (r : d ≡ e) where
  pub stands_less : {n : ℕ} → view e ≡ go n → len - n < len - q
  stands_less c = omega (arith, turn-ahead i.adv i.inside (sym p ∙ ap view r ∙ c))

  pub stands_again : {n : ℕ} → view e ≡ go n → Stands Lies step len from n
  stands_again c =
      let s = sym p ∙ ap view r ∙ c in
      record { adv = i.adv; inside = (turn-ahead i.adv i.inside s).1; same = i.same ∙ scan_go i.adv i.inside s }

  pub stands_stop : {v : ℕ} → view e ≡ stop v → stop v ≡ first_turn step len from
  stands_stop c = sym (i.same ∙ scan_stop i.adv i.inside (sym p ∙ ap view r ∙ c))

  pub stands_found : {a : A} {n : ℕ} → view e ≡ found a n → found a n ≡ first_turn step len from
  stands_found c = sym (i.same ∙ scan_found i.adv i.inside (sym p ∙ ap view r ∙ c))

-- what it makes of that turn
pub stands_as : {A B D : Type 0} (view : D → Turn A) (f : Turn A → B) {Lies : ℕ → ℕ → A → Type 0} {step : ℕ → Turn A} {len from q : ℕ} {d e : D} {b : B}
    → Stands Lies step len from q → view d ≡ step q → d ≡ e → Rests (view e) → b ≡ f (view e) → b ≡ f (first_turn step len from)
stands_as view f {step = step} {len = len} {q = q} {e = e} i p r c m =
    m ∙ ap f (sym (i.same ∙ scan-turn i.adv q i.inside ∙ ap (then_scan (first_turn step len)) (sym p ∙ ap view r) ∙ rests (view e) c))
  where
    rests : (t : Turn _) → Rests t → then_scan (first_turn step len) t ≡ t
    rests (go n) s = absurd s
    rests (stop v) s = refl
    rests (found a n) s = refl

-- what the code makes of a scan's answer: a value of what is found that lies within the text fits 32 bits
pub last_fits : {A D : Type 0} (Lies : ℕ → ℕ → A → Type 0) (view : D → Turn A) (value : A → ℕ) {step : ℕ → Turn A} {len q x : ℕ} {d e : D}
    → view d ≡ first_turn step len q → d ≡ e → Finds (λ a n. value a ≡ x) (view e) → Adv Lies step len → ((q n : ℕ) (a : A) → Lies q n a → value a ≤ n) → q ≤ len → len ≤ 4294967295 → Fits w32 x
last_fits Lies view value {step} {len} {q} {x} {e = e} p r c adv g h l =
    let y = has-is (λ a n. value a ≡ x) (view e) c in
    let w : value y.0 ≤ len = subst (OnFound (λ a. value a ≤ len)) (sym p ∙ ap view r ∙ y.2) (scan_each adv (λ a. value a ≤ len) (λ q n a i w. omega (arith, g q n a w)) (suc len) q h) in
    record { fits = omega (arith, y.3) }

-- lists k q that keep to the turns at each place q are what is found from there
module _ {A : Type 0} {Lies : ℕ → ℕ → A → Type 0} {step : ℕ → Turn A} {len : ℕ} (adv : Adv Lies step len) (k : ℕ → List A) (keeps : (q : ℕ) → q ≤ len → k q ≡ then_collect k (step q)) where
  pub collect_only : (f q : ℕ) → q ≤ len → len - q < f → collect step f q ≡ k q
  unfolding collect
  collect_only zero q h l = absurd (not-suc-le-zero l)
  collect_only (suc f) q h l =
      by_turn adv (λ t. then_collect (collect step f) t ≡ then_collect k t) q h (λ n m i. collect_only f n i (omega arith)) (λ v m i. refl)
      (λ a n m i w. ap (λ (l : List A). a ∷ l) (collect_only f n i (omega arith)))
      ∙ sym (keeps q h)

  pub all_only : (q : ℕ) → q ≤ len → all_found step len q ≡ k q
  all_only q h = collect_only (suc len) q h (omega arith)

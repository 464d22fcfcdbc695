-- Laws of the searches that go by blocks, over any test: of a filter, of a least place, of stages that are put together. Assumes
-- nothing.
use Rattle.std.specs.Prelude.{◌≡◌, Bool, ◌||◌, List, ◌⊎◌, ℕ, ◌+◌, ◌-◌, ◌≤◌, ◌<◌, min, max, ltb, length, get_or}
use Rattle.std.proofs.Math.Path.{refl, sym}
use Rattle.std.proofs.Common.{ap, subst, ◌∙◌, true≢false, inl, inr, add-zero, add_assoc, arith, ltb-true, ltb-false}
use Rattle.std.proofs.Math.Bool.{true, false}
use Rattle.search.specs.Promise.{Gives}
use Rattle.search.specs.Search.{find, Sought}
use Rattle.search.specs.SearchLaws.{decide, find_here, find-next, find_end, find_from, sought, sought_past, Seeks}
use Rattle.find.specs.Blocks.{hit_place, Placed, Clear, Stage, Reaches}

-- ---- the place of a hit
module _ (hit y : Bool) (j : ℕ) (says : Gives hit y) where
  pub picked_yes : y ≡ true → j ≡ hit_place hit j
  unfolding hit_place
  picked_yes e = let z : hit ≡ true = sym says.answer ∙ e in rw z

  pub picked_no : y ≡ false → 32 ≡ hit_place hit j
  unfolding hit_place
  picked_no e = let z : hit ≡ false = sym says.answer ∙ e in rw z

-- ---- the invariant of a loop that keeps the least place of a hit: below j of 32
pub record Least (t : ℕ → Bool) (s : List ℕ) (i j m : ℕ) : Type 0 where
  pub inside : j ≤ 32
  pub most : m ≤ 32
  pub past : m < 32 → m < j
  pub here : m < 32 → find t s i ≡ i + m
  pub on : 32 ≤ m → find t s i ≡ find t s (i + j)

module _ (t : ℕ → Bool) (s : List ℕ) where
  further : (i j : ℕ) → find t s ((i + j) + 1) ≡ find t s (i + (j + 1))
  further i j = ap (find t s) (add_assoc i j 1)

  -- ---- a filter
  pub clear_first : (i : ℕ) → Clear t s i 0 false
  clear_first i = record { clear = λ e. ap (find t s) (sym (add-zero i)) }

  pub clear_again : (i j w : ℕ) (r y : Bool) → i + w ≤ length s → j < w → Clear t s i j r → Gives (t (get_or s (i + j) 0)) y → Clear t s i (j + 1) (r || y)
  clear_again i j w true y h l c g = record { clear = λ e. absurd (true≢false e) }
  clear_again i j w false y h l c g =
      record { clear = λ e. c.clear refl ∙ find-next t s (i + j) (omega arith) (sym g.answer ∙ e) ∙ further i j }

  pub clear_whole : (i j w : ℕ) (r : Bool) → j ≤ w → w ≤ j → Clear t s i j r → Clear t s i w r
  clear_whole i j w r h l c =
      let at : j ≡ w = omega arith in
      subst (λ (k : ℕ). Clear t s i k r) at c

  -- ---- a least place
  pub least_first : (i : ℕ) → Least t s i 0 32
  least_first i =
      record { inside = omega arith; most = omega arith; past = λ l. omega arith; here = λ l. absurd (omega arith); on = λ l. ap (find t s) (sym (add-zero i)) }

  -- a hit at j does not move a least that is there, and is the least where there was none
  least_again : (i j m : ℕ) → i + 32 ≤ length s → j < 32 → Least t s i j m → Least t s i (j + 1) (min (hit_place (t (get_or s (i + j) 0)) j) m)
  unfolding hit_place
  least_again i j m h l w = go (t (get_or s (i + j) 0)) refl (ltb m 32) refl
    where
      keep : (n : ℕ) → m < 32 → n ≡ m → Least t s i (j + 1) n
      keep n u e = record { inside = omega arith; most = omega arith; past = λ k. omega (arith, w.past u); here = λ k. omega (arith, w.here u); on = λ k. absurd (omega arith) }

      found : (n : ℕ) → 32 ≤ m → n ≡ j → t (get_or s (i + j) 0) ≡ true → Least t s i (j + 1) n
      found n u e y =
          let at = find_here t s (i + j) (omega arith) y in
          record { inside = omega arith; most = omega arith; past = λ k. omega arith; here = λ k. omega (arith, w.on u, at); on = λ k. absurd (omega arith) }

      goes : (n : ℕ) → 32 ≤ m → n ≡ 32 → t (get_or s (i + j) 0) ≡ false → Least t s i (j + 1) n
      goes n u e y =
          record { inside = omega arith; most = omega arith; past = λ k. absurd (omega arith); here = λ k. absurd (omega arith); on = λ k. w.on u ∙ find-next t s (i + j) (omega arith) y ∙ further i j }

      go : (y : Bool) → t (get_or s (i + j) 0) ≡ y → (u : Bool) → ltb m 32 ≡ u → Least t s i (j + 1) (min (hit_place y j) m)
      go true e true f = keep _ (ltb-true m 32 f) (omega (arith, w.past (ltb-true m 32 f)))
      go true e false f = found _ (ltb-false m 32 f) (omega (arith, ltb-false m 32 f)) e
      go false e true f = keep _ (ltb-true m 32 f) (omega (arith, ltb-true m 32 f))
      go false e false f = goes _ (ltb-false m 32 f) (omega (arith, ltb-false m 32 f, w.most)) e

  pub least_step : (i j m p n : ℕ) → n ≡ min m p → Placed (t (get_or s (i + j) 0)) j p → Least t s i j m → i + 32 ≤ length s → Least t s i (j + 1) n
  least_step i j m p n e gp w h = let z : n ≡ min p m = omega (arith, e) in rw (z, gp.answer) (least_again i j m h gp.inside w)

  pub least_stage : (i j m : ℕ) → 32 ≤ j → Least t s i j m → Stage t s i (i + 32) (i + m)
  least_stage i j m l w =
      let e : j ≡ 32 = omega (arith, w.inside) in
      record { low = omega arith; high = omega (arith, w.most); before = λ k. w.here (omega arith); after = λ k. w.on (omega arith) ∙ ap (λ (n : ℕ). find t s (i + n)) e }

  -- ---- a search that goes on from place to place
  pub reach_first : (i e : ℕ) → i ≤ e → Reaches t s i e i
  reach_first i e h = record { low = omega arith; high = h; same = refl }

  pub reach_again : (i e k : ℕ) (y : Bool) → Reaches t s i e k → k < e → e ≤ length s → y ≡ false → Gives (t (get_or s k 0)) y → Reaches t s i e (k + 1)
  reach_again i e k y w l h f g = record { low = omega (arith, w.low); high = omega arith; same = w.same ∙ find-next t s k (omega arith) (sym g.answer ∙ f) }

  pub reach_found : (i e k : ℕ) (y : Bool) → Reaches t s i e k → k < e → e ≤ length s → y ≡ true → Gives (t (get_or s k 0)) y → Stage t s i e k
  reach_found i e k y w l h f g =
      record { low = w.low; high = omega arith; before = λ u. w.same ∙ find_here t s k (omega arith) (sym g.answer ∙ f); after = λ u. absurd (omega arith) }

  pub reach_end : (i e k : ℕ) → Reaches t s i e k → e ≤ k → Stage t s i e e
  reach_end i e k w h =
      let at : k ≡ e = omega (arith, w.high) in
      record { low = omega (arith, w.low); high = omega arith; before = λ u. absurd (omega arith); after = λ u. w.same ∙ ap (find t s) at }

  -- over a block that is clear
  pub reach_clear : (i e k w : ℕ) (r : Bool) → Reaches t s i e k → w ≤ e - k → 0 < w → r ≡ false → Clear t s k w r → Reaches t s i e (k + w)
  reach_clear i e k w r a l h f c = record { low = omega (arith, a.low); high = omega (arith, a.high); same = a.same ∙ c.clear f }

  -- in a text of n bytes: over a stage of 32 with no hit, and to the hit of one that has it
  module _ (i k m n : ℕ) (w : Reaches t s i (max i (length s)) k) (all : n ≡ length s) (room : 32 ≤ n - k) (g : Stage t s k (k + 32) (k + m)) where
    pub reach_on : 32 ≤ m → Reaches t s i (max i (length s)) (k + 32)
    reach_on l = record { low = omega (arith, w.low); high = omega arith; same = w.same ∙ g.after (omega arith) }

    pub reach_hit : m < 32 → Reaches t s i (max i (length s)) (k + m)
    reach_hit l =
        let at = g.before (omega arith) in
        record { low = omega (arith, w.low); high = omega arith; same = w.same ∙ find_from t s k (k + m) (omega arith) (omega arith) (omega (arith, at)) }

  -- ---- a walk through the whole text
  pub seeks_whole : (i k r : ℕ) → Seeks t s i k → length s ≤ k → (i ≤ length s → k ≤ length s) → r ≡ max i (length s) → Sought t s i r
  seeks_whole i k r w l h e = by (decide (ltb (length s) i))
    where
      by : (ltb (length s) i ≡ true) ⊎ (ltb (length s) i ≡ false) → Sought t s i r
      by (inl u) = sought t s i r (find_end t s i (omega (arith, ltb-true (length s) i u)) ∙ omega (arith, ltb-true (length s) i u, e))
      by (inr u) =
          let v = ltb-false (length s) i u in
          sought t s i r (w.same ∙ find_end t s k l ∙ omega (arith, h v, e))

  -- ---- stages that are put together
  -- an answer before the stage's end
  pub sought_near : (i e r : ℕ) → r < e → Stage t s i e r → Sought t s i r
  sought_near i e r l g = sought t s i r (g.before l)

  -- an answer of the first 32 bytes, and one beyond them
  module _ (i m : ℕ) (g : Stage t s i (i + 32) (i + m)) where
    pub sought_block : m < 32 → Sought t s i (i + m)
    sought_block l = sought t s i (i + m) (g.before (omega arith))

    pub sought_beyond : (r : ℕ) → 32 ≤ m → Sought t s (i + 32) r → Sought t s i r
    sought_beyond r l w = sought t s i r (g.after (omega arith) ∙ sym w.here)

  -- a stage up to the text's end
  pub sought_last : (i r : ℕ) → Stage t s i (length s) r → Sought t s i r
  sought_last i r g = by (decide (ltb r (length s)))
    where
      by : (ltb r (length s) ≡ true) ⊎ (ltb r (length s) ≡ false) → Sought t s i r
      by (inl u) = sought t s i r (g.before (ltb-true r (length s) u))
      by (inr u) =
          let v = ltb-false r (length s) u in
          let at : length s ≡ r = omega (arith, g.high) in
          sought t s i r (g.after v ∙ find_end t s (length s) (omega arith) ∙ at)

  pub sought_from : (i e k r : ℕ) → Reaches t s i e k → Sought t s k r → Sought t s i r
  sought_from i e k r w g = sought t s i r (w.same ∙ sym g.here)

-- ---- a test is another
module _ (t t' : ℕ → Bool) (same : t ≡ t') (s : List ℕ) where
  pub sought_same : (i r : ℕ) → Sought t s i r → Sought t' s i r
  sought_same i r w = subst (λ (u : ℕ → Bool). Sought u s i r) same w

  pub stage_same : (i e r : ℕ) → Stage t s i e r → Stage t' s i e r
  stage_same i e r w = subst (λ (u : ℕ → Bool). Stage u s i e r) same w

  pub reaches_same : (i e k : ℕ) → Reaches t s i e k → Reaches t' s i e k
  reaches_same i e k w = subst (λ (u : ℕ → Bool). Reaches u s i e k) same w

pub ruleset sought_rules = (sought_past, sought_near, sought_block, sought_beyond, sought_last, sought_from)

-- Laws of a scan that remembers: that it moves on, its loop, and that by a memory which tells the truth it finds the regions of the text. Assumes nothing.
use Rattle.std.proofs.Math.Path.{◌≡◌, refl, subst}
use Rattle.std.proofs.Common.{sym as inv, ap, ◌∙◌, inl, inr, not-suc-le-zero, arith, length-set, get_or-set_same, get_or-set_other, ltb-true, ltb-false, le-ltb, leb-true, eqb-true}
use Rattle.std.specs.Prelude.{Bool, true, false, cond, ◌⊎◌, eqb, ltb, leb, get_or, set, replicate, None, Option, Some}
use mathlib.Core.List.{List, [], ◌∷◌}
use Prim.Native.Nat.{ℕ, zero, suc, ◌+◌, ◌-◌, ◌≤◌, ◌<◌}
use Rattle.std.proofs.Math.ListN.{length}
use Rattle.std.proofs.lemmas.List.{length-replicate, get_or-replicate}
use Rattle.std.proofs.lemmas.Bool.{eqb-false}
use Rattle.search.specs.Promise.{Gives}
use Rattle.search.specs.Search.{find, after_run, is, other}
use Rattle.search.specs.SearchLaws.{decide, clash, past_end, is_yes, other_no, find_ge, find_le, find_at, find_end}
use Rattle.common.specs.Rules.{entry}
use Rattle.common.specs.Turn.{Turn, go, stop, found, then_scan, scan, first_turn}
use Rattle.common.specs.Turning.{Ahead, Last}
use Rattle.common.specs.TurnLaws.{scan_last}
use Rattle.rules.specs.Grammar.{Rule, plain, sym, asym, Gram}
use Rattle.region.specs.Region.{Caused, region_of}
use Rattle.region.specs.Regions.{escaped, sym_turn, asym_turn, pair_of, inline, fenced, region_turn, next_region}
use Rattle.region.specs.Sight.{Sight, turned, lost}
use Rattle.region.specs.Views.{view_turn, FoundRegion, view_next, found_region}
use Rattle.region.specs.Memory.{kept_pair, kept_inline, kept_turn, Remembered, then_kept, kept_scan, kept_next, KeptNext}
use Rattle.region.specs.Ahead.{Lies, run_past, region_turn-ahead}
use Rattle.region.specs.NextLaws.{turn_found}
use Rattle.region.specs.Dead.{OutsideRun, asym_dead, sym_dead}
use Rattle.region.specs.declared.Cause.{Cause}
use Rattle.region.specs.declared.Cause.TheVariants.{Symmetric, Asymmetric}
use Rattle.region.specs.declared.Turn.{Turn as Step}
use Rattle.region.specs.declared.Turn.TheVariants as step
use Rattle.region.specs.declared.Region.{Region as Told}
use Rattle.region.specs.declared.Region.{Region}

-- what a turn is to a scan that doesn't remember
abbrev bare : Sight → Turn Caused
bare (turned t) = t
bare (lost b r u) = go r

-- ---- a turn that remembers is the plain turn, or passes an opener whose close was sought in vain
module _ (P : Turn Caused → Type 0) where
  open_by : (x y z : Bool) (k : Cause) (i p b r : ℕ) (t : Turn ℕ) → P (cond x (go (p + 1)) (cond y (pair_of k i p r t) (go r))) → (z ≡ true → P (pair_of k i p r t) → P (go r))
      → P (bare (cond x (turned (go (p + 1))) (cond y (cond z (turned (go r)) (kept_pair k i p b r t)) (turned (go r)))))
  open_by true y z k i p b r t h w = h
  open_by false false z k i p b r t h w = h
  open_by false true true k i p b r t h w = w refl h
  open_by false true false k i p b r (go n) h w = h
  open_by false true false k i p b r (stop u) h w = h
  open_by false true false k i p b r (found e n) h w = h

module _ (g : Gram) (s m : List ℕ) where
  -- the end of the run that begins at p
  abbrev own_end : ℕ → ℕ
  own_end p = after_run (get_or s p 0) s p

  -- that P may pass the opener at p
  abbrev MayPass : (Turn Caused → Type 0) → ℕ → Rule → Type 0
  MayPass P p plain = Unit {0}
  MayPass P p (sym i count) = P (pair_of Symmetric i p (own_end p) (first_turn (sym_turn g s (get_or s p 0) count) (length s) (own_end p))) → P (go (own_end p))
  MayPass P p (asym i c count) = P (pair_of Asymmetric i p (own_end p) (first_turn (asym_turn g s c) (length s) (own_end p))) → P (go (own_end p))

  inline_by_lem : (P : Turn Caused → Type 0) (p : ℕ) (u : Rule) → P (inline g s p (get_or s p 0) u) → (leb (own_end p) (entry 0 m (get_or s p 0)) ≡ true → MayPass P p u) → P (bare (kept_inline g s m p (get_or s p 0) u))
  unfolding inline kept_inline
  inline_by_lem P p plain h w = h
  inline_by_lem P p (sym i count) h w =
      open_by P (escaped g s p) (eqb (own_end p - p) count) (leb (own_end p) (entry 0 m (get_or s p 0))) Symmetric i p (get_or s p 0) (own_end p) (first_turn (sym_turn g s (get_or s p 0) count) (length s) (own_end p)) h w
  inline_by_lem P p (asym i c count) h w =
      open_by P (escaped g s p) (eqb (own_end p - p) count) (leb (own_end p) (entry 0 m (get_or s p 0))) Asymmetric i p (get_or s p 0) (own_end p) (first_turn (asym_turn g s c) (length s) (own_end p)) h w

  turn_by : (P : Turn Caused → Type 0) (q : ℕ) → P (region_turn g s q)
      → ((p : ℕ) → q ≤ p → p < length s → leb (own_end p) (entry 0 m (get_or s p 0)) ≡ true → MayPass P p (g.rule (get_or s p 0)))
      → P (bare (kept_turn g s m q))
  unfolding region_turn kept_turn
  turn_by P q h w =
      by (ltb (find g.trigger s q) (length s)) refl (g.fences.opens s (find g.trigger s q)) h
    where
      p : ℕ
      p = find g.trigger s q

      by : (x : Bool) → ltb p (length s) ≡ x → (y : Bool) → P (cond x (cond y (fenced g s p) (inline g s p (get_or s p 0) (g.rule (get_or s p 0)))) (stop q))
          → P (bare (cond x (cond y (turned (fenced g s p)) (kept_inline g s m p (get_or s p 0) (g.rule (get_or s p 0)))) (turned (stop q))))
      by false e y h = h
      by true e true h = h
      by true e false h = inline_by_lem P p (g.rule (get_or s p 0)) h (λ z. w p (find_ge g.trigger s q) (ltb-true p (length s) e) z)

-- ---- every turn moves on, whatever the memory
module _ (g : Gram) (s : List ℕ) where
  -- the run of the byte at p ends after p, within the text, and not at that byte
  run_ends : (p : ℕ) → p < length s → (p < own_end g s [] p) × (own_end g s [] p ≤ length s)
  run_ends p l = (run_past (get_or s p 0) s p l refl, find_le (other (is (get_or s p 0))) s p (omega arith))

  pub kept-ahead : (m : List ℕ) (q : ℕ) → q ≤ length s → Ahead Lies q (length s) (bare (kept_turn g s m q))
  kept-ahead m q h = turn_by g s m (Ahead Lies q (length s)) q ((region_turn-ahead g s).ahead q h) (λ p i l z. by p i l (g.rule (get_or s p 0)))
    where
      by : (p : ℕ) → q ≤ p → p < length s → (u : Rule) → MayPass g s m (Ahead Lies q (length s)) p u
      by p i l plain = tt
      by p i l (sym j count) = λ w. (omega (arith, run_ends p l), (run_ends p l).1)
      by p i l (asym j c count) = λ w. (omega (arith, run_ends p l), (run_ends p l).1)

  -- ---- the loop
  kept_fuel : (f f' : ℕ) (m : List ℕ) (q : ℕ) → q ≤ length s → length s - q < f → length s - q < f' → kept_scan g s f m q ≡ kept_scan g s f' m q
  unfolding kept_scan
  kept_fuel zero f' m q h l l' = absurd (not-suc-le-zero l)
  kept_fuel (suc f) zero m q h l l' = absurd (not-suc-le-zero l')
  kept_fuel (suc f) (suc f') m q h l l' = by (kept_fuel f f') (kept_turn g s m q) (kept-ahead m q h)
    where
      by : ((m : List ℕ) (n : ℕ) → n ≤ length s → length s - n < f → length s - n < f' → kept_scan g s f m n ≡ kept_scan g s f' m n) → (t : Sight) → Ahead Lies q (length s) (bare t) → then_kept (kept_scan g s f) m t ≡ then_kept (kept_scan g s f') m t
      by ih (turned (go n)) a = ih m n a.1 (omega arith) (omega arith)
      by ih (turned (stop v)) a = refl
      by ih (turned (found r n)) a = refl
      by ih (lost b n u) a = ih (set m b u) n a.1 (omega arith) (omega arith)

  kept-turn : (m : List ℕ) (q : ℕ) → q ≤ length s → kept_next g s m q ≡ then_kept (kept_next g s) m (kept_turn g s m q)
  unfolding kept_scan
  kept-turn m q h = by (kept_turn g s m q) (kept-ahead m q h)
    where
      by : (t : Sight) → Ahead Lies q (length s) (bare t) → then_kept (kept_scan g s (length s)) m t ≡ then_kept (kept_next g s) m t
      by (turned (go n)) a = kept_fuel (length s) (suc (length s)) m n a.1 (omega arith) (omega arith)
      by (turned (stop v)) a = refl
      by (turned (found r n)) a = refl
      by (lost b n u) a = kept_fuel (length s) (suc (length s)) (set m b u) n a.1 (omega arith) (omega arith)

-- ---- a memory that tells the truth from q on: where it says that the close of b's rule was sought in vain, it would be from every later end of a run of b
abbrev pub Vain : Gram → List ℕ → ℕ → ℕ → Rule → Type 0
Vain g s b r plain = Unit {0}
Vain g s b r (sym i count) = (u : ℕ) × (first_turn (sym_turn g s b count) (length s) r ≡ stop u)
Vain g s b r (asym i c count) = (u : ℕ) × (first_turn (asym_turn g s c) (length s) r ≡ stop u)

pub record Sound (g : Gram) (s m : List ℕ) (q : ℕ) : Type 0 where
  pub vain : (b r : ℕ) → q < r → r ≤ entry 0 m b → OutsideRun g s b r → Vain g s b r (g.rule b)

module _ (g : Gram) (s : List ℕ) where
  -- a memory of nothing
  pub sound_fresh : (m : List ℕ) (q : ℕ) → ((b : ℕ) → entry 0 m b ≡ 0) → Sound g s m q
  sound_fresh m q z = record { vain = λ b r h l a. absurd (omega (arith, z b)) }

  pub sound_zeros : (q : ℕ) → Sound g s (replicate 256 0) q
  sound_zeros q = sound_fresh (replicate 256 0) q (λ b. by b (decide (ltb b 256)))
    where
      by : (b : ℕ) → (ltb b 256 ≡ true) ⊎ (ltb b 256 ≡ false) → ◌≡◌ {A = ℕ} (entry 0 (replicate 256 0) b) 0
      by b (inl u) = get_or-replicate 256 b 0 0 (ltb-true b 256 u)
      by b (inr u) = inv (past_end (replicate 256 0) b (omega (arith, length-replicate {A = ℕ} 256 0, ltb-false b 256 u)))

  pub sound_later : (m : List ℕ) (q n : ℕ) → q ≤ n → Sound g s m q → Sound g s m n
  sound_later m q n h w = record { vain = λ b r l i a. w.vain b r (omega arith) i a }

  -- a run ends where its byte is another
  run_apart : (b p : ℕ) → OutsideRun g s b (find (other (is b)) s p)
  run_apart b p l e = clash (find_at (other (is b)) s p l) (other_no (is b) (get_or s (find (other (is b)) s p) 0) (is_yes b (get_or s (find (other (is b)) s p) 0) e))

  -- its turn is the plain turn
  pub sound_turn : (m : List ℕ) (q : ℕ) → Sound g s m q → bare (kept_turn g s m q) ≡ region_turn g s q
  sound_turn m q w = turn_by g s m (λ t. t ≡ region_turn g s q) q refl (λ p i l z. by p i l z (g.rule (get_or s p 0)) (w.vain (get_or s p 0) (own_end g s m p) (omega (arith, run_ends g s p l)) (leb-true _ _ z) (run_apart (get_or s p 0) p)))
    where
      by : (p : ℕ) → q ≤ p → p < length s → leb (own_end g s m p) (entry 0 m (get_or s p 0)) ≡ true → (u : Rule) → Vain g s (get_or s p 0) (own_end g s m p) u → MayPass g s m (λ t. t ≡ region_turn g s q) p u
      by p i l z plain v = tt
      by p i l z (sym j count) v = λ e. ap (pair_of Symmetric j p (own_end g s m p)) (inv v.1) ∙ e
      by p i l z (asym j c count) v = λ e. ap (pair_of Asymmetric j p (own_end g s m p)) (inv v.1) ∙ e

  -- what a turn learns is true
  abbrev Halts : ℕ → ℕ → ℕ → Rule → Type 0
  Halts b r u plain = Unit {0}
  Halts b r u (sym i count) = first_turn (sym_turn g s b count) (length s) r ≡ stop u
  Halts b r u (asym i c count) = first_turn (asym_turn g s c) (length s) r ≡ stop u

  abbrev Learns : Sight → Type 0
  Learns (turned t) = Unit {0}
  Learns (lost b r u) = Halts b r u (g.rule b)

  open_learns : (x y z : Bool) (k : Cause) (i p b r : ℕ) (t : Turn ℕ) → ((u : ℕ) → t ≡ stop u → Halts b r u (g.rule b)) → Learns (cond x (turned (go (p + 1))) (cond y (cond z (turned (go r)) (kept_pair k i p b r t)) (turned (go r))))
  open_learns true y z k i p b r t w = tt
  open_learns false false z k i p b r t w = tt
  open_learns false true true k i p b r t w = tt
  open_learns false true false k i p b r (go n) w = tt
  open_learns false true false k i p b r (stop u) w = w u refl
  open_learns false true false k i p b r (found e n) w = tt

  turn_learns : (m : List ℕ) (q : ℕ) → Learns (kept_turn g s m q)
  unfolding kept_turn kept_inline
  turn_learns m q = by (ltb p (length s)) (g.fences.opens s p) (g.rule (get_or s p 0)) refl
    where
      p : ℕ
      p = find g.trigger s q

      by : (x y : Bool) (u : Rule) → g.rule (get_or s p 0) ≡ u → Learns (cond x (cond y (turned (fenced g s p)) (kept_inline g s m p (get_or s p 0) u)) (turned (stop q)))
      by false y u e = tt
      by true true u e = tt
      by true false plain e = tt
      by true false (sym i count) e =
          open_learns (escaped g s p) (eqb (own_end g s m p - p) count) (leb (own_end g s m p) (entry 0 m (get_or s p 0))) Symmetric i p (get_or s p 0) (own_end g s m p) (first_turn (sym_turn g s (get_or s p 0) count) (length s) (own_end g s m p))
          (λ v z. subst (Halts (get_or s p 0) (own_end g s m p) v) (inv e) z)
      by true false (asym i c count) e =
          open_learns (escaped g s p) (eqb (own_end g s m p - p) count) (leb (own_end g s m p) (entry 0 m (get_or s p 0))) Asymmetric i p (get_or s p 0) (own_end g s m p) (first_turn (asym_turn g s c) (length s) (own_end g s m p))
          (λ v z. subst (Halts (get_or s p 0) (own_end g s m p) v) (inv e) z)

  -- from r on the close of b's rule is sought in vain up to u
  halts_vain : (b r u k : ℕ) (t : Rule) → Halts b r u t → r ≤ k → k ≤ u → r ≤ length s → OutsideRun g s b k → Vain g s b k t
  halts_vain b r u k plain e h l i a = tt
  halts_vain b r u k (sym j count) e h l i a = (u, sym_dead g s b count u r k a h l i e)
  halts_vain b r u k (asym j c count) e h l i a = (u, asym_dead g s c u r k h l i e)

  pub sound_lost : (m : List ℕ) (q b r u : ℕ) → q ≤ r → r ≤ length s → Halts b r u (g.rule b) → Sound g s m q → Sound g s (set m b u) r
  sound_lost m q b r u h i e w = record { vain = λ c k l o a. by c k l o a (decide (eqb c b)) (decide (ltb b (length m))) }
    where
      by : (c k : ℕ) → r < k → k ≤ entry 0 (set m b u) c → OutsideRun g s c k → (eqb c b ≡ true) ⊎ (eqb c b ≡ false) → (ltb b (length m) ≡ true) ⊎ (ltb b (length m) ≡ false) → Vain g s c k (g.rule c)
      by c k l o a (inl x) (inl y) =
          let z : c ≡ b = eqb-true c b x in
          let o' : k ≤ entry 0 (set m b u) b = subst (λ (d : ℕ). k ≤ entry 0 (set m b u) d) z o in
          let n : k ≤ u = omega (arith, get_or-set_same m b u 0 (ltb-true b (length m) y)) in
          subst (λ (d : ℕ). Vain g s d k (g.rule d)) (inv z) (halts_vain b r u k (g.rule b) e (omega arith) n i (subst (λ (d : ℕ). OutsideRun g s d k) z a))
      by c k l o a (inl x) (inr y) =
          let z : c ≡ b = eqb-true c b x in
          let n : 0 ≡ entry 0 (set m b u) c = past_end (set m b u) c (omega (arith, length-set m b u, ltb-false b (length m) y)) in
          absurd (omega arith)
      by c k l o a (inr x) y = w.vain c k (omega arith) (omega (arith, get_or-set_other m b c u 0 (eqb-false c b x))) a

  -- by such a memory the next region is found, and it is such a memory behind it
  record Truly (m : List ℕ) (q : ℕ) (t : Turn Caused) (k : Remembered) : Type 0 where
    same : k.turn ≡ t
    on : (r : Caused) (n : ℕ) → k.turn ≡ found r n → Sound g s k.memory n
    off : (v : ℕ) → k.turn ≡ stop v → Sound g s k.memory (length s)

  kept_true : (f : ℕ) (m : List ℕ) (q : ℕ) → q ≤ length s → Sound g s m q → Truly m q (scan (region_turn g s) f q) (kept_scan g s f m q)
  unfolding scan kept_scan
  kept_true zero m q h w = record { same = refl; on = λ r n e. absurd (let z : ◌≡◌ {A = ℕ} 0 1 = cc in omega arith); off = λ v e. sound_later m q (length s) h w }
  kept_true (suc f) m q h w = subst (λ (t : Turn Caused). Truly m q (then_scan (scan (region_turn g s) f) t) (then_kept (kept_scan g s f) m (kept_turn g s m q))) (sound_turn m q w) (by (kept_true f) (kept_turn g s m q) (kept-ahead g s m q h) (turn_learns m q))
    where
      by : ((m : List ℕ) (n : ℕ) → n ≤ length s → Sound g s m n → Truly m n (scan (region_turn g s) f n) (kept_scan g s f m n)) → (t : Sight) → Ahead Lies q (length s) (bare t) → Learns t → Truly m q (then_scan (scan (region_turn g s) f) (bare t)) (then_kept (kept_scan g s f) m t)
      by ih (turned (go n)) a l = let i = ih m n a.1 (sound_later m q n (omega arith) w) in record { same = i.same; on = i.on; off = i.off }
      by ih (turned (stop v)) a l = record { same = refl; on = λ r n e. absurd (let z : ◌≡◌ {A = ℕ} 0 1 = cc in omega arith); off = λ x e. sound_later m q (length s) h w }
      by ih (turned (found r n)) a l = record { same = refl; on = λ r' n' e. let z : n ≡ n' = cc in subst (Sound g s m) z (sound_later m q n (omega arith) w); off = λ v e. absurd (let z : ◌≡◌ {A = ℕ} 0 1 = cc in omega arith) }
      by ih (lost b n u) a l = let i = ih (set m b u) n a.1 (sound_lost m q b n u (omega arith) a.1 l w) in record { same = i.same; on = i.on; off = i.off }

  module _ (m : List ℕ) (q : ℕ) (h : q ≤ length s) (w : Sound g s m q) (d : Option (Region × ℕ)) (m' : List ℕ) (k : KeptNext g s m q d m') where
    pub keeps_told : Gives (found_region (next_region g s q)) (view_next d)
    keeps_told = record { answer = k.answer ∙ ap found_region (kept_true (suc (length s)) m q h w).same }

    pub keeps_ended : d ≡ None → Sound g s m' (length s)
    keeps_ended e = subst (λ (x : List ℕ). Sound g s x (length s)) (inv k.memory) (none (kept_next g s m q).turn refl (subst (Last Lies q (length s)) (inv (kept_true (suc (length s)) m q h w).same) (scan_last (region_turn-ahead g s) (λ q n m r i x. (omega arith, x.1, x.2)) (suc (length s)) q h)) (inv (ap view_next e) ∙ k.answer))
      where
        none : (t : Turn Caused) → (kept_next g s m q).turn ≡ t → Last Lies q (length s) t → [] ≡ found_region t → Sound g s (kept_next g s m q).memory (length s)
        none (go n) x l z = absurd l
        none (stop v) x l z = (kept_true (suc (length s)) m q h w).off v x
        none (found a n) x l z = let y : ◌≡◌ {A = ℕ} 0 1 = cc in absurd (omega arith)

    pub keeps_sound : (r : Told) (n : ℕ) → d ≡ Some (r, n) → Sound g s m' n
    keeps_sound r n e =
        subst (λ (x : List ℕ). Sound g s x n) (inv k.memory) ((kept_true (suc (length s)) m q h w).on (region_of r) n (turn_found (region_of r) n (kept_next g s m q).turn (inv (ap view_next e) ∙ k.answer)))

-- ---- a view is of one answer: the answer is read back from it
told_of : Caused → Told
told_of r = record { start = r.start; end = r.stop; cause = r.tag.cause; index = r.tag.index; closed = r.tag.closed }

answer_of : List FoundRegion → Option (Region × ℕ)
answer_of [] = None
answer_of (p ∷ l) = Some (told_of p.region, p.next)

next-back : (d : Option (Region × ℕ)) → answer_of (view_next d) ≡ d
unfolding answer_of told_of
next-back (Some (r, n)) = refl
next-back None = refl

-- two answers with one view are one
pub view_unique : (d d' : Option (Region × ℕ)) → view_next d ≡ view_next d' → d ≡ d'
view_unique d d' e = inv (next-back d) ∙ ap answer_of e ∙ next-back d'

-- two answers to the same step are one, and so are the memories after it
pub keeps_unique : {g : Gram} {s m : List ℕ} {q : ℕ} {d d' : Option (Region × ℕ)} {m' m'' : List ℕ} → KeptNext g s m q d m' → KeptNext g s m q d' m'' → (d ≡ d') × (m' ≡ m'')
keeps_unique {d = d} {d' = d'} h k = (view_unique d d' (h.answer ∙ inv k.answer), h.memory ∙ inv k.memory)

-- ---- the code's loop: it began at `from` with a memory m₀, and stands at q with m
pub record Recalls (g : Gram) (s m₀ : List ℕ) (from : ℕ) (m : List ℕ) (q : ℕ) : Type 0 where
  pub inside : q ≤ length s
  pub same : kept_next g s m₀ from ≡ kept_next g s m q

pub recalls_first : (g : Gram) (s m : List ℕ) (q : ℕ) → q ≤ length s → Recalls g s m q m q
recalls_first g s m q h = record { inside = h; same = refl }

-- from a place past the text there is no region, and nothing is learnt
pub recalls_past : (g : Gram) (s m : List ℕ) (from : ℕ) → length s < from → KeptNext g s m from None m
unfolding kept_scan kept_turn
recalls_past g s m from h =
    let e : find g.trigger s from ≡ from = find_end g.trigger s from (omega arith) in
    record { answer = simp (e, le-ltb from (length s) (omega arith)); memory = simp (e, le-ltb from (length s) (omega arith)) }

-- what the turn is comes first in each rule: it settles the turn, which the goal doesn't show
module _ (g : Gram) (s m₀ : List ℕ) (from : ℕ) (m : List ℕ) (q : ℕ) (d : Step) where
  at_turn : (x : Sight) → view_turn d ≡ x → Recalls g s m₀ from m q → Gives (kept_turn g s m q) (view_turn d) → kept_next g s m₀ from ≡ then_kept (kept_next g s) m x
  at_turn x e i t = i.same ∙ kept-turn g s m q i.inside ∙ ap (then_kept (kept_next g s) m) (inv t.answer ∙ e)

  on : (x : Sight) → view_turn d ≡ x → Recalls g s m₀ from m q → Gives (kept_turn g s m q) (view_turn d) → Ahead Lies q (length s) (bare x)
  on x e i t = subst (λ (y : Sight). Ahead Lies q (length s) (bare y)) (inv t.answer ∙ e) (kept-ahead g s m q i.inside)

  module _ (n : ℕ) (e : d ≡ step.Go n) (i : Recalls g s m₀ from m q) (t : Gives (kept_turn g s m q) (view_turn d)) where
    pub recalls_less : length s - n < length s - q
    recalls_less = omega (arith, on (turned (go n)) (ap view_turn e) i t, i.inside)

    pub recalls_go : Recalls g s m₀ from m n
    recalls_go = record { inside = (on (turned (go n)) (ap view_turn e) i t).1; same = at_turn (turned (go n)) (ap view_turn e) i t }

  module _ (b n u : ℕ) (e : d ≡ step.Lost b n u) (i : Recalls g s m₀ from m q) (t : Gives (kept_turn g s m q) (view_turn d)) where
    pub recalls_lost_less : length s - n < length s - q
    recalls_lost_less = omega (arith, on (lost b n u) (ap view_turn e) i t, i.inside)

    pub recalls_lost : Recalls g s m₀ from (set m b u) n
    recalls_lost = record { inside = (on (lost b n u) (ap view_turn e) i t).1; same = at_turn (lost b n u) (ap view_turn e) i t }

  pub recalls_stop : (v : ℕ) → d ≡ step.Stop v → Recalls g s m₀ from m q → Gives (kept_turn g s m q) (view_turn d) → KeptNext g s m₀ from None m
  recalls_stop v e i t = let w = at_turn (turned (stop v)) (ap view_turn e) i t in record { answer = rw w; memory = rw w }

  pub recalls_found : (r : Told) (n : ℕ) → d ≡ step.Made r n → Recalls g s m₀ from m q → Gives (kept_turn g s m q) (view_turn d) → KeptNext g s m₀ from (Some (r, n)) m
  recalls_found r n e i t = let w = at_turn (turned (found (region_of r) n)) (ap view_turn e) i t in record { answer = rw w; memory = rw w }

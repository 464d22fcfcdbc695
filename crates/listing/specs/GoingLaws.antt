-- The rules of a loop that steps a state and puts a line for each thing that comes. Assumes nothing.
use Rattle.std.specs.Prelude.{◌≡◌, refl, Bool, true, false, Err, None, Ok, Option, Result}
use Rattle.std.specs.Result.{result_unwrap_or}
use Rattle.std.proofs.Math.Path.{sym, ap}
use Rattle.std.proofs.Common.{◌∙◌, arith, length-append}
use mathlib.Core.List.{List, [], ◌∷◌, ◌++◌, map, append_assoc, append-nil}
use Prim.Native.Nat.{ℕ, zero, suc, ◌+◌, ◌-◌, ◌≤◌, ◌<◌}
use Rattle.std.proofs.Math.ListN.{length, length-map}
use Rattle.search.specs.Promise.{Steps}
use Rattle.common.specs.Entry.{put_at}
use Rattle.common.specs.EntryLaws.{length_put, put_append}
use Rattle.common.specs.Refusals.{Outcome, refuse}
use Rattle.common.specs.declared.refusal.Refusal.{Refusal}
use Rattle.common.specs.Items.{step_for}
use Rattle.common.specs.Turn.{Step, yields, ends, then_drain, drain}
use Rattle.listing.specs.Lines.{line, lines}
use Rattle.put.specs.Put.{Laid, LaidWithin}
use Rattle.listing.specs.Room.{Room}
use Rattle.listing.specs.Going.{map_step, value_step, Reads, Yields, Going}

-- lines of what is made of each thing
pub lines-map : {A B : Type 0} (letter : ℕ) (row : B → List ℕ) (f : A → B) (l : List A) → lines letter row (map f l) ≡ lines letter (λ a. row (f a)) l
lines-map letter row f [] = refl
lines-map letter row f (a ∷ l) = ap (λ (x : List ℕ). line letter (row (f a)) ++ x) (lines-map letter row f l)

-- ---- steps with other things
pub drain-map : {A B S : Type 0} (f : A → B) (next : S → Step A S) (next' : S → Step B S) → ((g : S) → next' g ≡ map_step f (next g)) → (n : ℕ) (g : S) → drain next' n g ≡ map f (drain next n g)
unfolding drain
drain-map f next next' same zero g = refl
drain-map {A} {B} {S} f next next' same (suc n) g = ap (then_drain (drain next' n)) (same g) ∙ by (drain-map f next next' same n) (next g)
  where
    by : ((h : S) → drain next' n h ≡ map f (drain next n h)) → (t : Step A S) → then_drain (drain next' n) (map_step f t) ≡ map f (then_drain (drain next n) t)
    by ih (yields a h) = ap (λ (l : List B). f a ∷ l) (ih h)
    by ih (ends h) = refl

module _ {S : Type 0} {step : S → Step (List ℕ) S} where
  pub yields_all : {g : S} {l : List (List ℕ)} → ((n : ℕ) → length l ≤ n → drain step n g ≡ l) → Yields step g l
  yields_all {l = l} f = record { fuel = length l; drains = f (suc (length l)) (omega arith); enough = omega arith }

  yields_next : {g g' : S} {v : List ℕ} {l : List (List ℕ)} → Yields step g l → step g ≡ yields v g' → (r : List (List ℕ)) × (l ≡ v ∷ r) × Yields step g' r
  unfolding drain
  yields_next {g} {g'} {v} {l} w e = by w.fuel (sym w.drains ∙ ap (then_drain (drain step w.fuel)) e) w.enough
    where
      by : (f : ℕ) → l ≡ v ∷ drain step f g' → length l ≤ f → (r : List (List ℕ)) × (l ≡ v ∷ r) × Yields step g' r
      by zero x h = absurd (omega (arith, ap length x))
      by (suc f) x h = (drain step (suc f) g', x, record { fuel = f; drains = refl; enough = omega (arith, ap length x) })

  yields_none : {g g' : S} {l : List (List ℕ)} → Yields step g l → step g ≡ ends g' → l ≡ []
  unfolding drain
  yields_none w e = sym w.drains ∙ ap (then_drain (drain step w.fuel)) e

  module _ {letter : ℕ} {row : List ℕ → List ℕ} where
    pub going_first : {g : S} {l : List (List ℕ)} {all : List ℕ} {n : ℕ} {out : List ℕ} → all ≡ lines letter row l → Yields step g l → Room n all → Going step letter row all n out g out n
    going_first {l = l} e w h = record { rest = l; left = w; done = []; whole = e; here = omega arith; list = refl; room = h }

    module _ {all : List ℕ} {n₀ k : ℕ} {out₀ out : List ℕ} {g : S} (i : Going step letter row all n₀ out₀ g out k) where
      -- a line that is still to come fits
      going_size : {g' : S} {v : List ℕ} → step g ≡ yields v g' → k + length (line letter (row v)) ≤ 1000000
      going_size {g'} {v} e =
          let y = yields_next i.left e in
          omega (arith, i.here, i.room.fits, ap length (i.whole ∙ ap (λ (l : List (List ℕ)). i.done ++ lines letter row l) y.1), length-append i.done (line letter (row v) ++ lines letter row y.0), length-append (line letter (row v)) (lines letter row y.0))

      pub going_here : k ≤ 1000000
      going_here = omega (arith, i.here, i.room.fits, ap length i.whole, length-append i.done (lines letter row i.rest))

      module _ {g' : S} {v : List ℕ} {m k' : ℕ} {out' : List ℕ} (e : step g ≡ yields v g') (p : LaidWithin m (line letter (row v)) k out out' k') where
        pub going_again : Going step letter row all n₀ out₀ g' out' k'
        going_again =
            let y = yields_next i.left e in
            let b = line letter (row v) in
            record {
              rest = y.0;
              left = y.2;
              done = i.done ++ b;
              whole = i.whole ∙ ap (λ (l : List (List ℕ)). i.done ++ lines letter row l) y.1 ∙ sym (append_assoc i.done b (lines letter row y.0));
              here = omega (arith, p.laid.next, i.here, length-append i.done b);
              list = p.laid.list ∙ rw (i.list, i.here) (sym (put_append n₀ i.done b out₀));
              room = i.room;
            }

        pub going_less : 1000000 - k' < 1000000 - k
        going_less = omega (arith, going_size e, p.laid.next)

      pub going_end : {g' : S} → step g ≡ ends g' → Laid all n₀ out₀ out k
      going_end e =
          let z : all ≡ i.done = i.whole ∙ ap (λ (l : List (List ℕ)). i.done ++ lines letter row l) (yields_none i.left e) ∙ append-nil i.done in
          record { next = i.here ∙ ap (λ (l : List ℕ). n₀ + length l) (sym z); list = i.list ∙ ap (λ (l : List ℕ). put_at n₀ l out₀) (sym z) }

      pub going_same : length out ≡ length out₀
      going_same = ap length i.list ∙ length_put n₀ i.done out₀

-- ---- the ways through a loop over a scanner: f is a step's answer, e what a `match` told that it is, and `told` what such a value says
module _ (S : Type 0) {F : Type 0} (told : F → Outcome) (answer : S → Outcome) (state : S → S) where
  value_step_lem : (g : S) {n : S} {f e : F} → f ≡ e → Steps (answer g) (state g) (told f) n → value_step answer state g ≡ step_for (λ v. v) (told e).values n
  unfolding value_step
  value_step_lem g {n} m w = ap (step_for (λ v. v) (answer g).values) (sym w.next) ∙ ap (λ (o : Outcome). step_for (λ v. v) o.values n) (sym w.answer) ∙ ap (λ (f : F). step_for (λ v. v) (told f).values n) m

  module _ {letter : ℕ} {row : List ℕ → List ℕ} {all : List ℕ} {n₀ k : ℕ} {out₀ out : List ℕ} {g : S} (i : Going (value_step answer state) letter row all n₀ out₀ g out k) {f e : F} {n : S} (m : f ≡ e)
      (w : Steps (answer g) (state g) (told f) n) where
    pub lines_again : step_for (λ v. v) (told e).values n ≡ yields (told e).values n → {b k' : ℕ} {out' : List ℕ} → LaidWithin b (line letter (row (told e).values)) k out out' k' → Going (value_step answer state) letter row all n₀ out₀ n out' k'
    lines_again y v = going_again i (value_step_lem g m w ∙ y) v

    pub lines_less : step_for (λ v. v) (told e).values n ≡ yields (told e).values n → {b k' : ℕ} {out' : List ℕ} → LaidWithin b (line letter (row (told e).values)) k out out' k' → 1000000 - k' < 1000000 - k
    lines_less y v = going_less i (value_step_lem g m w ∙ y) v

    pub lines_end : step_for (λ v. v) (told e).values n ≡ ends n → Laid all n₀ out₀ out k
    lines_end y = going_end i (value_step_lem g m w ∙ y)

-- ---- the same where a refusal is counted as nothing: f is a step's answer, o what it found, e what a `match` told that o is
module _ (S : Type 0) {A : Type 0} (told : Result (Option A) Refusal → Outcome) (denied : (r : Refusal) → (told (Err r)).values ≡ (told (Ok None)).values) (answer : S → Outcome) (state : S → S) where
  told_values : (f : Result (Option A) Refusal) {o : Option A} → o ≡ result_unwrap_or f None → (told f).values ≡ (told (Ok o)).values
  told_values (Ok x) q = ap (λ (o : Option A). (told (Ok o)).values) (sym q)
  told_values (Err r) q = denied r ∙ ap (λ (o : Option A). (told (Ok o)).values) (sym q)

  unwrapped_step : (g : S) {n : S} {f : Result (Option A) Refusal} {o e : Option A} → o ≡ result_unwrap_or f None → o ≡ e → Steps (answer g) (state g) (told f) n → value_step answer state g ≡ step_for (λ v. v) (told (Ok e)).values n
  unwrapped_step g {n} {f} q m w = value_step_lem S told answer state g refl w ∙ ap (λ (v : List ℕ). step_for (λ v. v) v n) (told_values f q ∙ ap (λ (o : Option A). (told (Ok o)).values) m)

  module _ {letter : ℕ} {row : List ℕ → List ℕ} {all : List ℕ} {n₀ k : ℕ} {out₀ out : List ℕ} {g : S} (i : Going (value_step answer state) letter row all n₀ out₀ g out k) {f : Result (Option A) Refusal} {o e : Option A} {n : S}
      (q : o ≡ result_unwrap_or f None) (m : o ≡ e) (w : Steps (answer g) (state g) (told f) n) where
    same_values : (told f).values ≡ (told (Ok e)).values
    same_values = told_values f q ∙ ap (λ (o : Option A). (told (Ok o)).values) m

    pub unwrapped_again : step_for (λ v. v) (told (Ok e)).values n ≡ yields (told (Ok e)).values n → {b k' : ℕ} {out' : List ℕ} → LaidWithin b (line letter (row (told (Ok e)).values)) k out out' k'
        → Going (value_step answer state) letter row all n₀ out₀ n out' k'
    unwrapped_again y v = lines_again S told answer state i refl w (rw same_values y) (rw (← same_values) at v)

    pub unwrapped_less : step_for (λ v. v) (told (Ok e)).values n ≡ yields (told (Ok e)).values n → {b k' : ℕ} {out' : List ℕ} → LaidWithin b (line letter (row (told (Ok e)).values)) k out out' k' → 1000000 - k' < 1000000 - k
    unwrapped_less y v = lines_less S told answer state i refl w (rw same_values y) (rw (← same_values) at v)

    pub unwrapped_end : step_for (λ v. v) (told (Ok e)).values n ≡ ends n → Laid all n₀ out₀ out k
    unwrapped_end y = going_end i (unwrapped_step g q m w ∙ y)

-- ---- the beginning of such a loop, of things that have values and are read back from them
module _ {S A : Type 0} (values : A → List ℕ) (back : List ℕ → A) where
  pub reads_refuse : (k : ℕ) (b : Bool) (o : Outcome) → Reads S values back o.values → Reads S values back (refuse k b o).values
  reads_refuse k true o r n = refl
  reads_refuse k false o r n = r n

  module _ (answer : S → Outcome) (state : S → S) (reads : (g : S) → Reads S values back (answer g).values) where
    pub yields_values : (g : S) (l : List A) → ((n : ℕ) → length l ≤ n → drain (λ k. step_for back (answer k).values (state k)) n g ≡ l) → Yields (value_step answer state) g (map values l)
    unfolding value_step
    yields_values g l run =
        yields_all (λ n h.
        drain-map values (λ k. step_for back (answer k).values (state k)) (value_step answer state) (λ k. reads k (state k)) n g ∙ ap (map values) (run n (omega (arith, length-map l values))))

-- Laws of lists in a run of numbers: the ways out of filling. Assumes nothing.
use Rattle.std.specs.Prelude.{◌≡◌, refl, Bool, true, false, cond, List, [], ◌∷◌, ℕ, ◌/◌, ◌≤◌, ◌<◌, length}
use Rattle.std.proofs.Common.{◌∙◌, arith, lt-ltb, le-ltb}
use Rattle.search.specs.Promise.{Gives}
use Rattle.common.specs.Entry.{room}
use Rattle.common.specs.Refusals.{Outcome, given, refused, refuse, served, too_long}
use Rattle.common.specs.Lists.{Wrote, crowded, filled_answer, build_answer, count_answer, Filled}

-- `most` is the room
module _ {A : Type 0} (flat : A → List ℕ) (w : ℕ) (l : List A) (out : List ℕ) (most : ℕ) (hm : most ≡ length out / w) where
  pub fill_full : (found : ℕ) → most < found → Gives (length l) found → Filled flat w l out out (refused 3)
  fill_full found h g =
      let t : crowded w l out ≡ true = lt-ltb (length out / w) (length l) (omega (arith, g.answer)) in
      record { answer = simp t; list = simp t }

  pub fill_done : (out' : List ℕ) (n : ℕ) → length l ≤ most → Wrote flat l out out' n → Filled flat w l out out' (given (n ∷ []))
  fill_done out' n h v =
      let t : crowded w l out ≡ false = le-ltb (length out / w) (length l) (omega arith) in
      record { answer = simp (t, v.count); list = v.list ∙ simp t }

  pub fill_counted : (found : ℕ) (out' : List ℕ) (n : ℕ) → found ≤ most → Gives (length l) found → Wrote flat l out out' n → Filled flat w l out out' (given (n ∷ []))
  fill_counted found out' n h g v = fill_done out' n (omega (arith, g.answer)) v

  -- there is room
  pub room-counted : (found : ℕ) → found ≤ most → Gives (length l) found → length l ≤ room w out
  room-counted found h g = omega (arith, g.answer)

-- building answers what counting answers, but for a list with less room than was counted, which is 3
pub build_by_count : {A : Type 0} (w : ℕ) (differing : Bool) (l : List A) (s out : List ℕ)
    → build_answer w differing l s out ≡ cond (served (count_answer differing l s)) (refuse 3 (crowded w l out) (count_answer differing l s)) (count_answer differing l s)
unfolding build_answer count_answer
build_by_count w differing l s out = by (too_long s) differing
  where
    counted : Bool → Bool → Outcome
    counted long bad = refuse 1 long (refuse 6 bad (given (length l ∷ [])))

    by : (long bad : Bool) → refuse 1 long (refuse 6 bad (filled_answer w l out)) ≡ cond (served (counted long bad)) (refuse 3 (crowded w l out) (counted long bad)) (counted long bad)
    by true bad = refl
    by false true = refl
    by false false = refl

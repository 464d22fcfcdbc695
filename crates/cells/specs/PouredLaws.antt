-- Laws of lists poured into a run of bytes: that a promise leaves one result, and the ways out of pouring and of building. Assumes nothing.
use Rattle.std.specs.Prelude.{◌≡◌, Bool, true, List, [], ◌∷◌, ◌⊎◌, ℕ, ◌/◌, ◌≤◌, ◌<◌, eqb, leb, length}
use Rattle.std.proofs.Math.Path.{refl, sym, subst}
use Rattle.std.proofs.Common.{◌∙◌, inl, inr}
use Rattle.std.proofs.Math.Bool.{false}
use Rattle.std.proofs.Math.Dec.{ltb}
use borrow.Author.Tests.{lt-ltb, le-ltb, leb-true, leb-false}
use Rattle.search.specs.Promise.{Gives}
use Rattle.search.specs.SearchLaws.{decide}
use Rattle.common.specs.Entry.{flatten}
use Rattle.common.specs.Refusals.{Outcome, given, refused}
use Rattle.common.specs.Lists.{Wrote, filled_answer, build_answer, count_answer}
use Rattle.cells.specs.Reply.{fitted, Replied}
use Rattle.cells.specs.Poured.{ListRuns, Poured, PouredAs, BuiltAs, CountedAs}
use Rattle.cells.specs.ReplyLaws.{replied_unique, refused_by, reply_short, enough, too_short}

-- two results for the same arguments are one
pub poured_unique : {o : Outcome} {l : List ℕ} {before after after' : ListRuns} {r r' : ℕ} → Poured o l before after r → Poured o l before after' r' → (r ≡ r') × (after.answer ≡ after'.answer) × (after.list ≡ after'.list)
poured_unique a b =
    let e = replied_unique a.reply b.reply in
    (e.0, e.1, a.left ∙ sym b.left)

-- ---- the ways out of pouring: m is how many numbers the answer run has room for, y whether the list has room for all
pub poured_off : (n : ℕ) (l : List ℕ) (lent : ListRuns) → eqb n 0 ≡ false → Poured (refused n) l lent lent n
unfolding fitted
poured_off n l lent e = record { reply = refused_by n lent.answer e; left = simp e }

-- there is room
pub pour_room : {A : Type 0} (l : List A) (w : ℕ) (out : List ℕ) (y : Bool) → y ≡ true → Gives (leb (length l) (length out / w)) y → length l ≤ length out / w
pour_room l w out y e f = leb-true (length l) (length out / w) (sym f.answer ∙ e)

module _ {A : Type 0} (flat : A → List ℕ) (w : ℕ) (l : List A) (lent : ListRuns) where
  -- the answer run is too short: then it is 3, whatever the list's room
  pub pour_short : (m : ℕ) → m ≤ 1 → Gives (length lent.answer / 4) m → PouredAs flat w l lent lent 3
  unfolding fitted
  pour_short m k room = by (decide (ltb (length lent.list / w) (length l)))
    where
      by : (ltb (length lent.list / w) (length l) ≡ true) ⊎ (ltb (length lent.list / w) (length l) ≡ false) → PouredAs flat w l lent lent 3
      by (inl u) = rw u (poured_off 3 (flatten flat l) lent refl)
      by (inr u) = rw u (record { reply = reply_short (length l ∷ []) lent.answer m room k; left = simp (too_short (length l ∷ []) lent.answer m room k) })

  module _ (y : Bool) (f : Gives (leb (length l) (length lent.list / w)) y) where
    pub pour_full : y ≡ false → PouredAs flat w l lent lent 3
    pour_full e =
        let t : ltb (length lent.list / w) (length l) ≡ true = lt-ltb (length lent.list / w) (length l) (leb-false (length l) (length lent.list / w) (sym f.answer ∙ e)) in
        rw t (poured_off 3 (flatten flat l) lent refl)

    pub pour_done : (after : ListRuns) (m k r : ℕ) → y ≡ true → 1 < m → Gives (length lent.answer / 4) m → Wrote flat l lent.list after.list k → Replied (given (k ∷ [])) lent.answer after.answer r → PouredAs flat w l lent after r
    unfolding fitted
    pour_done after m k r e q n v d =
        let t : ltb (length lent.list / w) (length l) ≡ false = le-ltb (length lent.list / w) (length l) (pour_room l w lent.list y e f) in
        let o : filled_answer w l lent.list ≡ given (k ∷ []) = rw (t, v.count) in
        subst (λ (x : Outcome). Poured x (flatten flat l) lent after r) (sym o) (record { reply = d; left = v.list ∙ simp (enough (k ∷ []) lent.answer m n q) })

-- ---- the ways out of building: b says whether a rule's columns differ
module _ {A : Type 0} (flat : A → List ℕ) (w : ℕ) (bad : Bool) (l : List A) (s : List ℕ) (lent : ListRuns) where
  off : (n : ℕ) → eqb n 0 ≡ false → build_answer w bad l s lent.list ≡ refused n → BuiltAs flat w bad l s lent lent n
  off n e x = subst (λ (o : Outcome). Poured o (flatten flat l) lent lent n) (sym x) (poured_off n (flatten flat l) lent e)

  pub build_long : 4294967295 < length s → BuiltAs flat w bad l s lent lent 1
  unfolding build_answer
  build_long h = off 1 refl (simp (lt-ltb 4294967295 (length s) h))

  pub build_bad : (b : Bool) → length s ≤ 4294967295 → b ≡ true → Gives bad b → BuiltAs flat w bad l s lent lent 6
  unfolding build_answer
  build_bad b h e g = off 6 refl (simp (le-ltb 4294967295 (length s) h, sym g.answer ∙ e))

  pub build_good : (b : Bool) (after : ListRuns) (r : ℕ) → length s ≤ 4294967295 → b ≡ false → Gives bad b → PouredAs flat w l lent after r → BuiltAs flat w bad l s lent after r
  unfolding build_answer
  build_good b after r h e g d =
      let x : build_answer w bad l s lent.list ≡ filled_answer w l lent.list = simp (le-ltb 4294967295 (length s) h, sym g.answer ∙ e) in
      subst (λ (o : Outcome). Poured o (flatten flat l) lent after r) (sym x) d

-- ---- the ways out of counting
module _ {A : Type 0} (bad : Bool) (l : List A) (s run : List ℕ) where
  not_counted : (n : ℕ) → eqb n 0 ≡ false → count_answer bad l s ≡ refused n → CountedAs bad l s run run n
  not_counted n e x = subst (λ (o : Outcome). Replied o run run n) (sym x) (refused_by n run e)

  pub count_long : 4294967295 < length s → CountedAs bad l s run run 1
  unfolding count_answer
  count_long h = not_counted 1 refl (simp (lt-ltb 4294967295 (length s) h))

  pub count_bad : (b : Bool) → length s ≤ 4294967295 → b ≡ true → Gives bad b → CountedAs bad l s run run 6
  unfolding count_answer
  count_bad b h e g = not_counted 6 refl (simp (le-ltb 4294967295 (length s) h, sym g.answer ∙ e))

  pub count_good : (b : Bool) (run' : List ℕ) (r : ℕ) → length s ≤ 4294967295 → b ≡ false → Gives bad b → Replied (given (length l ∷ [])) run run' r → CountedAs bad l s run run' r
  unfolding count_answer
  count_good b run' r h e g d =
      let x : count_answer bad l s ≡ given (length l ∷ []) = simp (le-ltb 4294967295 (length s) h, sym g.answer ∙ e) in
      subst (λ (o : Outcome). Replied o run run' r) (sym x) d

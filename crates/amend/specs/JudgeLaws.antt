-- Laws of judging an edit and its cuts: the ways out of the functions that do, and what a verdict tells. Assumes nothing.
use Rattle.std.specs.Prelude.{◌≡◌, refl, Bool, true, false, ◌||◌, ℕ, suc, ◌+◌, ◌-◌, ◌≤◌, ◌<◌, length, take, drop, Err, Ok, Result}
use Rattle.std.proofs.Math.Path.{sym, ap}
use Rattle.std.proofs.Common.{◌∙◌, arith, length-append, length-take, length-drop}
use mathlib.Core.List.{List, [], ◌++◌}
use borrow.Author.Tests.{lt-ltb, le-ltb, ltb-false, eq-eqb}
use Rattle.search.specs.Promise.{Gives}
use Rattle.search.specs.SearchLaws.{clash, neither}
use Rattle.common.specs.Refusals.{Outcome, given, refused, refuse, too_long, number_of, read}
use Rattle.common.specs.RefusalLaws.{number_some, read-refused, told_unique}
use Rattle.common.specs.declared.refusal.Refusal.{Refusal}
use Rattle.cover.specs.Shape.{misshapen}
use Rattle.amend.specs.Amend.{Edit}
use Rattle.amend.specs.Amended.{regions_in, edit, edited, miscut, off_joint, judged_edit, judged}
use Rattle.amend.specs.Parts.{Fair, told_verdict, JudgedEdit, Judged}

-- ---- chains of refusals
-- a refusal is not served
pub not_given : (q : Refusal) → refused (number_of q) ≡ given [] → ⊥
not_given q e = clash (eq-eqb (number_of q) 0 (ap (λ (o : Outcome). o.number) e)) (number_some q)

-- what has the number 0 is served
pub number_given : (o : Outcome) → o.number ≡ 0 → o ≡ given o.values
number_given o e = ap (λ (k : ℕ). record { number = k; values = o.values }) e

-- what a chain refuses before its end it refuses with any end
pub refuse-same : (k : Outcome) (n : ℕ) (b : Bool) (o o' : Outcome) → (o ≡ k → o' ≡ k) → refuse n b o ≡ k → refuse n b o' ≡ k
refuse-same k n true o o' f e = e
refuse-same k n false o o' f e = f e

-- a chain that comes to its end has passed every test
pub refuse_pass : (n : ℕ) (b : Bool) (o : Outcome) (l : List ℕ) → refuse (suc n) b o ≡ given l → (b ≡ false) × (o ≡ given l)
refuse_pass n true o l e =
    let z : suc n ≡ 0 = ap (λ (x : Outcome). x.number) e in
    absurd (omega arith)
refuse_pass n false o l e = (refl, e)

-- ---- one verdict
verdict_back : (v : Result Unit Refusal) → read (λ l. (Ok tt)) Err (told_verdict v) ≡ v
unfolding read
verdict_back (Ok tt) = refl
verdict_back (Err r) = read-refused (λ l. (Ok tt)) Err r

-- two verdicts on the same arguments are one
pub judged-edit_unique : {s : List ℕ} {e : Edit} {unequal : Bool} {v v' : Result Unit Refusal} → JudgedEdit s e unequal v → JudgedEdit s e unequal v' → v ≡ v'
judged-edit_unique a b = told_unique told_verdict (read (λ l. (Ok tt)) Err) verdict_back (record { answer = a.answer }) (record { answer = b.answer })

-- ---- the first four refusals
pub edited-length : (s : List ℕ) (first second : ℕ) (r : List ℕ) → first ≤ second → second ≤ length s → length (edited (edit first second r) s) ≡ length s - (second - first) + length r
edited-length s first second r h k =
    let a = length-append (take first s) (r ++ drop second s) in
    let b = length-append r (drop second s) in
    let c = length-take first s in
    let d = length-drop second s in
    omega arith

module _ (s : List ℕ) (first second : ℕ) (r : List ℕ) (unequal : Bool) (o : Outcome) where
  pub judged_old : 4294967295 < length s → refused 1 ≡ judged_edit s (edit first second r) unequal o
  unfolding judged_edit
  judged_old h = simp (lt-ltb 4294967295 (length s) h)

  module _ (a : length s ≤ 4294967295) where
    pub judged-text : 4294967295 < length r → refused 1 ≡ judged_edit s (edit first second r) unequal o
    unfolding judged_edit
    judged-text h = simp (le-ltb 4294967295 (length s) a, lt-ltb 4294967295 (length r) h)

    module _ (b : length r ≤ 4294967295) where
      texts : (too_long s || too_long r) ≡ false
      texts = rw (le-ltb 4294967295 (length s) a, le-ltb 4294967295 (length r) b)

      pub judged-columns : unequal ≡ true → refused 6 ≡ judged_edit s (edit first second r) unequal o
      unfolding judged_edit
      judged-columns h = simp (texts, h)

      module _ (c : unequal ≡ false) where
        pub judged_order : second < first → refused 4 ≡ judged_edit s (edit first second r) unequal o
        unfolding judged_edit
        judged_order h = simp (texts, c, lt-ltb second first h)

        module _ (d : first ≤ second) where
          pub judged-past : length s < second → refused 4 ≡ judged_edit s (edit first second r) unequal o
          unfolding judged_edit
          judged-past h = simp (texts, c, le-ltb second first d, lt-ltb (length s) second h)

          module _ (e : second ≤ length s) where
            cuts : miscut s (edit first second r) ≡ false
            cuts = rw (le-ltb second first d, le-ltb (length s) second e)

            pub judged-edited : 4294967295 < length s - (second - first) + length r → refused 1 ≡ judged_edit s (edit first second r) unequal o
            unfolding judged_edit
            judged-edited h = simp (texts, c, cuts, lt-ltb 4294967295 (length (edited (edit first second r) s)) (omega (arith, edited-length s first second r d e)))

            pub judged-edit : length s - (second - first) + length r ≤ 4294967295 → o ≡ judged_edit s (edit first second r) unequal o
            unfolding judged_edit
            judged-edit f = simp (texts, c, cuts, le-ltb 4294967295 (length (edited (edit first second r) s)) (omega (arith, edited-length s first second r d e)))

module _ (s : List ℕ) (e : Edit) (unequal : Bool) where
  -- what they refuse they refuse whatever follows
  pub edit-same : (k o o' : Outcome) → (o ≡ k → o' ≡ k) → judged_edit s e unequal o ≡ k → judged_edit s e unequal o' ≡ k
  unfolding judged_edit
  edit-same k o o' f = refuse-same k 1 (too_long s || too_long e.text) _ _ (refuse-same k 6 unequal _ _ (refuse-same k 4 (miscut s e) _ _ (refuse-same k 1 (too_long (edited e s)) o o' f)))

  -- what is known where they are passed
  pub edit-passed : (o : Outcome) (l : List ℕ) → judged_edit s e unequal o ≡ given l → ((too_long s || too_long e.text) ≡ false) × (unequal ≡ false) × (miscut s e ≡ false) × (too_long (edited e s) ≡ false) × (o ≡ given l)
  unfolding judged_edit
  edit-passed o l z =
      let a = refuse_pass 0 (too_long s || too_long e.text) _ l z in
      let b = refuse_pass 5 unequal _ l a.1 in
      let c = refuse_pass 3 (miscut s e) _ l b.1 in
      let d = refuse_pass 0 (too_long (edited e s)) o l c.1 in
      (a.0, b.0, c.0, d.0, d.1)

  pub edit_on : judged_edit s e unequal (given []) ≡ given [] → (o : Outcome) → judged_edit s e unequal o ≡ o
  unfolding judged_edit
  edit_on z o = let p = edit-passed (given []) [] z in simp (p.0, p.1, p.2, p.3)

-- ---- the next three, where a verdict v has told of the first four
module _ (eol : ℕ) (s l : List ℕ) (n first second : ℕ) (r : List ℕ) (unequal marked : Bool) (v : Result Unit Refusal) where
  pub judged_early : (q : Refusal) → v ≡ Err q → JudgedEdit s (edit first second r) unequal v → Judged eol s l n (edit first second r) unequal marked (Err q)
  unfolding judged
  judged_early q d j =
      let z = sym j.answer ∙ ap told_verdict d in
      record { answer = sym (edit-same s (edit first second r) unequal (refused (number_of q)) (given []) _ (λ x. absurd (not_given q (sym x))) z) }

  module _ (d : v ≡ (Ok tt)) (j : JudgedEdit s (edit first second r) unequal v) where
    fine : judged_edit s (edit first second r) unequal (given []) ≡ given []
    fine = sym j.answer ∙ ap told_verdict d

    module _ (y : Bool) where
      pub judged-list : y ≡ true → Gives (misshapen l n (length s)) y → refused 5 ≡ judged eol s l n (edit first second r) unequal marked (given [])
      unfolding judged
      judged-list h g = sym (edit_on s (edit first second r) unequal fine _ ∙ simp (← g.answer, h))

      module _ (i : y ≡ false) (g : Gives (misshapen l n (length s)) y) where
        pub judged-marked : marked ≡ true → refused 9 ≡ judged eol s l n (edit first second r) unequal marked (given [])
        unfolding judged
        judged-marked h = sym (edit_on s (edit first second r) unequal fine _ ∙ simp (← g.answer, i, h))

        -- a list that is looked at for joints is fair
        pub judged_fair : Fair l n (length s)
        judged_fair =
            let p = edit-passed s (edit first second r) unequal (given []) [] fine in
            record { shape = sym g.answer ∙ i; short = ltb-false 4294967295 (length s) (neither (too_long s) (too_long r) p.0).0 }

        module _ (k : marked ≡ false) (z : Bool) where
          pub judged-joint : z ≡ true → Gives (off_joint eol s (regions_in n l) first second) z → refused 7 ≡ judged eol s l n (edit first second r) unequal marked (given [])
          unfolding judged
          judged-joint h m = sym (edit_on s (edit first second r) unequal fine _ ∙ simp (← g.answer, i, k, ← m.answer, h))

          pub judged_fine : z ≡ false → Gives (off_joint eol s (regions_in n l) first second) z → given [] ≡ judged eol s l n (edit first second r) unequal marked (given [])
          unfolding judged
          judged_fine h m = sym (edit_on s (edit first second r) unequal fine _ ∙ simp (← g.answer, i, k, ← m.answer, h))

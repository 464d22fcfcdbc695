-- Mission demand 3, proved: from its conditions alone the amendment answers the count, and its list is the one built afresh; a list that was
-- built is amended under these conditions only. Assumes nothing.
use Rattle.std.specs.Prelude.{◌≡◌, refl, Bool, true, ◌||◌, ◌&&◌, List, [], ◌∷◌, ◌⊎◌, ℕ, ◌-◌, ◌≤◌, ltb, eqb, get_or, Ok, Result}
use Rattle.std.proofs.Common.{sym, subst, ◌∙◌, arith}
use Rattle.std.proofs.Math.Path.{ap}
use Rattle.std.proofs.Math.Bool.{false, not}
use Rattle.std.proofs.Math.Logic.{inl, inr}
use Rattle.std.proofs.Math.ListN.{length, length-map}
use borrow.Author.Tests.{le-ltb, lt-ltb, le-leb, ne_eqb, ltb-true, ltb-false, eqb-true, eqb-false, not-false}
use Rattle.search.specs.Search.{is, holds}
use Rattle.search.specs.SearchLaws.{decide, is_yes, holds_in, neither}
use Rattle.common.specs.Entry.{room, wide}
use Rattle.common.specs.Lists.{build_answer}
use Rattle.common.specs.Refusals.{given, too_long, told}
use Rattle.common.specs.RefusalLaws.{answer_unique}
use Rattle.common.specs.declared.grammar.Grammar.{Grammar}
use Rattle.region.specs.Region.{Region, Listed, as_listed}
use Rattle.region.specs.Regions.{regions}
use Rattle.rules.specs.Columns.{Columns, unequal, gram_of}
use Rattle.context.specs.Build.{built_answer, Built}
use Rattle.amend.specs.Amend.{Edit, joint, Joint}
use Rattle.amend.specs.Several.{EndsAtJoint}
use Rattle.amend.specs.Lists.{reaches_zero}
use Rattle.amend.specs.Amended.{regions_in, list_regions, edited, off_joint, left_open, amended_list, judged_edit, judged, settled_answer, amend_answer, amended_answer, Amended}
use Rattle.amend.specs.Edits.{joint-cut}
use Rattle.amend.specs.JudgeLaws.{refuse_pass}
use Rattle.amend.specs.Theorem.{built_told, built_holds, built_shaped, Admitted, accepted-told, same, Rebuilt, amend_is_rebuild}
use Rattle.amend.specs.DemandThree.{ShutEnd, Conditions, region_count, Agree, DemandThree}
use Rattle.common.specs.declared.refusal.Refusal.{Refusal}

-- ---- they are what is tested
and_no : (b : Bool) → (b && false) ≡ false
and_no true = refl
and_no false = refl

shut_sound : {T : Type 0} (eol : ℕ) (build : List ℕ → List (Region T)) (r : List ℕ) → ShutEnd eol build r → EndsAtJoint eol build r
unfolding joint
shut_sound eol build r (inl z) = rw (z, reaches_zero (build r))
shut_sound eol build r (inr w) =
    let h = w.0 in
    let a : holds (is eol) r (length r - 1) ≡ true = holds_in (is eol) r (length r - 1) (omega arith) ∙ is_yes eol (get_or r (length r - 1) 0) w.1 in
    let b : holds (is eol) r (length r - 2) ≡ true = holds_in (is eol) r (length r - 2) (omega arith) ∙ is_yes eol (get_or r (length r - 2) 0) w.2 in
    let d : eqb (length r) 0 ≡ false = ne_eqb (length r) 0 (λ e. omega arith) in
    rw (d, le-leb 2 (length r) h, a, b, w.3)

sound_shut : {T : Type 0} (eol : ℕ) (build : List ℕ → List (Region T)) (r : List ℕ) → EndsAtJoint eol build r → ShutEnd eol build r
sound_shut eol build r j = by (decide (eqb (length r) 0))
  where
    by : (eqb (length r) 0 ≡ true) ⊎ (eqb (length r) 0 ≡ false) → ShutEnd eol build r
    by (inl u) = inl (eqb-true (length r) 0 u)
    by (inr u) =
        let d = joint-cut eol r (build r) (length r) j in
        let w = d.two (omega (arith, eqb-false (length r) 0 u)) in
        inr (w.0, w.1, w.2, d.clear)

-- how many regions the edited text has
abbrev afresh_count : Grammar → Columns → List ℕ → Edit → ℕ
afresh_count g c old e = region_count g c (edited e old)

module _ {g : Grammar} {c : Columns} {old run l : List ℕ} {n : ℕ} {e : Edit} (b : Built g c old run l (told (Ok n))) (w : Conditions g c old (regions_in n l) e) where
  on_joints : off_joint g.eol old (regions_in n l) e.first e.second ≡ false
  unfolding off_joint
  on_joints = by w.stop
    where
      by : (e.second ≡ length old) ⊎ Joint g.eol old (regions_in n l) e.second → (not (joint g.eol old (regions_in n l) e.first) || (ltb e.second (length old) && not (joint g.eol old (regions_in n l) e.second))) ≡ false
      by (inl z) = rw (w.start, le-ltb e.second (length old) (omega arith))
      by (inr j) = rw (w.start, j) (and_no (ltb e.second (length old)))

  closed : left_open g.eol (list_regions (gram_of g c)) (length old) e ≡ false
  unfolding left_open joint
  closed = by (decide (ltb e.second (length old)))
    where
      by : (ltb e.second (length old) ≡ true) ⊎ (ltb e.second (length old) ≡ false) → (ltb e.second (length old) && not (joint g.eol e.text (list_regions (gram_of g c) e.text) (length e.text))) ≡ false
      by (inl u) = rw (u, shut_sound g.eol (list_regions (gram_of g c)) e.text (w.shut (ltb-true e.second (length old) u)))
      by (inr u) = rw u

  meeting : Admitted g c old l n e
  meeting = record { cuts = (w.rising, w.within); free = w.apart; joints = on_joints; shut = closed }

  -- the amendment answers the count of the edited text's regions, where a region has `width` numbers of the list that is left
  pub amend_serves_by : (width : ℕ) (differing : Bool) (out : List ℕ) → differing ≡ false → afresh_count g c old e ≤ room width out
      → amend_answer g c old l n e width differing out ≡ given (afresh_count g c old e ∷ [])
  unfolding amend_answer judged judged_edit settled_answer
  amend_serves_by width differing out d h =
      let x = same g c old l n e meeting (built_holds b) in
      let size = length-map (regions (gram_of g c) (edited e old)) as_listed in
      rw (
        (built_told b).short,
        le-ltb 4294967295 (length e.text) w.replacement,
        d,
        le-ltb e.second e.first w.rising,
        le-ltb (length old) e.second w.within,
        le-ltb 4294967295 (length (edited e old)) w.finished,
        built_shaped b,
        w.apart,
        on_joints,
        closed,
        x,
        size,
        le-ltb (room width out) (afresh_count g c old e) h,
      )

  pub amend_serves : (out : List ℕ) → afresh_count g c old e ≤ room wide out → amended_answer g c old l n e out ≡ given (afresh_count g c old e ∷ [])
  unfolding amended_answer
  amend_serves out h = amend_serves_by wide (unequal c) out (built_told b).equal h

-- ---- nothing less is served
module _ {g : Grammar} {c : Columns} {old run l : List ℕ} {n : ℕ} {e : Edit} (b : Built g c old run l (told (Ok n))) (out : List ℕ) (k : ℕ)
    (served : given (k ∷ []) ≡ amended_answer g c old l n e out) where
  -- where a list was built, the amendment answers a count only where the conditions hold and there is room
  pub serves_only : Conditions g c old (regions_in n l) e × (k ≡ afresh_count g c old e) × (afresh_count g c old e ≤ room wide out)
  unfolding amended_answer amend_answer judged judged_edit settled_answer off_joint left_open joint
  serves_only =
      let a = accepted-told g c old l n e out k served in
      let m = a.meets in
      let long = neither (too_long old) (too_long e.text) (refuse_pass 0 (too_long old || too_long e.text) _ (k ∷ []) (sym served)).0 in
      let j = neither (not (joint g.eol old (regions_in n l) e.first)) _ m.joints in
      let size : k ≡ afresh_count g c old e = a.count ∙ ap length (same g c old l n e m (built_holds b)) ∙ length-map (regions (gram_of g c) (edited e old)) as_listed in (
        record {
          replacement = ltb-false 4294967295 (length e.text) long.1;
          finished = ltb-false 4294967295 (length (edited e old)) a.short;
          rising = m.cuts.0;
          within = m.cuts.1;
          apart = m.free;
          start = not-false _ j.0;
          stop = stopping (decide (ltb e.second (length old))) m.cuts.1 j.1;
          shut = λ h. sound_shut g.eol (list_regions (gram_of g c)) e.text (not-false _ (rw (lt-ltb e.second (length old) h) at m.shut));
        },
        size,
        omega (arith, size, a.count, ltb-false (room wide out) (length (amended_list g c old l n e)) a.fits),
      )
    where
      stopping : (ltb e.second (length old) ≡ true) ⊎ (ltb e.second (length old) ≡ false) → e.second ≤ length old → (ltb e.second (length old) && not (joint g.eol old (regions_in n l) e.second)) ≡ false → (e.second ≡ length old) ⊎ Joint g.eol old (regions_in n l) e.second
      stopping (inl u) h x = inr (not-false _ (rw u at x))
      stopping (inr u) h x = inl (omega (arith, ltb-false e.second (length old) u))

-- ---- the theorem
-- of a list that was built, by the conditions with that list
pub built_agrees : {g : Grammar} {c : Columns} {old run l : List ℕ} {n : ℕ} {e : Edit} {out out' blank fresh : List ℕ} {r a : Result ℕ Refusal}
    → Built g c old run l (told (Ok n))
    → Conditions g c old (regions_in n l) e
    → afresh_count g c old e ≤ room wide out
    → afresh_count g c old e ≤ room wide blank
    → Amended g c old l n e out out' (told r)
    → Built g c (edited e old) blank fresh (told a)
    → Agree (afresh_count g c old e) out out' blank fresh r a
built_agrees {g} {c} {old} {run} {l} {n} {e} {out} {out'} {blank} {fresh} {r} {a} b w h i m f =
    let k = afresh_count g c old e in
    let served : amended_answer g c old l n e out ≡ told (Ok k) = amend_serves b w out h in
    let z : r ≡ Ok k = answer_unique {o = amended_answer g c old l n e out} (record { answer = m.answer }) (record { answer = sym served }) in
    let m' : Amended g c old l n e out out' (told (Ok k)) = subst (λ (x : Result ℕ Refusal). Amended g c old l n e out out' (told x)) z m in
    let v : Rebuilt k out out' blank fresh a = amend_is_rebuild b m' f in
    record { amended = z; built = v.count i; cells = v.places i; whole = λ y. (v.whole y).1 }

-- ---- with no answer assumed
-- building answers the count of the text's regions where the text is within the limit, the columns agree and there is room
pub build_serves : {g : Grammar} {c : Columns} {s out l : List ℕ} {a : Result ℕ Refusal} → length s ≤ 4294967295 → unequal c ≡ false → length (regions (gram_of g c) s) ≤ room wide out
    → Built g c s out l (told a) → a ≡ Ok (length (regions (gram_of g c) s))
unfolding built_answer build_answer
build_serves {g} {c} {s} {out} {l} {a} h u r b =
    let k = length (regions (gram_of g c) s) in
    let x : given (k ∷ []) ≡ built_answer g c s out = rw (le-ltb 4294967295 (length s) h, u, le-ltb (room wide out) k r) in
    answer_unique {o = built_answer g c s out} (record { answer = b.answer }) (record { answer = x })

pub demand_three : DemandThree
demand_three g c old run l e out out' blank fresh q r a short u roomy w h i b m f =
    let n = length (regions (gram_of g c) old) in
    let z = build_serves short u roomy b in
    let b' : Built g c old run l (told (Ok n)) = subst (λ (x : Result ℕ Refusal). Built g c old run l (told x)) z b in
    let w' : Conditions g c old (regions_in n l) e = subst (λ (x : List Listed). Conditions g c old x e) (sym (built_holds b')) w in
    (z, built_agrees b' w' h i m f)

-- Laws of judging a text and a list, and of the beginning of a work sheet: the ways out, and what it tells. Assumes nothing.
use Rattle.std.specs.Prelude.{◌≡◌, refl, Bool, true, false, List, [], ◌∷◌, ◌⊎◌, ℕ, ◌/◌, ◌≤◌, ◌<◌, ltb, length, Err, None, Ok, Option, Result, Some}
use Rattle.std.proofs.Common.{sym, ap, subst, ◌∙◌, inl, inr, arith, lt-ltb, le-ltb, ltb-false}
use Rattle.search.specs.Promise.{Gives}
use Rattle.search.specs.SearchLaws.{decide}
use Rattle.common.specs.Entry.{rows, room, wide}
use Rattle.common.specs.Lists.{Wrote, filled_answer}
use Rattle.common.specs.RefusalLaws.{number_some}
use Rattle.common.specs.Refusals.{Outcome, given, refused, number_of, too_long}
use Rattle.common.specs.declared.grammar.Grammar.{Grammar}
use Rattle.common.specs.declared.refusal.Refusal.{Refusal}
use Rattle.common.specs.declared.refusal.Refusal.TheVariants.{NoRoom}
use Rattle.cover.specs.Shape.{misshapen}
use Rattle.feed.specs.Feeds.{fresh_feed}
use Rattle.sheet.specs.Sheet.{five, sheet_of, sheet_judged, sheet_answer, sheet_list, Sheeted}
use Rattle.sheet.specs.Parts.{left, judgement, begun, at_most, begun_within, Ready}
use Rattle.sheet.specs.SheetLaws.{started_ready, started_left, sheet-few}
use Rattle.sheet.specs.declared.Walk.{Walk}

-- ---- what judging tells
module _ (l : List ℕ) (n : ℕ) (s : List ℕ) where
  abbrev Tells : Option Refusal → Type 0
  Tells (Some r) = ((o : Outcome) → sheet_judged l n s o ≡ refused (number_of r)) × ((g : Grammar) (markers delims : List Bool) → begun g markers delims l n s ≡ Err r)
  Tells None = Unit {0}

  tells : Tells (judgement l n s)
  unfolding sheet_judged
  tells = by (decide (too_long s)) (decide (misshapen l n (length s)))
    where
      by : (too_long s ≡ true) ⊎ (too_long s ≡ false) → (misshapen l n (length s) ≡ true) ⊎ (misshapen l n (length s) ≡ false) → Tells (judgement l n s)
      by (inl u) v = rw u ((λ (o : Outcome). rw u), (λ (g : Grammar) (markers delims : List Bool). rw u))
      by (inr u) (inl v) = rw (u, v) ((λ (o : Outcome). rw (u, v)), (λ (g : Grammar) (markers delims : List Bool). rw (u, v)))
      by (inr u) (inr v) = rw (u, v) tt

  -- a refusal
  module _ (r : Refusal) (h : judgement l n s ≡ Some r) where
    told_off : Tells (Some r)
    told_off = subst Tells h tells

    pub judged_off : (o : Outcome) → sheet_judged l n s o ≡ refused (number_of r)
    judged_off = told_off.0

    pub judged_refused : (o : Outcome) → Gives (sheet_judged l n s o) (refused (number_of r))
    judged_refused o = record { answer = sym (judged_off o) }

    pub within_off : (g : Grammar) (markers delims : List Bool) (most : ℕ) → Gives (begun_within g markers delims l n s most) (Err r)
    within_off g markers delims most = record { answer = sym (ap (at_most most (length (sheet_of g markers delims l n s))) (told_off.1 g markers delims)) }

module _ (g : Grammar) (markers delims : List Bool) (l : List ℕ) (n : ℕ) (s : List ℕ) where
  -- how many items there are, told of what was judged
  pub judged_counted : length s ≤ 4294967295 → misshapen l n (length s) ≡ false → (k : ℕ) → Gives (length (sheet_of g markers delims l n s)) k → Gives (sheet_judged l n s (given (length (sheet_of g markers delims l n s) ∷ []))) (given (k ∷ []))
  unfolding sheet_judged
  judged_counted short shaped k c = record { answer = rw (c.answer, le-ltb 4294967295 (length s) short, shaped) }

  -- ---- what the beginning tells
  abbrev pub Begins : Result Walk Refusal → Type 0
  Begins (Ok w) = (length s ≤ 4294967295) × (misshapen l n (length s) ≡ false) × (w ≡ record { feed = fresh_feed g markers delims s; index = 0 })
  Begins (Err r) = (o : Outcome) → sheet_judged l n s o ≡ refused (number_of r)

  begins : Begins (begun g markers delims l n s)
  unfolding sheet_judged
  begins = by (decide (too_long s)) (decide (misshapen l n (length s)))
    where
      by : (too_long s ≡ true) ⊎ (too_long s ≡ false) → (misshapen l n (length s) ≡ true) ⊎ (misshapen l n (length s) ≡ false) → Begins (begun g markers delims l n s)
      by (inl u) v = rw u (λ (o : Outcome). rw u)
      by (inr u) (inl v) = rw (u, v) (λ (o : Outcome). rw (u, v))
      by (inr u) (inr v) = let k = ltb-false 4294967295 (length s) u in rw (u, v) (k, v, refl)

  begins_as : {r e : Result Walk Refusal} → r ≡ e → Gives (begun g markers delims l n s) r → Begins e
  begins_as e b = subst Begins (sym b.answer ∙ e) begins

  -- a refusal
  module _ {a : Result Walk Refusal} (r : Refusal) (e : a ≡ Err r) (b : Gives (begun g markers delims l n s) a) where
    pub begun_off : (o : Outcome) → sheet_judged l n s o ≡ refused (number_of r)
    begun_off = begins_as e b

    pub counted_off : (o : Outcome) → Gives (sheet_judged l n s o) (refused (number_of r))
    counted_off o = record { answer = sym (begun_off o) }

  -- scanners and a cursor
  module _ (w : Walk) (b : Gives (begun g markers delims l n s) (Ok w)) where
    fresh : Walk
    fresh = record { feed = fresh_feed g markers delims s; index = 0 }

    told_on : (length s ≤ 4294967295) × (misshapen l n (length s) ≡ false) × (w ≡ record { feed = fresh_feed g markers delims s; index = 0 })
    told_on = begins_as refl b

    pub begun_ready : Ready markers delims l n s w
    begun_ready = subst (Ready markers delims l n s) (sym told_on.2) (started_ready g markers delims l n s (fresh_feed g markers delims s) told_on.0 (record { answer = refl }) told_on.1)

    pub begun_left : left markers delims s (rows wide n l) w.feed ≡ sheet_of g markers delims l n s
    begun_left = ap (λ (x : Walk). left markers delims s (rows wide n l) x.feed) told_on.2 ∙ started_left g markers delims l n s (fresh_feed g markers delims s) told_on.0 (record { answer = refl })

    pub begun_few : length (sheet_of g markers delims l n s) ≤ length s
    begun_few = rw (← started_left g markers delims l n s (fresh_feed g markers delims s) told_on.0 (record { answer = refl })) (sheet-few g markers delims l n s (fresh_feed g markers delims s) told_on.0 (record { answer = refl }))

    pub all_counted : (k : ℕ) → Gives (length (left markers delims s (rows wide n l) w.feed)) k → Gives (length (sheet_of g markers delims l n s)) k
    all_counted k c = record { answer = c.answer ∙ ap length begun_left }

    within_is : (most : ℕ) → begun_within g markers delims l n s most ≡ at_most most (length (sheet_of g markers delims l n s)) (Ok w)
    within_is most = ap (at_most most (length (sheet_of g markers delims l n s))) (sym b.answer)

    pub within_roomy : (most : ℕ) → length s ≤ most → Gives (begun_within g markers delims l n s most) (Ok w)
    within_roomy most h = let k : length (sheet_of g markers delims l n s) ≤ most = omega (arith, begun_few) in record { answer = sym (within_is most ∙ rw (le-ltb most (length (sheet_of g markers delims l n s)) k)) }

    module _ (most k : ℕ) (c : Gives (length (left markers delims s (rows wide n l) w.feed)) k) where
      k-is : k ≡ length (sheet_of g markers delims l n s)
      k-is = (all_counted k c).answer

      pub within_full : most < k → Gives (begun_within g markers delims l n s most) (Err NoRoom)
      within_full h = let z : most < length (sheet_of g markers delims l n s) = omega (arith, k-is) in record { answer = sym (within_is most ∙ rw (lt-ltb most (length (sheet_of g markers delims l n s)) z)) }

      pub within_counted : k ≤ most → Gives (begun_within g markers delims l n s most) (Ok w)
      within_counted h = let z : length (sheet_of g markers delims l n s) ≤ most = omega (arith, k-is) in record { answer = sym (within_is most ∙ rw (le-ltb most (length (sheet_of g markers delims l n s)) z)) }

  module _ {a : Result Walk Refusal} (w : Walk) (e : a ≡ Ok w) (b : Gives (begun g markers delims l n s) a) where
    pub counted_on : (k : ℕ) → Gives (length (left markers delims s (rows wide n l) w.feed)) k → Gives (sheet_judged l n s (given (length (sheet_of g markers delims l n s) ∷ []))) (given (k ∷ []))
    counted_on k c = let t = begins_as e b in judged_counted t.0 t.1 k (all_counted w (record { answer = sym e ∙ b.answer }) k c)

  -- ---- what the beginning of a sheet that may have no more than `most` items tells
  module _ (most : ℕ) where
    abbrev pub BeginsWithin : Result Walk Refusal → Type 0
    BeginsWithin (Ok w) = Ready markers delims l n s w × (left markers delims s (rows wide n l) w.feed ≡ sheet_of g markers delims l n s) × (length (sheet_of g markers delims l n s) ≤ most) × (length s ≤ 4294967295) × (misshapen l n (length s) ≡ false)
    BeginsWithin (Err r) = (width : ℕ) (out : List ℕ) → most ≡ length out / width → sheet_answer width g markers delims l n s out ≡ refused (number_of r)

    begins_within : BeginsWithin (begun_within g markers delims l n s most)
    unfolding sheet_answer sheet_judged
    begins_within = by (begun g markers delims l n s) refl (decide (ltb most (length (sheet_of g markers delims l n s))))
      where
        by : (b : Result Walk Refusal) → begun g markers delims l n s ≡ b → (ltb most (length (sheet_of g markers delims l n s)) ≡ true) ⊎ (ltb most (length (sheet_of g markers delims l n s)) ≡ false)
            → BeginsWithin (at_most most (length (sheet_of g markers delims l n s)) b)
        by (Err r) e v = λ (width : ℕ) (out : List ℕ) (m : most ≡ length out / width). begun_off r e (record { answer = refl }) (filled_answer width (sheet_of g markers delims l n s) out)
        by (Ok w) e (inl v) =
            let t = told_on w (record { answer = sym e }) in
            rw v (λ (width : ℕ) (out : List ℕ) (m : most ≡ length out / width). rw (le-ltb 4294967295 (length s) t.0, t.1, ← m, v))
        by (Ok w) e (inr v) =
            let t = told_on w (record { answer = sym e }) in
            let k = ltb-false most (length (sheet_of g markers delims l n s)) v in
            rw v (begun_ready w (record { answer = sym e }), begun_left w (record { answer = sym e }), k, t.0, t.1)

    pub within_told : {r e : Result Walk Refusal} → r ≡ e → Gives (begun_within g markers delims l n s most) r → BeginsWithin e
    within_told e b = subst BeginsWithin (sym b.answer ∙ e) begins_within

    module _ (width : ℕ) (out : List ℕ) (m : most ≡ length out / width) {a : Result Walk Refusal} (b : Gives (begun_within g markers delims l n s most) a) where
      pub within_refused : (r : Refusal) → a ≡ Err r → sheet_answer width g markers delims l n s out ≡ refused (number_of r)
      within_refused r e = within_told e b width out m

      module _ (w : Walk) (e : a ≡ Ok w) where
        pub within_fits : length (left markers delims s (rows wide n l) w.feed) ≤ room width out
        within_fits = let t = within_told e b in omega (arith, ap length t.1, t.2, m)

        pub within_served : (k : ℕ) → k ≡ length (left markers delims s (rows wide n l) w.feed) → sheet_answer width g markers delims l n s out ≡ given (k ∷ [])
        unfolding sheet_answer sheet_judged
        within_served k h =
            let t = within_told e b in
            let z : length (sheet_of g markers delims l n s) ≤ length out / width = omega (arith, t.2, m) in
            rw (le-ltb 4294967295 (length s) t.3, t.4, le-ltb (length out / width) (length (sheet_of g markers delims l n s)) z, h, t.1)

    pub within_ready : {a : Result Walk Refusal} (w : Walk) → a ≡ Ok w → Gives (begun_within g markers delims l n s most) a → Ready markers delims l n s w
    within_ready w e b = (within_told e b).0

    pub within_judged : {a : Result Walk Refusal} (w : Walk) → a ≡ Ok w → Gives (begun_within g markers delims l n s most) a → (o : Outcome) → sheet_judged l n s o ≡ o
    unfolding sheet_judged
    within_judged w e b o = let t = within_told e b in rw (le-ltb 4294967295 (length s) t.3, t.4)

    pub within_left : {a : Result Walk Refusal} (w : Walk) → a ≡ Ok w → Gives (begun_within g markers delims l n s most) a → left markers delims s (rows wide n l) w.feed ≡ sheet_of g markers delims l n s
    within_left w e b = (within_told e b).1

  -- ---- the ways out of the sheet
  module _ {a : Result Walk Refusal} (out : List ℕ) (b : Gives (begun_within g markers delims l n s (length out / 5)) a) where
    pub sheet_off : (r : Refusal) → a ≡ Err r → Sheeted g markers delims l n s out out (refused (number_of r))
    unfolding sheet_list
    sheet_off r e = let z = within_refused (length out / 5) 5 out refl b r e in record { answer = sym z; list = rw (z, number_some r) }

    pub sheet_done : (w : Walk) (out' : List ℕ) (k : ℕ) → a ≡ Ok w → Wrote five (left markers delims s (rows wide n l) w.feed) out out' k → Sheeted g markers delims l n s out out' (given (k ∷ []))
    unfolding sheet_list
    sheet_done w out' k e v =
        let z = within_served (length out / 5) 5 out refl b w e k v.count in
        let y = within_left (length out / 5) w e b in
        record { answer = sym z; list = v.list ∙ rw (z, y) }

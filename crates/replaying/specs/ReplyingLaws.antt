-- Laws of the asking of questions: the ways through its loops. Assumes nothing.
use Rattle.std.specs.Prelude.{◌≡◌, ◌⊎◌, Bool, true, false, List, ℕ, zero, suc, ◌+◌, ◌≤◌, ◌<◌, ltb, Result, Ok, Err}
use Rattle.std.proofs.Math.Path.{sym, ap}
use Rattle.std.proofs.Common.{◌∙◌, subst, add-one, inl, inr, arith, ltb-true, ltb-false}
use Rattle.search.specs.Promise.{Gives}
use Rattle.search.specs.SearchLaws.{decide}
use Rattle.stored.specs.Form.{small_of, question_of, way_of}
use Rattle.stored.specs.Long.{drawn_text}
use Rattle.stored.specs.Numbers.{after_sums, no_numbers, said_sums}
use Rattle.stored.specs.Parts.{numbers_between}
use Rattle.stored.specs.Sums.{no_sums, fed_question, one_more}
use Rattle.stored.specs.Texts.{text_of, spot_of}
use Rattle.stored.specs.declared.asked.Asked.{Asked}
use Rattle.stored.specs.declared.form.Form.{Form}
use Rattle.stored.specs.declared.form.Way.{Way}
use Rattle.stored.specs.declared.form.Way.TheVariants.{One, Runs, All, Drawn, Unknown}
use Rattle.stored.specs.declared.long.Drawn as long
use Rattle.stored.specs.declared.numbers.Numbers.{Numbers}
use Rattle.stored.specs.declared.sums.Sums.{Sums}
use Rattle.stored.specs.declared.texts.Spot.{Spot}
use Rattle.replaying.specs.Replying.{Posed, posed, posed_in, posed_of, posed_at, posed_drawn, posed_in_runs, behind_in, spot_in, text_in, seed_of, Adds, FirstAsked, AllAsked, FirstDrawn, AnsweredBy, Answered}

-- a question by its parts
pub posed_as : (p : Posed) (t : List ℕ) (place : ℕ) (a : Asked) → a.question ≡ p.question → a.numbers.now ≡ p.numbers → a.cells.now ≡ p.cells → a.text.now ≡ t → a.place ≡ place → posed a ≡ posed_of p t place
posed_as p t place a q n c s l = λ j. record { question = q j; numbers = n j; cells = c j; text = s j; place = l j }

module _ (says : Posed → Numbers → Numbers → Type 0) (p : Posed) where
  -- ---- a loop that has asked the first k questions of a block
  pub asked_none : {s : Sums} → Gives no_sums s → FirstAsked says p 0 s
  unfolding FirstAsked
  asked_none h = h.answer

  module _ (k len : ℕ) (l : len ≡ behind_in p 0) (spot : Spot) (a : Gives (spot_of k p.question.places len) spot) (found : Result (List ℕ) (List ℕ)) (b : Gives (text_of spot.number p.text len) found) (before : Sums)
      (h : FirstAsked says p k before) where
    spot-is : spot ≡ spot_in p k
    spot-is = a.answer ∙ ap (spot_of k p.question.places) l

    found-is : found ≡ text_in p k
    found-is = b.answer ∙ ap (λ (x : Spot). text_of x.number p.text len) spot-is ∙ ap (text_of (spot_in p k).number p.text) l

    pub asked_again : (t part : List ℕ) (q : Posed) (after : Sums) → found ≡ Ok t → Gives (numbers_between t 0 len) part → q ≡ posed_of p part spot.place → Adds says q before after → FirstAsked says p (k + 1) after
    unfolding FirstAsked
    asked_again t part q after e d s adds = rw (add-one k) (before, t, h, sym found-is ∙ e, subst (λ (x : Posed). Adds says x before after) same adds)
      where
        same : q ≡ posed_at p k t
        same = s ∙ ap (λ (x : List ℕ). posed_of p x spot.place) (d.answer ∙ ap (numbers_between t 0) l) ∙ ap (λ (x : Spot). posed_of p (numbers_between t 0 (behind_in p 0)) x.place) spot-is

  -- ---- one that has asked the first k of those that are drawn
  pub drawn_none : {s : Sums} → Gives no_sums s → FirstDrawn says p 0 s
  unfolding FirstDrawn
  drawn_none h = h.answer

  pub seed_first : {d : ℕ} → Gives (behind_in p 1) d → d ≡ seed_of p 0
  unfolding seed_of
  seed_first h = h.answer

  module _ (k len d : ℕ) (l : len ≡ behind_in p 0) (e : d ≡ seed_of p k) (t : long.Drawn) (a : Gives (drawn_text d p.text len) t) where
    drawn-is : t ≡ drawn_text (seed_of p k) p.text (behind_in p 0)
    drawn-is = a.answer ∙ ap (λ (x : ℕ). drawn_text x p.text len) e ∙ ap (drawn_text (seed_of p k) p.text) l

    pub seed_again : t.last ≡ seed_of p (k + 1)
    unfolding seed_of
    seed_again = rw (add-one k) (ap (λ (x : long.Drawn). x.last) drawn-is)

    pub drawn_again : (part : List ℕ) (q : Posed) (before after : Sums) → FirstDrawn says p k before → Gives (numbers_between t.bytes 0 len) part → q ≡ posed_of p part 0 → Adds says q before after → FirstDrawn says p (k + 1) after
    unfolding FirstDrawn
    drawn_again part q before after h b s adds = rw (add-one k) (before, h, subst (λ (x : Posed). Adds says x before after) same adds)
      where
        same : q ≡ posed_drawn p k
        same = s ∙ ap (λ (x : List ℕ). posed_of p x 0) (b.answer ∙ ap (numbers_between t.bytes 0) l ∙ ap (λ (x : long.Drawn). numbers_between x.bytes 0 (behind_in p 0)) drawn-is)

-- ---- two results for the same question are one, where sections leave one form of a letter and one answer
abbrev is_found : Result (List ℕ) (List ℕ) → Type 0
is_found (Ok t) = Unit {0}
is_found (Err t) = ⊥

abbrev found_in : Result (List ℕ) (List ℕ) → List ℕ → List ℕ
found_in (Ok t) d = t
found_in (Err t) d = d

module _ (says : Posed → Numbers → Numbers → Type 0) (one : (p : Posed) (n a b : Numbers) → says p n a → says p n b → a ≡ b) where
  adds_unique : {p : Posed} {b s s' : Sums} → Adds says p b s → Adds says p b s' → s ≡ s'
  adds_unique {p} {b} v w = v.sums ∙ ap (λ (n : Numbers). one_more n.sums) (one p (after_sums (fed_question b p.text p.question.places p.place)) v.reply w.reply v.said w.said) ∙ sym w.sums

  first_unique : (p : Posed) (k : ℕ) {s s' : Sums} → FirstAsked says p k s → FirstAsked says p k s' → s ≡ s'
  unfolding FirstAsked
  first_unique p zero v w = v ∙ sym w
  first_unique p (suc k) {s} {s'} (b, t, h, e, a) (b', t', h', e', a') =
      let same-text : t ≡ t' = ap (λ (x : Result (List ℕ) (List ℕ)). found_in x t) (sym e ∙ e') in
      let same-before : b ≡ b' = first_unique p k h h' in
      adds_unique a (subst (λ (x : Sums). Adds says (posed_at p k t) x s') (sym same-before) (subst (λ (x : List ℕ). Adds says (posed_at p k x) b' s') (sym same-text) a'))

  -- the texts of all earlier questions are there
  first_found : (p : Posed) (k j : ℕ) (s : Sums) → j < k → FirstAsked says p k s → is_found (text_in p j)
  unfolding FirstAsked
  first_found p zero j s l v = absurd (omega (arith, l))
  first_found p (suc k) j s l (b, t, h, e, a) = by (λ (m : j < k). first_found p k j b m h) (decide (ltb j k))
    where
      by : (j < k → is_found (text_in p j)) → (ltb j k ≡ true) ⊎ (ltb j k ≡ false) → is_found (text_in p j)
      by sooner (inl u) = sooner (ltb-true j k u)
      by sooner (inr u) = let z : k ≡ j = omega (arith, l, ltb-false j k u) in subst is_found (sym e ∙ ap (text_in p) z) tt

  -- so none ends sooner than another
  no_sooner : (p : Posed) {s s' : Sums} (v : AllAsked says p s) (w : AllAsked says p s') → v.count < w.count → ⊥
  no_sooner p v w l = by v.over
    where
      by : ((t : List ℕ) × (text_in p v.count ≡ Err t)) ⊎ (18446744073709551615 ≤ v.count) → ⊥
      by (inl x) = subst is_found x.1 (first_found p w.count v.count _ l w.first)
      by (inr x) = omega (arith, x, l, w.most)

  all_unique : (p : Posed) {s s' : Sums} → AllAsked says p s → AllAsked says p s' → s ≡ s'
  all_unique p {s} {s'} v w = by (decide (ltb v.count w.count)) (decide (ltb w.count v.count))
    where
      by : (ltb v.count w.count ≡ true) ⊎ (ltb v.count w.count ≡ false) → (ltb w.count v.count ≡ true) ⊎ (ltb w.count v.count ≡ false) → s ≡ s'
      by (inl u) y = absurd (no_sooner p v w (ltb-true v.count w.count u))
      by (inr u) (inl y) = absurd (no_sooner p w v (ltb-true w.count v.count y))
      by (inr u) (inr y) =
          let same : w.count ≡ v.count = omega (arith, ltb-false v.count w.count u, ltb-false w.count v.count y) in
          first_unique p v.count v.first (subst (λ (k : ℕ). FirstAsked says p k s') same w.first)

  drawn_unique : (p : Posed) (k : ℕ) {s s' : Sums} → FirstDrawn says p k s → FirstDrawn says p k s' → s ≡ s'
  unfolding FirstDrawn
  drawn_unique p zero v w = v ∙ sym w
  drawn_unique p (suc k) {s} {s'} (b, h, a) (b', h', a') = adds_unique a (subst (λ (x : Sums). Adds says (posed_drawn p k) x s') (sym (drawn_unique p k h h')) a')

  pub by_unique : (w : Way) (p : Posed) {r r' : Numbers} → AnsweredBy says w p r → AnsweredBy says w p r' → r ≡ r'
  by_unique One p {r} {r'} v w = one p no_numbers r r' v w
  by_unique Runs p {r} {r'} v w = one (posed_in_runs p) no_numbers r r' v w
  by_unique All p v w = v.same ∙ ap said_sums (all_unique p v.asked w.asked) ∙ sym w.same
  by_unique Drawn p v w = v.same ∙ ap said_sums (drawn_unique p (behind_in p 2) v.asked w.asked) ∙ sym w.same
  by_unique Unknown p v w = v ∙ sym w

  pub answered_unique : (forms : ℕ → ℕ → Form → Type 0) → ((s l : ℕ) (a b : Form) → forms s l a → forms s l b → a ≡ b) → (section letter : ℕ) (starred : Bool) (l : List ℕ) {r r' : Numbers}
      → Answered forms says section letter starred l r → Answered forms says section letter starred l r' → r ≡ r'
  answered_unique forms single section letter starred l {r} {r'} v w =
      by_unique (way_of v.form letter starred l (question_of v.form section letter l)) (posed_in (question_of v.form section letter l) l) v.answer
      (subst (λ (f : Form). AnsweredBy says (way_of f letter starred l (question_of f section letter l)) (posed_in (question_of f section letter l) l) r') (sym (single section (small_of letter) v.form w.form v.has w.has)) w.answer)

-- Laws of the question whether a place leads its line, asked of one place after another. Assumes nothing.
use Rattle.std.specs.Prelude.{◌≡◌, refl, Bool, true, cond, ◌&&◌, List, ◌⊎◌, ℕ, zero, suc, ◌+◌, ◌-◌, ◌≤◌, ◌<◌, eqb, ltb, length, get_or}
use Rattle.std.proofs.Math.Path.{sym, ap}
use Rattle.std.proofs.Common.{◌∙◌, inl, inr, arith}
use Rattle.std.proofs.Math.Bool.{false}
use Rattle.std.proofs.Math.Dec.{leb}
use borrow.Author.Tests.{lt-ltb, ltb-true, ltb-false, le-leb, leb-true}
use Rattle.search.specs.Promise.{Gives}
use Rattle.search.specs.Search.{is, either, other, holds, find, back, line_start}
use Rattle.search.specs.SearchLaws.{decide, clash, and_true, other_yes, other_no, holds_true, find_hit, find_ge, find_at, back_run, other_false, holds_in, find-max, find_before, start_zero, back-past, holds-past, start_pos, Backs, backs_first, backs_end, backs_told_again, backs_told_found}
use Rattle.common.specs.Items.{leads}
use Rattle.common.specs.Later.{joined, leads_by, LedBy, Unled}

-- a choice between one thing and itself
no_choice : (t : Bool) (a : Bool) → cond t a a ≡ a
no_choice true a = refl
no_choice false a = refl

-- n bytes from k on that pass a test lengthen the run before them
back-over : (t : ℕ → Bool) (s : List ℕ) (k n p : ℕ) → p ≡ n + k → ((j : ℕ) → k ≤ j → j < p → holds t s j ≡ true) → p - back t s p ≡ k - back t s k
unfolding back
back-over t s k zero p e h = let z : p ≡ k = omega arith in rw z
back-over t s k (suc n) zero e h = absurd (omega arith)
back-over t s k (suc n) (suc m) e h =
    let z : back t s (suc m) ≡ suc (back t s m) = rw (h m (omega arith) (omega arith), back) in
    omega (arith, back-over t s k n m (omega arith) (λ j a l. h j a (omega arith)))

module _ (eol sep tab : ℕ) (s : List ℕ) where
  -- a place that only separators and tabs part from k leads its line if k does
  joined_same : (k p : ℕ) → joined sep tab s k p ≡ true → (0 < k) × (leads eol sep tab s p ≡ leads eol sep tab s k)
  unfolding joined leads
  joined_same k p e =
      let w = and_true (ltb 0 k) (leb k p && leb p (find (other (either sep tab)) s k)) e in
      let v = and_true (leb k p) (leb p (find (other (either sep tab)) s k)) w.1 in
      let low = leb-true k p v.0 in
      let high = leb-true p (find (other (either sep tab)) s k) v.1 in
      let far = find-max (other (either sep tab)) s k in
      let x : p - back (either sep tab) s p ≡ k - back (either sep tab) s k
      = back-over (either sep tab) s k (p - k) p (omega arith) (λ j a l. holds_in (either sep tab) s j (omega arith) ∙ other_false (either sep tab) (get_or s j 0) (find_before (other (either sep tab)) s k j a (omega arith))) in
      (ltb-true 0 k w.0, ap (line_start eol s) x)

  -- a byte between k and p that is neither separator nor tab parts them
  not_joined : (k p j : ℕ) → (0 < k → k ≤ p → (k ≤ j) × (j < p) × (j < length s) × (either sep tab (get_or s j 0) ≡ false)) → joined sep tab s k p ≡ false
  unfolding joined
  not_joined k p j h = by (decide (joined sep tab s k p))
    where
      by : (joined sep tab s k p ≡ true) ⊎ (joined sep tab s k p ≡ false) → joined sep tab s k p ≡ false
      by (inr e) = e
      by (inl e) =
          let w = and_true (ltb 0 k) (leb k p && leb p (find (other (either sep tab)) s k)) e in
          let v = and_true (leb k p) (leb p (find (other (either sep tab)) s k)) w.1 in
          let x = h (ltb-true 0 k w.0) (leb-true k p v.0) in
          absurd (omega (arith, leb-true p (find (other (either sep tab)) s k) v.1, find_hit (other (either sep tab)) s k j x.0 x.2 (other_yes (either sep tab) (get_or s j 0) x.3), x.1))

  -- ---- the walk back, which has come from p to k; the place that is lent is not between them
  pub record Looks (p lost k : ℕ) : Type 0 where
    pub backs : Backs (either sep tab) s p k
    pub above : lost ≤ p → lost ≤ k

  module _ (p lost : ℕ) where
    -- only separators and tabs stand from k up to p
    backs_joined : (k : ℕ) → Backs (either sep tab) s p k → 0 < k → joined sep tab s k p ≡ true
    unfolding joined
    backs_joined k w l = simp (lt-ltb 0 k l, le-leb k p w.below, le-leb p (find (other (either sep tab)) s k) (by (decide (ltb (find (other (either sep tab)) s k) p))))
      where
        by : (ltb (find (other (either sep tab)) s k) p ≡ true) ⊎ (ltb (find (other (either sep tab)) s k) p ≡ false) → p ≤ find (other (either sep tab)) s k
        by (inr u) = ltb-false (find (other (either sep tab)) s k) p u
        by (inl u) =
            let j = find (other (either sep tab)) s k in
            let l = ltb-true j p u in
            let low = find_ge (other (either sep tab)) s k in
            let e = find_at (other (either sep tab)) s k (omega (arith, w.inside)) in
            absurd (clash e (other_no (either sep tab) (get_or s j 0) (holds_true (either sep tab) s j (back_run (either sep tab) s p j (omega (arith, w.same, w.below)) l)).1))

    by_leads : (y : Bool) → joined sep tab s lost p ≡ false → y ≡ leads eol sep tab s p → y ≡ leads_by eol sep tab s lost p
    unfolding leads_by
    by_leads y j e = e ∙ sym (rw j refl)

    -- the line begins at k, or doesn't
    leads-at : (k : ℕ) → back (either sep tab) s p ≡ p - k → k ≤ p → leads eol sep tab s p ≡ line_start eol s k
    unfolding leads
    leads-at k e l = let z : p - back (either sep tab) s p ≡ k = omega (arith, e) in ap (line_start eol s) z

    pub look_past : length s < p → false ≡ leads_by eol sep tab s lost p
    unfolding leads_by
    look_past l =
        let n = back-past (either sep tab) s p l in
        let e = leads-at p (omega (arith, n)) (omega arith) ∙ sym (start_pos eol s p (λ e. omega arith)) ∙ holds-past (is eol) s (p - 1) (omega arith) in
        sym (rw e (no_choice (joined sep tab s lost p) false))

    pub look_first : p ≤ length s → Looks p lost p
    look_first l = record { backs = backs_first (either sep tab) s p l; above = λ h. h }

    pub look_end : (k : ℕ) → Looks p lost k → k ≤ 0 → true ≡ leads_by eol sep tab s lost p
    look_end k w l =
        by_leads true (not_joined lost p 0 (λ a b. absurd (omega (arith, w.above b))))
        (start_zero eol s k (omega arith) ∙ sym (leads-at k (omega (arith, backs_end (either sep tab) s p k w.backs l)) w.backs.below))

    module _ (k : ℕ) (w : Looks p lost k) (some : 0 < k) where
      pub look_kept : k ≡ lost → false ≡ leads_by eol sep tab s lost p
      unfolding leads_by
      look_kept e = sym (rw (ap (λ (j : ℕ). joined sep tab s j p) (sym e) ∙ backs_joined k w.backs some))

      module _ (off : k ≡ lost → ⊥) (y : Bool) (says : Gives (either sep tab (get_or s (k - 1) 0)) y) where
        pub look_again : y ≡ true → Looks p lost (k - 1)
        look_again e = record { backs = backs_told_again (either sep tab) s p k y says w.backs some e; above = λ h. omega (arith, w.above h, off) }

        pub look_told : y ≡ false → eqb (get_or s (k - 1) 0) eol ≡ leads_by eol sep tab s lost p
        unfolding is
        look_told e =
            by_leads (eqb (get_or s (k - 1) 0) eol) (not_joined lost p (k - 1) (λ a b. (omega (arith, w.above b, off), omega (arith, w.backs.below), omega (arith, w.backs.below, w.backs.inside), sym says.answer ∙ e)))
            (sym (holds_in (is eol) s (k - 1) (omega (arith, w.backs.below, w.backs.inside))) ∙ start_pos eol s k (λ e. omega arith)
            ∙ sym (leads-at k (sym (backs_told_found (either sep tab) s p k y says w.backs some e)) w.backs.below))

  -- no place that is taken for such a one
  pub line-told : (p : ℕ) (y : Bool) → Gives (leads_by eol sep tab s 0 p) y → y ≡ leads eol sep tab s p
  unfolding leads_by joined
  line-told p y h = h.answer

  -- the promise leaves no choice
  pub led_unique : {p lost a b : ℕ} {x y : Bool} → LedBy eol sep tab s p lost x a → LedBy eol sep tab s p lost y b → (x ≡ y) × (a ≡ b)
  led_unique {p} {lost} v w =
      let e = v.answer ∙ sym w.answer in
      (e, v.kept ∙ ap (λ (r : Bool). cond r lost p) e ∙ sym w.kept)

  -- what it is worth where the place that is lent does not lead its line
  pub unled_first : Unled eol sep tab s 0
  unled_first = record { unled = λ l. absurd (omega arith) }

  module _ (p lost : ℕ) (y : Bool) (lost' : ℕ) (u : Unled eol sep tab s lost) (w : LedBy eol sep tab s p lost y lost') where
    pub led_leads : Gives (leads eol sep tab s p) y
    unfolding leads_by
    led_leads = record { answer = by (decide (joined sep tab s lost p)) }
      where
        by : (joined sep tab s lost p ≡ true) ⊎ (joined sep tab s lost p ≡ false) → y ≡ leads eol sep tab s p
        by (inl e) = let v = joined_same lost p e in w.answer ∙ rw e (sym (v.1 ∙ u.unled v.0))
        by (inr e) = w.answer ∙ rw e

    pub led_unled : Unled eol sep tab s lost'
    led_unled = by y refl w.kept
      where
        by : (z : Bool) → y ≡ z → lost' ≡ cond z lost p → Unled eol sep tab s lost'
        by true e k = rw k u
        by false e k = rw k (record { unled = λ h. sym led_leads.answer ∙ e })

pub ruleset led_rules = (led_leads, led_unled)

pub ruleset look_rules = (look_past, look_first, look_end, look_kept, look_again, look_told)

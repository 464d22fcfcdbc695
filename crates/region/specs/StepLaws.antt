-- Laws of the builder's turns: the ways out of the functions that take them. Assumes nothing.
use Rattle.std.proofs.Math.Path.{◌≡◌, refl, sym as inv, ap, fun_ext}
use Rattle.std.proofs.Common.{subst, ◌∙◌, inl, inr, arith, Fits}
use Rattle.std.specs.Prelude.{Bool, List, ◌⊎◌, eqb, ltb, length, get_or, take, None, Option, Some}
use Rattle.std.proofs.Math.Bool.{true, false, cond}
use Prim.Native.Nat.{ℕ, ◌+◌, ◌-◌, ◌*◌, ◌^◌, ◌%◌, ◌≤◌, ◌<◌}
use Rattle.std.specs.Int.{w64}
use borrow.Author.Tests.{eq-eqb, ne_eqb, lt-ltb, le-ltb, le-leb, lt-leb}
use Rattle.search.specs.Promise.{Gives}
use Rattle.search.specs.Search.{find, is, other, one_of, back, Sought, line_end, next_line}
use Rattle.search.specs.SearchLaws.{decide}
use Rattle.lines.specs.Fences.{has_in, least_in}
use Rattle.lines.specs.Reader.{reader_in, opening_at, close_scan, close_at}
use Rattle.lines.specs.FenceLaws.{reader-shuts}
use Rattle.lines.specs.Paragraph.{next_in}
use Rattle.common.specs.Rules.{entry}
use Rattle.common.specs.Turn.{Turn, go, stop, found, first_turn}
use Rattle.common.specs.declared.grammar.Grammar.{Grammar}
use Rattle.lines.specs.declared.fence_tests.Hit.{Hit}
use Rattle.lines.specs.declared.fence_tests.Hit.TheVariants as hit
use Rattle.region.specs.Region.{caused}
use Rattle.rules.specs.Grammar.{Rule, plain, sym, asym, Gram}
use Rattle.region.specs.Regions.{odd_before, sym_after, sym_turn, asym_after, asym_turn, shut_place, closed_by, fenced_to, fenced}
use Rattle.region.specs.Sight.{Sight, turned, lost}
use Rattle.region.specs.Memory.{kept_pair, kept_open, kept_inline, kept_turn}
use Rattle.region.specs.Parts.{fence_gram, fenced_by, sym_pair, asym_pair, inline_by}
use Rattle.rules.specs.Rows.{cell, gram_by, rule_in}
use Rattle.rules.specs.declared.search_bytes.Alphabet.{Alphabet}
use Rattle.region.specs.Views.{view_hit}
use Rattle.region.specs.Ahead.{Met, next_met}
use Rattle.region.specs.declared.Cause.{Cause}
use Rattle.region.specs.declared.Cause.TheVariants.{Fence, Symmetric, Asymmetric}

pub odd_told : (escape : ℕ) (s : List ℕ) (p k : ℕ) → Gives (back (is escape) s p) k → eqb (k % 2) 1 ≡ odd_before escape s p
unfolding odd_before
odd_told escape s p k g = rw g.answer

-- ---- a turn of a close search: d is the next byte in the paragraph, or the paragraph's end
module _ (g : Grammar) (fences s : List ℕ) (x j : ℕ) (d : Hit) where
  -- the place after what is found is a place of the text
  hit_met : (q : ℕ) → d ≡ hit.At q → Gives (next_in g.eol ((reader_in g fences).enters s) s x j) d → j ≤ length s → Met g.eol s x j (hit.At q)
  hit_met q e h l = subst (Met g.eol s x j) (inv h.answer ∙ e) (next_met g.eol ((reader_in g fences).enters s) s x j l)

  pub hit_next : (q : ℕ) → d ≡ hit.At q → Gives (next_in g.eol ((reader_in g fences).enters s) s x j) d → j ≤ length s → length s * 1 < 2 ^ 63 → Fits w64 (q + 1)
  hit_next q e h k l = omega (arith, hit_met q e h k)

  module _ (h : Gives (next_in g.eol ((reader_in g fences).enters s) s x j) d) where
    pub asym_end : (u : ℕ) → d ≡ hit.End u → stop u ≡ asym_turn (fence_gram g fences) s x j
    unfolding asym_turn
    asym_end u e = simp (← h.answer, e)

    pub asym_passed : (q : ℕ) (y : Bool) → d ≡ hit.At q → y ≡ true → Gives (odd_before g.escape s q) y → go (q + 1) ≡ asym_turn (fence_gram g fences) s x j
    unfolding asym_turn
    asym_passed q y e u o = simp (← h.answer, e, ← o.answer, u)

    pub asym_closed : (q : ℕ) (y : Bool) → d ≡ hit.At q → y ≡ false → Gives (odd_before g.escape s q) y → found (q + 1) (q + 1) ≡ asym_turn (fence_gram g fences) s x j
    unfolding asym_turn
    asym_closed q y e u o = simp (← h.answer, e, ← o.answer, u)

    pub sym_end : (count u : ℕ) → d ≡ hit.End u → stop u ≡ sym_turn (fence_gram g fences) s x count j
    unfolding sym_turn
    sym_end count u e = simp (← h.answer, e)

    pub sym_passed : (count q : ℕ) (y : Bool) → d ≡ hit.At q → y ≡ true → Gives (odd_before g.escape s q) y → go (q + 1) ≡ sym_turn (fence_gram g fences) s x count j
    unfolding sym_turn
    sym_passed count q y e u o = simp (← h.answer, e, ← o.answer, u)

    module _ (count q t : ℕ) (y : Bool) (e : d ≡ hit.At q) (u : y ≡ false) (o : Gives (odd_before g.escape s q) y) (r : Sought (other (is x)) s q t) where
      pub sym_closed : t - q ≡ count → found t t ≡ sym_turn (fence_gram g fences) s x count j
      unfolding sym_turn
      sym_closed c = simp (← h.answer, e, ← o.answer, u, ← r.here, eq-eqb (t - q) count c)

      pub sym_on : (t - q ≡ count → ⊥) → go t ≡ sym_turn (fence_gram g fences) s x count j
      unfolding sym_turn
      sym_on c = simp (← h.answer, e, ← o.answer, u, ← r.here, ne_eqb (t - q) count c)

-- ---- a fence
module _ (g : Grammar) (s : List ℕ) (p b count e i from : ℕ) (d : Option (ℕ × ℕ)) where
  closes : Gives (get_or s p 0) b → Gives (next_line (length s) e) from → Gives (close_scan g b count s from) d → closed_by s p i d ≡ fenced_by g s p count e i
  unfolding fenced_by
  closes hb hf hd =
      let e : d ≡ close_scan g (get_or s p 0) count s (next_line (length s) e) = hd.answer ∙ ap (λ (x : ℕ). close_scan g x count s from) hb.answer ∙ ap (close_scan g (get_or s p 0) count s) hf.answer in
      ap (closed_by s p i) e

  pub fence_closed : (q end n : ℕ) → d ≡ Some (q, end) → Gives (get_or s p 0) b → Gives (next_line (length s) e) from → Gives (close_scan g b count s from) d → Gives (next_line (length s) end) n
      → turned (found (caused Fence i true p end) n) ≡ turned (fenced_by g s p count e i)
  fence_closed q end n c hb hf hd hn = ap turned (ap (λ (m : ℕ). found (caused Fence i true p end) m) hn.answer ∙ ap (closed_by s p i) (inv c) ∙ closes hb hf hd)

  pub fence_unclosed : d ≡ None → Gives (get_or s p 0) b → Gives (next_line (length s) e) from → Gives (close_scan g b count s from) d
      → turned (found (caused Fence i false p (length s)) (length s)) ≡ turned (fenced_by g s p count e i)
  fence_unclosed c hb hf hd = ap turned (ap (closed_by s p i) (inv c) ∙ closes hb hf hd)

-- ---- a pair by what the search for its close said
module _ (k : Cause) (i p b r : ℕ) (d : Hit) where
  pub close_made : (t : ℕ) → d ≡ hit.At t → turned (found (caused k i true p t) t) ≡ kept_pair k i p b r (view_hit d)
  close_made t e = simp e

  pub close_lost : (u : ℕ) → d ≡ hit.End u → lost b r u ≡ kept_pair k i p b r (view_hit d)
  close_lost u e = simp e

-- ---- a pair at an opener whose run ends at r; n is the count of its rule, x up to where the memory has its close sought in vain
module _ (g : Gram) (rows : List (List ℕ)) (s m : List ℕ) (p b n r : ℕ) (h : Sought (other (is b)) s p r) where
  pub pair_other : (r - p ≡ n → ⊥) → Gives (cell rows b 3) n → turned (go r) ≡ sym_pair g rows s m p b
  unfolding sym_pair
  pair_other e hn = simp (← h.here, ← hn.answer, ne_eqb (r - p) n e)

  pub apair_other : (r - p ≡ n → ⊥) → Gives (cell rows b 3) n → turned (go r) ≡ asym_pair g rows s m p b
  unfolding asym_pair
  apair_other e hn = simp (← h.here, ← hn.answer, ne_eqb (r - p) n e)

  module _ (x : ℕ) where
    pub pair_known : r ≤ x → Gives (entry 0 m b) x → r - p ≡ n → Gives (cell rows b 3) n → turned (go r) ≡ sym_pair g rows s m p b
    unfolding sym_pair
    pair_known l hx e hn = simp (← h.here, ← hn.answer, eq-eqb (r - p) n e, ← hx.answer, le-leb r x l)

    pub apair_known : r ≤ x → Gives (entry 0 m b) x → r - p ≡ n → Gives (cell rows b 3) n → turned (go r) ≡ asym_pair g rows s m p b
    unfolding asym_pair
    apair_known l hx e hn = simp (← h.here, ← hn.answer, eq-eqb (r - p) n e, ← hx.answer, le-leb r x l)

    module _ (l : x < r) (hx : Gives (entry 0 m b) x) (e : r - p ≡ n) (hn : Gives (cell rows b 3) n) (d : Hit) (i : ℕ) (t : Sight) where
      pub pair_sought : (c : ℕ) → Gives (first_turn (sym_turn g s b c) (length s) r) (view_hit d) → Gives (cell rows b 3) c → Gives (cell rows b 4) i → Gives (kept_pair Symmetric i p b r (view_hit d)) t → t ≡ sym_pair g rows s m p b
      unfolding sym_pair
      pair_sought c w hc hi v =
          v.answer ∙ ap (kept_pair Symmetric i p b r) w.answer ∙ simp (← h.here, hc.answer ∙ inv hn.answer, ← hn.answer, ← hi.answer, eq-eqb (r - p) n e, ← hx.answer, lt-leb r x l)

      pub apair_sought : (c : ℕ) → Gives (first_turn (asym_turn g s c) (length s) r) (view_hit d) → Gives (cell rows b 2 % 256) c → Gives (cell rows b 4) i → Gives (kept_pair Asymmetric i p b r (view_hit d)) t
          → t ≡ asym_pair g rows s m p b
      unfolding asym_pair
      apair_sought c w hc hi v =
          v.answer ∙ ap (kept_pair Asymmetric i p b r) w.answer
          ∙ simp (← h.here, ← hn.answer, ← hi.answer, ← hc.answer, eq-eqb (r - p) n e, ← hx.answer, lt-leb r x l)

-- ---- an inline rule: k is the kind of the byte b at p
module _ (g : Gram) (rows : List (List ℕ)) (s m : List ℕ) (p b k : ℕ) (hb : Gives (get_or s p 0) b) (hk : Gives (cell rows b 1) k) where
  pub inline_none : k ≡ 0 → turned (go (p + 1)) ≡ inline_by g rows s m p
  unfolding kept_inline
  inline_none e = simp (← hb.answer, ← hk.answer, e)

  module _ (some : k ≡ 0 → ⊥) (y : Bool) where
    -- the rule is not plain, so the byte must not be escaped
    pub inline-passed : y ≡ true → Gives (odd_before g.escape s p) y → turned (go (p + 1)) ≡ inline_by g rows s m p
    unfolding kept_inline
    inline-passed u o = by (decide (eqb k 1))
      where
        by : (eqb k 1 ≡ true) ⊎ (eqb k 1 ≡ false) → turned (go (p + 1)) ≡ kept_inline g s m p (get_or s p 0) (rule_in rows (get_or s p 0))
        by (inl v) = simp (← hb.answer, ← hk.answer, ne_eqb k 0 some, v, ← o.answer, u)
        by (inr v) = simp (← hb.answer, ← hk.answer, ne_eqb k 0 some, v, ← o.answer, u)

    pub inline_sym : (t : Sight) → k ≡ 1 → y ≡ false → Gives (odd_before g.escape s p) y → Gives (sym_pair g rows s m p b) t → t ≡ inline_by g rows s m p
    unfolding kept_inline sym_pair
    inline_sym t e u o w = w.answer ∙ simp (← hb.answer, ← hk.answer, e, ← o.answer, u)

    pub inline_asym : (t : Sight) → (k ≡ 1 → ⊥) → y ≡ false → Gives (odd_before g.escape s p) y → Gives (asym_pair g rows s m p b) t → t ≡ inline_by g rows s m p
    unfolding kept_inline asym_pair
    inline_asym t e u o w = w.answer ∙ simp (← hb.answer, ← hk.answer, ne_eqb k 0 some, ne_eqb k 1 e, ← o.answer, u)

-- ---- a turn: p is the next byte searched for
module _ (a : Alphabet) (fences : List ℕ) (rows : List (List ℕ)) (s m : List ℕ) (q p : ℕ) (hp : Sought (one_of (take a.searched.count a.searched.bytes)) s q p) where
  pub turn_stop : length s ≤ p → turned (stop q) ≡ kept_turn (gram_by a fences rows) s m q
  unfolding kept_turn
  turn_stop l = simp (← hp.here, le-ltb p (length s) l)

  module _ (inside : p < length s) (d : Option (ℕ × ℕ)) (hd : Gives (opening_at (reader_in a.grammar fences) a.grammar.eol s p) d) where
    -- a fence that opens, in its parts
    opened : (run e : ℕ) → d ≡ Some (run, e)
        → ((reader_in a.grammar fences).opens s p ≡ true) × (run ≡ (reader_in a.grammar fences).size s p) × (e ≡ line_end a.grammar.eol s p)
    unfolding opening_at
    opened run e c = by (decide ((reader_in a.grammar fences).opens s p)) (inv hd.answer ∙ c)
      where
        by : ((reader_in a.grammar fences).opens s p ≡ true) ⊎ ((reader_in a.grammar fences).opens s p ≡ false)
            → cond {A = Option (ℕ × ℕ)} ((reader_in a.grammar fences).opens s p) (Some ((reader_in a.grammar fences).size s p, line_end a.grammar.eol s p)) None ≡ Some (run, e)
            → ((reader_in a.grammar fences).opens s p ≡ true) × (run ≡ (reader_in a.grammar fences).size s p) × (e ≡ line_end a.grammar.eol s p)
        by (inl u) w =
            let z : Some ((reader_in a.grammar fences).size s p, line_end a.grammar.eol s p) ≡ Some (run, e) = rw u at w in
            let k : ((reader_in a.grammar fences).size s p, line_end a.grammar.eol s p) ≡ (run, e) = cc in
            (u, inv (ap (λ (x : ℕ × ℕ). x.0) k), inv (ap (λ (x : ℕ × ℕ). x.1) k))
        by (inr u) w = absurd (let z : None ≡ Some (run, e) = rw u at w in let y : ◌≡◌ {A = ℕ} 0 1 = cc in omega arith)

    shut : d ≡ None → (reader_in a.grammar fences).opens s p ≡ false
    unfolding opening_at
    shut c = by (decide ((reader_in a.grammar fences).opens s p)) (inv hd.answer ∙ c)
      where
        by : ((reader_in a.grammar fences).opens s p ≡ true) ⊎ ((reader_in a.grammar fences).opens s p ≡ false)
            → cond {A = Option (ℕ × ℕ)} ((reader_in a.grammar fences).opens s p) (Some ((reader_in a.grammar fences).size s p, line_end a.grammar.eol s p)) None ≡ None
            → (reader_in a.grammar fences).opens s p ≡ false
        by (inl u) w =
            absurd (let z : Some ((reader_in a.grammar fences).size s p, line_end a.grammar.eol s p) ≡ None = rw u at w in let y : ◌≡◌ {A = ℕ} 0 1 = cc in omega arith)
        by (inr u) w = u

    fence_same : (run e b i : ℕ) → d ≡ Some (run, e) → Gives (get_or s p 0) b → Gives (cell rows b 0) i
        → fenced_by a.grammar s p run e i ≡ fenced (gram_by a fences rows) s p
    unfolding fenced_by close_scan shut_place
    fence_same run e b i c hb hi =
        let w = opened run e c in
        let j : i ≡ cell rows (get_or s p 0) 0 = hi.answer ∙ ap (λ (x : ℕ). cell rows x 0) hb.answer in
        simp (w.1, w.2, j, reader-shuts a.grammar (has_in fences) (least_in fences) (get_or s p 0) ((reader_in a.grammar fences).size s p) s) (by (ltb (shut_place (gram_by a fences rows) s p) (length s)))
      where
        by : (y : Bool) → closed_by s p (cell rows (get_or s p 0) 0) (close_at a.grammar s y (shut_place (gram_by a fences rows) s p)) ≡ fenced_to (gram_by a fences rows) s p y (shut_place (gram_by a fences rows) s p)
        by true = refl
        by false = refl

    pub turn_fence : (run e b i : ℕ) (t : Sight) → d ≡ Some (run, e) → Gives (get_or s p 0) b → Gives (cell rows b 0) i → Gives (turned (fenced_by a.grammar s p run e i)) t
        → t ≡ kept_turn (gram_by a fences rows) s m q
    unfolding kept_turn
    turn_fence run e b i t c hb hi w =
        w.answer ∙ ap turned (fence_same run e b i c hb hi)
        ∙ simp (← hp.here, lt-ltb p (length s) inside, (opened run e c).0)

    sym_same : (b n : ℕ) → sym_turn (fence_gram a.grammar fences) s b n ≡ sym_turn (gram_by a fences rows) s b n
    unfolding sym_turn
    sym_same b n = fun_ext (λ j. by (next_in a.grammar.eol ((reader_in a.grammar fences).enters s) s b j))
      where
        by : (h : Hit) → sym_after (fence_gram a.grammar fences) s b n h ≡ sym_after (gram_by a fences rows) s b n h
        by (hit.At j) = refl
        by (hit.End u) = refl

    asym_same : (c : ℕ) → asym_turn (fence_gram a.grammar fences) s c ≡ asym_turn (gram_by a fences rows) s c
    unfolding asym_turn
    asym_same c = fun_ext (λ j. by (next_in a.grammar.eol ((reader_in a.grammar fences).enters s) s c j))
      where
        by : (h : Hit) → asym_after (fence_gram a.grammar fences) s h ≡ asym_after (gram_by a fences rows) s h
        by (hit.At j) = refl
        by (hit.End u) = refl

    inline-same : (u : Rule) → kept_inline (fence_gram a.grammar fences) s m p (get_or s p 0) u ≡ kept_inline (gram_by a fences rows) s m p (get_or s p 0) u
    unfolding kept_inline
    inline-same plain = refl
    inline-same (sym i n) =
        ap (λ (f : ℕ → Turn ℕ). kept_open (fence_gram a.grammar fences) s m p (get_or s p 0) n Symmetric i f (find (other (is (get_or s p 0))) s p)) (sym_same (get_or s p 0) n)
    inline-same (asym i c n) =
        ap (λ (f : ℕ → Turn ℕ). kept_open (fence_gram a.grammar fences) s m p (get_or s p 0) n Asymmetric i f (find (other (is (get_or s p 0))) s p)) (asym_same c)

    pub turn-inline : (t : Sight) → d ≡ None → Gives (inline_by (fence_gram a.grammar fences) rows s m p) t → t ≡ kept_turn (gram_by a fences rows) s m q
    unfolding kept_turn
    turn-inline t c w =
        w.answer ∙ inline-same (rule_in rows (get_or s p 0))
        ∙ simp (← hp.here, lt-ltb p (length s) inside, shut c)

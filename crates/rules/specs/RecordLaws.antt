-- Laws of fence rules as records: one rule more, and that the kept rules say what all rules of the run say. Assumes nothing.
use Rattle.std.specs.Prelude.{◌≡◌, refl, Bool, true, ◌||◌, ◌&&◌, ◌⊎◌, eqb, ltb, leb, length, take, drop, set, replicate}
use Rattle.std.proofs.Math.Path.{sym as inv, ap, fun_ext}
use Rattle.std.proofs.Common.{subst, ◌∙◌, inl, inr, ⊎_elim, not-suc-le-zero, add-zero, add-one, arith, length-append, drop_of_length-le, take_all, drop-cons, get_or-append-add}
use Rattle.std.proofs.Math.Bool.{false, not, cond, or-true}
use mathlib.Core.List.{List, [], ◌∷◌, ◌++◌, map-append, append-nil, append_assoc}
use Prim.Native.Nat.{ℕ, zero, suc, ◌+◌, ◌-◌, ◌≤◌, ◌<◌, min}
use Rattle.std.proofs.Math.ListN.{get_or, get_or-append}
use Rattle.std.proofs.lemmas.List.{length-map}
use borrow.Author.Tests.{eq-eqb, eqb-true, eqb-false, lt-ltb, le-ltb, ltb-true, ltb-false, ne_eqb, le-leb, lt-leb, leb-true, leb-false}
use Rattle.search.specs.Promise.{Gives}
use Rattle.search.specs.Search.{is, one_of, find}
use Rattle.search.specs.SearchLaws.{decide, clash, is_yes, is_no, is_true, one_append, find_here, find-next, find_end, find_at, find_before, find_prefix, find_past}
use Rattle.common.specs.Sets.{padded}
use Rattle.common.specs.Rules.{rule_index, has_rule, least_of, on_byte}
use Rattle.common.specs.declared.grammar.Grammar.{Grammar}
use Rattle.lines.specs.Reader.{reader}
use Rattle.rules.specs.Grammar.{plain, Gram}
use Rattle.rules.specs.Columns.{Columns, inline_rules, columns, inline_of, columns_of, how_many, rule_byte, left_out, searched, holding, gained, gained_all, inline_rule, fence_index_of, gram_of}
use Rattle.rules.specs.ColumnLaws.{pad_take, pad_set}
use Rattle.rules.specs.Records.{no_rule, no_rules, rule_bytes, rule_mins, kept_bytes, kept_mins, unkept, with_rule, OneMore, KeptColumns, gathered_from, gathered_of, AllGathered}
use Rattle.rules.specs.declared.columns.InlineColumns.{InlineColumns}
use Rattle.rules.specs.declared.columns.RuleColumns.{RuleColumns}
use Rattle.rules.specs.declared.records.FenceRule.{FenceRule}
use Rattle.rules.specs.declared.records.Gathered.{Gathered}

-- the same grammar, each fence rule at the index that h gives for its own
abbrev pub reindexed : (ℕ → ℕ) → Gram → Gram
reindexed h g = record { eol = g.eol; escape = g.escape; trigger = g.trigger; rule = g.rule; fence_index = λ b. h (g.fence_index b); fences = g.fences }

-- the index in the run of the rule that is kept at k
abbrev pub own_place : Gathered → ℕ → ℕ
own_place f k = get_or f.places k 0

-- ---- the ways out of one rule more
module _ (f : Gathered) (r : FenceRule) (i : ℕ) (small : r.byte < 256) where
  pub rule_full : 256 ≤ f.count → OneMore f r i (record { bytes = f.bytes; mins = f.mins; places = f.places; count = f.count; last = i })
  unfolding with_rule
  rule_full h = record { answer = simp (le-leb 256 f.count h); small = small }

  module _ (y : Bool) (held : Gives (one_of (take f.count f.bytes) r.byte) y) (few : f.count < 256) where
    pub rule_held : y ≡ true → OneMore f r i (record { bytes = f.bytes; mins = f.mins; places = f.places; count = f.count; last = i })
    unfolding with_rule
    rule_held e = record { answer = simp (lt-leb 256 f.count few, ← held.answer, e); small = small }

    pub rule_more : y ≡ false
        → OneMore f r i (record { bytes = set f.bytes f.count r.byte; mins = set f.mins f.count r.min; places = set f.places f.count i; count = f.count + 1; last = i })
    unfolding with_rule
    rule_more e = record { answer = simp (lt-leb 256 f.count few, ← held.answer, e); small = small }

-- ---- a column with one byte more behind it
module _ (bs : List ℕ) (b : ℕ) where
  abbrev more : List ℕ
  more = bs ++ (b ∷ [])

  more-length : length more ≡ length bs + 1
  more-length = length-append bs (b ∷ [])

  last : get_or more (length bs) 0 ≡ b
  last =
      let e : length bs + 0 ≡ length bs = add-zero (length bs) in
      ap (λ (k : ℕ). get_or more k 0) (inv e) ∙ get_or-append-add bs (b ∷ []) 0 0

  -- the first rule with a byte x: one that was there; the new one; or none
  index_old : (x : ℕ) → has_rule bs x ≡ true → rule_index more x ≡ rule_index bs x
  index_old x e = find_prefix (is x) bs (b ∷ []) 0 (ltb-true (rule_index bs x) (length bs) e)

  index_late : (x : ℕ) → has_rule bs x ≡ false → rule_index more x ≡ find (is x) more (length bs)
  index_late x e = find_past (is x) bs (b ∷ []) 0 (omega arith) (ltb-false (rule_index bs x) (length bs) e)

  index_new : has_rule bs b ≡ false → rule_index more b ≡ length bs
  index_new e = index_late b e ∙ find_here (is b) more (length bs) (omega (arith, more-length)) (is_yes b (get_or more (length bs) 0) last)

  index_none : (x : ℕ) → has_rule bs x ≡ false → (x ≡ b → ⊥) → rule_index more x ≡ length bs + 1
  index_none x e d =
      index_late x e ∙ find-next (is x) more (length bs) (omega (arith, more-length)) (is_no x (get_or more (length bs) 0) (λ z. d (inv z ∙ last)))
      ∙ find_end (is x) more (length bs + 1) (omega (arith, more-length))

  has_old : (x : ℕ) → has_rule bs x ≡ true → has_rule more x ≡ true
  has_old x e = lt-ltb (rule_index more x) (length more) (omega (arith, index_old x e, ltb-true (rule_index bs x) (length bs) e, more-length))

  has_new : has_rule bs b ≡ false → has_rule more b ≡ true
  has_new e = lt-ltb (rule_index more b) (length more) (omega (arith, index_new e, more-length))

  has_none : (x : ℕ) → has_rule bs x ≡ false → (x ≡ b → ⊥) → has_rule more x ≡ false
  has_none x e d = le-ltb (rule_index more x) (length more) (omega (arith, index_none x e d, more-length))

  -- a byte that had a rule, or is another than the new one
  abbrev OldOrOther : ℕ → Type 0
  OldOrOther x = (has_rule bs x ≡ true) ⊎ (x ≡ b → ⊥)

  has_kept : (x : ℕ) → OldOrOther x → has_rule more x ≡ has_rule bs x
  has_kept x k = by k (decide (has_rule bs x))
    where
      by : OldOrOther x → (has_rule bs x ≡ true) ⊎ (has_rule bs x ≡ false) → has_rule more x ≡ has_rule bs x
      by k (inl e) = has_old x e ∙ inv e
      by (inl u) (inr e) = absurd (clash u e)
      by (inr d) (inr e) = has_none x e d ∙ inv e

  index_kept : (x : ℕ) → OldOrOther x → fence_index_of more x ≡ fence_index_of bs x
  index_kept x k = by (decide (has_rule bs x))
    where
      by : (has_rule bs x ≡ true) ⊎ (has_rule bs x ≡ false) → fence_index_of more x ≡ fence_index_of bs x
      by (inl e) = rw (has_kept x k, e, index_old x e)
      by (inr e) = rw (has_kept x k, e)

  least_kept : (ms : List ℕ) (m : ℕ) → length bs ≡ length ms → (x : ℕ) → OldOrOther x → least_of more (ms ++ (m ∷ [])) x ≡ least_of bs ms x
  least_kept ms m same x k = by (decide (has_rule bs x))
    where
      by : (has_rule bs x ≡ true) ⊎ (has_rule bs x ≡ false) → least_of more (ms ++ (m ∷ [])) x ≡ least_of bs ms x
      by (inl e) = rw (has_kept x k, e, index_old x e) (get_or-append ms (m ∷ []) 0 (rule_index bs x) (omega (arith, ltb-true (rule_index bs x) (length bs) e)))
      by (inr e) = rw (has_kept x k, e)

  -- the new rule's minimum and index, where it is the first with its byte
  least_new : (ms : List ℕ) (m : ℕ) → length bs ≡ length ms → has_rule bs b ≡ false → least_of more (ms ++ (m ∷ [])) b ≡ m
  least_new ms m same e =
      let z : rule_index more b ≡ length ms + 0 = index_new e ∙ same ∙ inv (add-zero (length ms)) in
      rw (has_new e, z) (get_or-append-add ms (m ∷ []) 0 0)

  fence_new : has_rule bs b ≡ false → fence_index_of more b ≡ length bs
  fence_new e = rw (has_new e, index_new e)

-- ---- the bytes searched for
gained-more : (l bs : List ℕ) (b : ℕ) → gained_all l (bs ++ (b ∷ [])) ≡ gained (gained_all l bs) b
gained-more l [] b = refl
gained-more l (x ∷ bs) b = gained-more (gained l x) bs b

held_same : (l : List ℕ) (b : ℕ) → holding l b ≡ true → gained l b ≡ l
held_same l b e = rw e

-- a byte that a list has, a longer one has
pub one_first : (l k : List ℕ) (b : ℕ) → one_of l b ≡ true → one_of (l ++ k) b ≡ true
unfolding one_of
one_first [] k b e = absurd (clash e refl)
one_first (x ∷ l) k b e = by (decide (eqb b x)) (one_first l k b)
  where
    by : (eqb b x ≡ true) ⊎ (eqb b x ≡ false) → (one_of l b ≡ true → one_of (l ++ k) b ≡ true) → (eqb b x || one_of (l ++ k) b) ≡ true
    by (inl u) i = rw u
    by (inr u) i = rw u (i (rw u at e))

one_last : (l : List ℕ) (b : ℕ) → one_of (l ++ (b ∷ [])) b ≡ true
unfolding one_of
one_last [] b = rw (eq-eqb b b refl)
one_last (x ∷ l) b = rw (one_last l b) (or-true (eqb b x))

held_more : (l : List ℕ) (b c : ℕ) → holding l b ≡ true → holding (gained l c) b ≡ true
held_more l b c e = by (decide (leb 11 (length l))) (decide (one_of l c))
  where
    by : (leb 11 (length l) ≡ true) ⊎ (leb 11 (length l) ≡ false) → (one_of l c ≡ true) ⊎ (one_of l c ≡ false) → holding (gained l c) b ≡ true
    by (inl u) v = rw (u, u)
    by (inr u) (inl v) = rw (u, v) e
    by (inr u) (inr v) =
        let z : one_of l b ≡ true = rw u at e in
        rw (u, v) (rw (one_first l (c ∷ []) b z) (or-true (leb 11 (length (l ++ (c ∷ []))))))

held_new : (l : List ℕ) (b : ℕ) → holding (gained l b) b ≡ true
held_new l b = by (decide (leb 11 (length l))) (decide (one_of l b))
  where
    by : (leb 11 (length l) ≡ true) ⊎ (leb 11 (length l) ≡ false) → (one_of l b ≡ true) ⊎ (one_of l b ≡ false) → holding (gained l b) b ≡ true
    by (inl u) v = rw (u, u)
    by (inr u) (inl v) = rw (u, v, u, v)
    by (inr u) (inr v) = rw (u, v) (rw (one_last l b) (or-true (leb 11 (length (l ++ (b ∷ []))))))

held_all : (l bs : List ℕ) (b : ℕ) → holding l b ≡ true → holding (gained_all l bs) b ≡ true
held_all l [] b e = e
held_all l (x ∷ bs) b e = held_all (gained l x) bs b (held_more l b x e)

held_at : (l bs : List ℕ) (b k : ℕ) → k < length bs → get_or bs k 0 ≡ b → holding (gained_all l bs) b ≡ true
held_at l [] b k h e = absurd (not-suc-le-zero h)
held_at l (x ∷ bs) b zero h e = rw e (held_all (gained l b) bs b (held_new l b))
held_at l (x ∷ bs) b (suc k) h e = held_at (gained l x) bs b k (omega arith) e

held_rule : (bs : List ℕ) (b : ℕ) → has_rule bs b ≡ true → holding (gained_all [] bs) b ≡ true
held_rule bs b e =
    let h = ltb-true (rule_index bs b) (length bs) e in
    held_at [] bs b (rule_index bs b) h (is_true b (get_or bs (rule_index bs b) 0) (find_at (is b) bs 0 h))

-- a rule has a byte exactly where it is one of the column's
pub one_at : (l : List ℕ) (x k : ℕ) → k < length l → get_or l k 0 ≡ x → one_of l x ≡ true
unfolding one_of
one_at [] x k h e = absurd (not-suc-le-zero h)
one_at (y ∷ l) x zero h e = rw (eq-eqb x y (inv e))
one_at (y ∷ l) x (suc k) h e = ap (λ (z : Bool). eqb x y || z) (one_at l x k (omega arith) e) ∙ or-true (eqb x y)

one_none : (l : List ℕ) (x : ℕ) → ((k : ℕ) → k < length l → is x (get_or l k 0) ≡ false) → one_of l x ≡ false
unfolding one_of is
one_none [] x h = refl
one_none (y ∷ l) x h = let z : eqb x y ≡ false = ne_eqb x y (λ e. eqb-false y x (h 0 (omega arith)) (inv e)) in rw z (one_none l x (λ k i. h (suc k) (omega arith)))

pub has_one : (bs : List ℕ) (x : ℕ) → one_of bs x ≡ has_rule bs x
has_one bs x = by (decide (has_rule bs x))
  where
    by : (has_rule bs x ≡ true) ⊎ (has_rule bs x ≡ false) → one_of bs x ≡ has_rule bs x
    by (inl e) =
        let h = ltb-true (rule_index bs x) (length bs) e in
        one_at bs x (rule_index bs x) h (is_true x (get_or bs (rule_index bs x) 0) (find_at (is x) bs 0 h)) ∙ inv e
    by (inr e) =
        let h = ltb-false (rule_index bs x) (length bs) e in
        one_none bs x (λ k i. find_before (is x) bs 0 k (omega arith) (omega arith)) ∙ inv e

-- ---- how many numbers below n pass a test
counted_le : (t : ℕ → Bool) (n : ℕ) → how_many t n ≤ n
unfolding how_many
counted_le t zero = omega arith
counted_le t (suc n) = by (t n) (counted_le t n)
  where
    by : (y : Bool) → how_many t n ≤ n → cond y 1 0 + how_many t n ≤ suc n
    by true h = omega arith
    by false h = omega arith

-- so at most 256 bytes are left out
pub dropped_few : (c : Columns) → left_out c ≤ 256
unfolding left_out
dropped_few c = counted_le (λ b. rule_byte c.fence_bytes c.inline.sym_bytes c.inline.openers b && not (one_of (searched c) b)) 256

-- as many as there are: each passes
counted-all : (t : ℕ → Bool) (n b : ℕ) → how_many t n ≡ n → b < n → t b ≡ true
unfolding how_many
counted-all t zero b e h = absurd (not-suc-le-zero h)
counted-all t (suc n) b e h = by (decide (t n)) (decide (ltb b n)) (counted_le t n) (counted-all t n b)
  where
    by : (t n ≡ true) ⊎ (t n ≡ false) → (ltb b n ≡ true) ⊎ (ltb b n ≡ false) → how_many t n ≤ n → (how_many t n ≡ n → b < n → t b ≡ true) → t b ≡ true
    by (inl u) (inl v) k ih = let z : 1 + how_many t n ≡ suc n = rw u at e in ih (omega arith) (ltb-true b n v)
    by (inl u) (inr v) k ih = let z : b ≡ n = omega (arith, ltb-false b n v) in rw z u
    by (inr u) v k ih = let z : 0 + how_many t n ≡ suc n = rw u at e in absurd (omega arith)

-- one more: b
module _ (t t' : ℕ → Bool) (b : ℕ) (before : t b ≡ false) (now : t' b ≡ true) (others : (x : ℕ) → (x ≡ b → ⊥) → t' x ≡ t x) where
  pub counted-more : (n : ℕ) → how_many t' n ≡ how_many t n + cond (ltb b n) 1 0
  unfolding how_many
  counted-more zero = rw (le-ltb b 0 (omega arith))
  counted-more (suc n) = by (decide (eqb n b)) (decide (ltb b n)) (counted-more n)
    where
      by : (eqb n b ≡ true) ⊎ (eqb n b ≡ false) → (ltb b n ≡ true) ⊎ (ltb b n ≡ false) → how_many t' n ≡ how_many t n + cond (ltb b n) 1 0
          → cond (t' n) 1 0 + how_many t' n ≡ cond (t n) 1 0 + how_many t n + cond (ltb b (suc n)) 1 0
      by (inl u) v ih =
          let z : n ≡ b = eqb-true n b u in
          let w : how_many t' n ≡ how_many t n + 0 = rw (le-ltb b n (omega arith)) at ih in
          rw (ap t' z ∙ now, ap t z ∙ before, lt-ltb b (suc n) (omega arith)) (omega arith)
      by (inr u) (inl v) ih =
          let w : how_many t' n ≡ how_many t n + 1 = rw v at ih in
          rw (others n (eqb-false n b u), lt-ltb b (suc n) (omega (arith, ltb-true b n v))) (omega arith)
      by (inr u) (inr v) ih =
          let w : how_many t' n ≡ how_many t n + 0 = rw v at ih in
          let z : suc n ≤ b = by_order (eqb-false n b u) (ltb-false b n v) in
          rw (others n (eqb-false n b u), le-ltb b (suc n) z) (omega arith)
        where
          by_order : (n ≡ b → ⊥) → n ≤ b → suc n ≤ b
          by_order d l = omega (arith, d)

-- ---- the kept rules of columns: what is asked of rules they say as all do, and each knows its own index
record KeptRules (bs ms kb km kp : List ℕ) : Type 0 where
  mins : length kb ≡ length km
  places : length kb ≡ length kp
  one : (x : ℕ) → one_of kb x ≡ has_rule bs x
  has : (x : ℕ) → has_rule kb x ≡ has_rule bs x
  least : (x : ℕ) → least_of kb km x ≡ least_of bs ms x
  own : (x : ℕ) → get_or kp (fence_index_of kb x) 0 ≡ fence_index_of bs x
  none : get_or kp 0 0 ≡ 0
  search : gained_all [] kb ≡ gained_all [] bs
  few : length kb ≡ how_many (one_of kb) 256

kept-first : KeptRules [] [] [] [] []
unfolding one_of how_many
kept-first = record {
  mins = refl;
  places = refl;
  one = λ x. rw (le-ltb (rule_index [] x) 0 (omega arith));
  has = λ x. refl;
  least = λ x. refl;
  own = λ x. rw (le-ltb (rule_index [] x) 0 (omega arith));
  none = refl;
  search = refl;
  few = refl;
}

module _ (bs ms kb km kp : List ℕ) (same : length bs ≡ length ms) (w : KeptRules bs ms kb km kp) (b m : ℕ) where
  -- a rule whose byte came before
  kept_again : has_rule bs b ≡ true → KeptRules (bs ++ (b ∷ [])) (ms ++ (m ∷ [])) kb km kp
  kept_again e = record {
    mins = w.mins;
    places = w.places;
    one = λ x. w.one x ∙ inv (has_kept bs b x (all x));
    has = λ x. w.has x ∙ inv (has_kept bs b x (all x));
    least = λ x. w.least x ∙ inv (least_kept bs b ms m same x (all x));
    own = λ x. w.own x ∙ inv (index_kept bs b x (all x));
    none = w.none;
    search = w.search ∙ inv (gained-more [] bs b ∙ held_same (gained_all [] bs) b (held_rule bs b e));
    few = w.few;
  }
    where
      all : (x : ℕ) → OldOrOther bs b x
      all x = ⊎_elim (λ (u : eqb x b ≡ true). inl (ap (has_rule bs) (eqb-true x b u) ∙ e)) (λ u. inr (eqb-false x b u)) (decide (eqb x b))

  -- a rule with a new byte
  module _ (e : has_rule bs b ≡ false) where
    fresh : has_rule kb b ≡ false
    fresh = w.has b ∙ e

    -- the first rule of the run is kept, at place 0
    first-own : get_or (kp ++ (length bs ∷ [])) 0 0 ≡ 0
    first-own = by (decide (ltb 0 (length kp))) (decide (ltb 0 (length bs)))
      where
        by : (ltb 0 (length kp) ≡ true) ⊎ (ltb 0 (length kp) ≡ false) → (ltb 0 (length bs) ≡ true) ⊎ (ltb 0 (length bs) ≡ false) → get_or (kp ++ (length bs ∷ [])) 0 0 ≡ 0
        by (inl u) v = get_or-append kp (length bs ∷ []) 0 0 (ltb-true 0 (length kp) u) ∙ w.none
        by (inr u) (inl v) =
            let h = ltb-true 0 (length bs) v in
            let x = get_or bs 0 0 in
            let z : has_rule bs x ≡ true = lt-ltb (rule_index bs x) (length bs) (omega (arith, find_here (is x) bs 0 h (is_yes x x refl))) in
            absurd (omega (arith, ltb-true (rule_index kb x) (length kb) (w.has x ∙ z), w.places, ltb-false 0 (length kp) u))
        by (inr u) (inr v) =
            let l : length kp + 0 ≡ 0 = omega (arith, ltb-false 0 (length kp) u) in
            let z : length bs ≡ 0 = omega (arith, ltb-false 0 (length bs) v) in
            ap (λ (k : ℕ). get_or (kp ++ (length bs ∷ [])) k 0) (inv l) ∙ get_or-append-add kp (length bs ∷ []) 0 0 ∙ z

    -- by cases: the new byte, or another
    split : (P : ℕ → Type 0) → P b → ((x : ℕ) → (x ≡ b → ⊥) → P x) → (x : ℕ) → P x
    split P here there x = by (decide (eqb x b))
      where
        by : (eqb x b ≡ true) ⊎ (eqb x b ≡ false) → P x
        by (inl u) = let z : x ≡ b = eqb-true x b u in rw z here
        by (inr u) = there x (eqb-false x b u)

    one_new : one_of (kb ++ (b ∷ [])) b ≡ true
    one_new = one_last kb b

    no_more : (y : Bool) → (y || false) ≡ y
    no_more true = refl
    no_more false = refl

    one_other : (x : ℕ) → (x ≡ b → ⊥) → one_of (kb ++ (b ∷ [])) x ≡ one_of kb x
    unfolding one_of
    one_other x d = one_append kb (b ∷ []) x ∙ rw (ne_eqb x b d) (no_more (one_of kb x))

    own-other : (x : ℕ) → (x ≡ b → ⊥) → get_or (kp ++ (length bs ∷ [])) (fence_index_of (kb ++ (b ∷ [])) x) 0 ≡ fence_index_of (bs ++ (b ∷ [])) x
    own-other x d =
        ap (λ (k : ℕ). get_or (kp ++ (length bs ∷ [])) k 0) (index_kept kb b x (inr d)) ∙ by (decide (has_rule kb x)) ∙ inv (index_kept bs b x (inr d))
      where
        by : (has_rule kb x ≡ true) ⊎ (has_rule kb x ≡ false) → get_or (kp ++ (length bs ∷ [])) (fence_index_of kb x) 0 ≡ fence_index_of bs x
        by (inl u) =
            let z : fence_index_of kb x ≡ rule_index kb x = rw u in
            get_or-append kp (length bs ∷ []) 0 (fence_index_of kb x) (omega (arith, w.places, z, ltb-true (rule_index kb x) (length kb) u)) ∙ w.own x
        by (inr u) =
            let z : fence_index_of kb x ≡ 0 = rw u in
            ap (λ (k : ℕ). get_or (kp ++ (length bs ∷ [])) k 0) z ∙ first-own ∙ inv (inv (w.own x) ∙ ap (λ (k : ℕ). get_or kp k 0) z ∙ w.none)

    own_new : get_or (kp ++ (length bs ∷ [])) (fence_index_of (kb ++ (b ∷ [])) b) 0 ≡ fence_index_of (bs ++ (b ∷ [])) b
    own_new =
        let l : fence_index_of (kb ++ (b ∷ [])) b ≡ length kp + 0 = fence_new kb b fresh ∙ w.places ∙ inv (add-zero (length kp)) in
        ap (λ (k : ℕ). get_or (kp ++ (length bs ∷ [])) k 0) l ∙ get_or-append-add kp (length bs ∷ []) 0 0 ∙ inv (fence_new bs b e)

    kept_more : b < 256 → KeptRules (bs ++ (b ∷ [])) (ms ++ (m ∷ [])) (kb ++ (b ∷ [])) (km ++ (m ∷ [])) (kp ++ (length bs ∷ []))
    kept_more h = record {
      mins = omega (arith, length-append kb (b ∷ []), length-append km (m ∷ []), w.mins);
      places = omega (arith, length-append kb (b ∷ []), length-append kp (length bs ∷ []), w.places);
      one = split (λ x. one_of (kb ++ (b ∷ [])) x ≡ has_rule (bs ++ (b ∷ [])) x) (one_new ∙ inv (has_new bs b e)) (λ x d. one_other x d ∙ w.one x ∙ inv (has_kept bs b x (inr d)));
      has = split (λ x. has_rule (kb ++ (b ∷ [])) x ≡ has_rule (bs ++ (b ∷ [])) x) (has_new kb b fresh ∙ inv (has_new bs b e)) (λ x d. has_kept kb b x (inr d) ∙ w.has x ∙ inv (has_kept bs b x (inr d)));
      least = split (λ x. least_of (kb ++ (b ∷ [])) (km ++ (m ∷ [])) x ≡ least_of (bs ++ (b ∷ [])) (ms ++ (m ∷ [])) x) (least_new kb b km m w.mins fresh ∙ inv (least_new bs b ms m same e))
          (λ x d. least_kept kb b km m w.mins x (inr d) ∙ w.least x ∙ inv (least_kept bs b ms m same x (inr d)));
      own = split (λ x. get_or (kp ++ (length bs ∷ [])) (fence_index_of (kb ++ (b ∷ [])) x) 0 ≡ fence_index_of (bs ++ (b ∷ [])) x) own_new own-other;
      none = first-own;
      search = gained-more [] kb b ∙ ap (λ (l : List ℕ). gained l b) w.search ∙ inv (gained-more [] bs b);
      few = let z : how_many (one_of (kb ++ (b ∷ []))) 256 ≡ how_many (one_of kb) 256 + 1 = rw (lt-ltb b 256 h) at (counted-more (one_of kb) (one_of (kb ++ (b ∷ []))) b (w.one b ∙ e) one_new one_other 256) in
          omega (arith, length-append kb (b ∷ []), w.few);
    }

-- 256 places are always enough
module _ (bs ms kb km kp : List ℕ) (w : KeptRules bs ms kb km kp) where
  kept-few : length kb ≤ 256
  kept-few = omega (arith, w.few, counted_le (one_of kb) 256)

  kept_full : (b : ℕ) → 256 ≤ length kb → b < 256 → has_rule bs b ≡ true
  kept_full b l h = inv (w.one b) ∙ counted-all (one_of kb) 256 b (omega (arith, w.few, counted_le (one_of kb) 256)) h

  -- the grammar of all rules is that of the kept ones, each at its own index
  kept_gram : (g : Grammar) (y t o k n : List ℕ) → gram_of g (columns bs ms y t o k n) ≡ reindexed (λ i. get_or kp i 0) (gram_of g (columns kb km y t o k n))
  unfolding searched
  kept_gram g y t o k n =
      ap (λ (z : List ℕ). with z (on_byte 0 (fence_index_of bs)) (on_byte false (has_rule bs)) (on_byte 0 (least_of bs ms))) (ap (λ (z : List ℕ). gained_all (gained_all z y) o) (inv w.search))
      ∙ ap (λ (z : ℕ → ℕ). with bytes z (on_byte false (has_rule bs)) (on_byte 0 (least_of bs ms))) (fun_ext (λ x. index x (decide (ltb x 256))))
      ∙ ap (λ (z : ℕ → Bool). with bytes (λ x. get_or kp (on_byte 0 (fence_index_of kb) x) 0) (on_byte false z) (on_byte 0 (least_of bs ms))) (fun_ext (λ x. inv (w.has x)))
      ∙ ap (λ (z : ℕ → ℕ). with bytes (λ x. get_or kp (on_byte 0 (fence_index_of kb) x) 0) (on_byte false (has_rule kb)) (on_byte 0 z)) (fun_ext (λ x. inv (w.least x)))
    where
      bytes : List ℕ
      bytes = gained_all (gained_all (gained_all [] kb) y) o

      with : List ℕ → (ℕ → ℕ) → (ℕ → Bool) → (ℕ → ℕ) → Gram
      with l index has least = record { eol = g.eol; escape = g.escape; trigger = one_of l; rule = on_byte plain (inline_rule (inline_rules y t o k n)); fence_index = index; fences = reader g has least }

      index : (x : ℕ) → (ltb x 256 ≡ true) ⊎ (ltb x 256 ≡ false) → on_byte 0 (fence_index_of bs) x ≡ get_or kp (on_byte 0 (fence_index_of kb) x) 0
      index x (inl u) = rw u (inv (w.own x))
      index x (inr u) = rw u (inv w.none)

  -- as many bytes are left out
  kept-left : (ms' : List ℕ) (y t o k n : List ℕ) → left_out (columns bs ms y t o k n) ≡ left_out (columns kb ms' y t o k n)
  unfolding left_out searched
  kept-left ms' y t o k n =
      ap (λ (z : List ℕ). how_many (λ x. rule_byte bs y o x && not (one_of (gained_all (gained_all z y) o) x)) 256) (inv w.search)
      ∙ ap (λ (z : ℕ → Bool). how_many (λ x. (z x || (one_of y x || one_of o x)) && not (one_of (gained_all (gained_all (gained_all [] kb) y) o) x)) 256) (fun_ext (λ x. has_one bs x ∙ inv (w.one x)))

-- ---- gathering: the arrays and the count are the kept rules' columns
abbrev packed : List ℕ → List ℕ → List ℕ → ℕ → Gathered
packed kb km kp l = record { bytes = padded 256 kb; mins = padded 256 km; places = padded 256 kp; count = length kb; last = l }

record RunKept (rules : List FenceRule) (f : Gathered) : Type 0 where
  kb : List ℕ
  km : List ℕ
  kp : List ℕ
  last : ℕ
  kept : KeptRules (rule_bytes rules) (rule_mins rules) kb km kp
  same : f ≡ packed kb km kp last

pub rules_even : (rules : List FenceRule) → length (rule_bytes rules) ≡ length (rule_mins rules)
rules_even rules = length-map rules (λ r. r.byte) ∙ inv (length-map rules (λ r. r.min))

keeps_more : (rules : List FenceRule) (f : Gathered) (r : FenceRule) → r.byte < 256 → RunKept rules f → RunKept (rules ++ (r ∷ [])) (with_rule f r (length rules))
unfolding with_rule
keeps_more rules f r h v = by (decide (leb 256 (length v.kb))) (decide (one_of v.kb r.byte))
  where
    few : length v.kb ≤ 256
    few = kept-few (rule_bytes rules) (rule_mins rules) v.kb v.km v.kp v.kept

    -- the columns of one rule more
    longer : {xs ys zs : List ℕ} → KeptRules (rule_bytes rules ++ (r.byte ∷ [])) (rule_mins rules ++ (r.min ∷ [])) xs ys zs → KeptRules (rule_bytes (rules ++ (r ∷ []))) (rule_mins (rules ++ (r ∷ []))) xs ys zs
    longer k = rw (map-append (λ x. x.byte) rules (r ∷ []), map-append (λ x. x.min) rules (r ∷ [])) k

    dropped : unkept (packed v.kb v.km v.kp v.last) r.byte ≡ true → has_rule (rule_bytes rules) r.byte ≡ true → RunKept (rules ++ (r ∷ [])) (with_rule f r (length rules))
    dropped u e = record {
      kb = v.kb;
      km = v.km;
      kp = v.kp;
      last = length rules;
      kept = longer (kept_again (rule_bytes rules) (rule_mins rules) v.kb v.km v.kp (rules_even rules) v.kept r.byte r.min e);
      same = ap (λ (z : Gathered). with_rule z r (length rules)) v.same ∙ rw u;
    }

    added : length v.kb < 256 → unkept (packed v.kb v.km v.kp v.last) r.byte ≡ false → has_rule (rule_bytes rules) r.byte ≡ false → RunKept (rules ++ (r ∷ [])) (with_rule f r (length rules))
    added l u e =
        let p = ap (λ (k : ℕ). set (padded 256 v.km) k r.min) v.kept.mins ∙ pad_set 256 v.km r.min (omega (arith, v.kept.mins)) in
        let q = ap (λ (k : ℕ). set (padded 256 v.kp) k (length rules)) v.kept.places ∙ pad_set 256 v.kp (length rules) (omega (arith, v.kept.places)) ∙ ap (λ (i : ℕ). padded 256 (v.kp ++ (i ∷ []))) (inv (length-map rules (λ x. x.byte))) in
        record {
          kb = v.kb ++ (r.byte ∷ []);
          km = v.km ++ (r.min ∷ []);
          kp = v.kp ++ (length (rule_bytes rules) ∷ []);
          last = length rules;
          kept = longer (kept_more (rule_bytes rules) (rule_mins rules) v.kb v.km v.kp (rules_even rules) v.kept r.byte r.min e h);
          same = ap (λ (z : Gathered). with_rule z r (length rules)) v.same ∙ rw u (λ j. record { bytes = pad_set 256 v.kb r.byte l j; mins = p j; places = q j; count = inv (length-append v.kb (r.byte ∷ [])) j; last = length rules });
        }

    by : (leb 256 (length v.kb) ≡ true) ⊎ (leb 256 (length v.kb) ≡ false) → (one_of v.kb r.byte ≡ true) ⊎ (one_of v.kb r.byte ≡ false) → RunKept (rules ++ (r ∷ [])) (with_rule f r (length rules))
    by (inl u) e = dropped (rw u) (kept_full (rule_bytes rules) (rule_mins rules) v.kb v.km v.kp v.kept r.byte (leb-true 256 (length v.kb) u) h)
    by (inr u) (inl e) = dropped (rw (u, pad_take 256 v.kb few) e) (inv (v.kept.one r.byte) ∙ e)
    by (inr u) (inr e) = added (leb-false 256 (length v.kb) u) (rw (u, pad_take 256 v.kb few) e) (inv (v.kept.one r.byte) ∙ e)

-- one rule more, and the others behind it
keeps_step : (rules rest : List FenceRule) (r : FenceRule) (f : Gathered) → RunKept ((rules ++ (r ∷ [])) ++ rest) f → RunKept (rules ++ (r ∷ rest)) f
keeps_step rules rest r f v = subst (λ (l : List FenceRule). RunKept l f) (append_assoc rules (r ∷ []) rest) v

keeps_at : (rules : List FenceRule) (f : Gathered) (r : FenceRule) (i : ℕ) → i ≡ length rules → r.byte < 256 → RunKept rules f → RunKept (rules ++ (r ∷ [])) (with_rule f r i)
keeps_at rules f r i e h v = subst (λ (k : ℕ). RunKept (rules ++ (r ∷ [])) (with_rule f r k)) (inv e) (keeps_more rules f r h v)

keeps_all : (rest rules : List FenceRule) (f : Gathered) (i : ℕ) → i ≡ length rules → RunKept rules f → ((j : ℕ) → j < length rest → (get_or rest j no_rule).byte < 256) → RunKept (rules ++ rest) (gathered_from f i rest)
unfolding gathered_from
keeps_all [] rules f i e v h = subst (λ (l : List FenceRule). RunKept l f) (inv (append-nil rules)) v
keeps_all (r ∷ rest) rules f i e v h =
    keeps_step rules rest r (gathered_from (with_rule f r i) (suc i) rest)
    (keeps_all rest (rules ++ (r ∷ [])) (with_rule f r i) (suc i) (omega (arith, length-append rules (r ∷ []))) (keeps_at rules f r i e (h 0 (omega arith)) v) (λ j l. h (suc j) (omega arith)))

-- no rules
pad_none : (n : ℕ) → replicate n 0 ≡ padded n []
pad_none zero = refl
pad_none (suc n) = ap (λ (l : List ℕ). 0 ∷ l) (pad_none n)

pad_at : (n : ℕ) (l : List ℕ) (i : ℕ) → length l ≤ n → get_or (padded n l) i 0 ≡ get_or l i 0
pad_at zero [] i h = refl
pad_at zero (x ∷ l) i h = absurd (not-suc-le-zero h)
pad_at (suc n) [] zero h = refl
pad_at (suc n) [] (suc i) h = pad_at n [] i (omega arith)
pad_at (suc n) (x ∷ l) zero h = refl
pad_at (suc n) (x ∷ l) (suc i) h = pad_at n l i (omega arith)

keeps_none : RunKept [] no_rules
keeps_none = record { kb = []; km = []; kp = []; last = 0; kept = kept-first; same = λ j. record { bytes = pad_none 256 j; mins = pad_none 256 j; places = pad_none 256 j; count = 0; last = 0 } }

-- ---- the kept rules of a run that was gathered
module _ (rules : List FenceRule) (f : Gathered) (w : AllGathered rules f) where
  keeps : RunKept rules f
  keeps = subst (RunKept rules) (inv w.answer) (keeps_all rules [] no_rules 0 refl keeps_none w.small)

  fit : length keeps.kb ≤ 256
  fit = kept-few (rule_bytes rules) (rule_mins rules) keeps.kb keeps.km keeps.kp keeps.kept

  bytes_are : kept_bytes f ≡ keeps.kb
  bytes_are = ap kept_bytes keeps.same ∙ pad_take 256 keeps.kb fit

  mins_are : kept_mins f ≡ keeps.km
  mins_are = ap kept_mins keeps.same ∙ ap (λ (n : ℕ). take n (padded 256 keeps.km)) keeps.kept.mins ∙ pad_take 256 keeps.km (omega (arith, fit, keeps.kept.mins))

  places_are : own_place f ≡ (λ i. get_or keeps.kp i 0)
  places_are = fun_ext (λ i. ap (λ (z : Gathered). own_place z i) keeps.same ∙ pad_at 256 keeps.kp i (omega (arith, fit, keeps.kept.places)))

  pub kept_even : length (kept_bytes f) ≡ length (kept_mins f)
  kept_even = ap length bytes_are ∙ keeps.kept.mins ∙ inv (ap length mins_are)

  -- the grammar of the run's columns is that of the kept rules' columns, each kept rule at its own index
  pub gathered_gram : (g : Grammar) (y t o k n : List ℕ) → gram_of g (columns (rule_bytes rules) (rule_mins rules) y t o k n) ≡ reindexed (own_place f) (gram_of g (columns (kept_bytes f) (kept_mins f) y t o k n))
  gathered_gram g y t o k n =
      kept_gram (rule_bytes rules) (rule_mins rules) keeps.kb keeps.km keeps.kp keeps.kept g y t o k n
      ∙ (λ j. reindexed (inv places_are j) (gram_of g (columns (inv bytes_are j) (inv mins_are j) y t o k n)))

  -- and as many bytes are left out by the one as by the other
  pub gathered-left : (y t o k n : List ℕ) → left_out (columns (rule_bytes rules) (rule_mins rules) y t o k n) ≡ left_out (columns (kept_bytes f) (kept_mins f) y t o k n)
  gathered-left y t o k n =
      kept-left (rule_bytes rules) (rule_mins rules) keeps.kb keeps.km keeps.kp keeps.kept keeps.km y t o k n
      ∙ (λ j. left_out (columns (inv bytes_are j) (inv mins_are j) y t o k n))

pub gathered_unique : {rules : List FenceRule} {f f' : Gathered} → AllGathered rules f → AllGathered rules f' → f ≡ f'
gathered_unique v w = v.answer ∙ inv w.answer

pub more_unique : {f : Gathered} {r : FenceRule} {i : ℕ} {a b : Gathered} → OneMore f r i a → OneMore f r i b → a ≡ b
more_unique v w = v.answer ∙ inv w.answer

-- ---- the loop that gathers, at rule i
pub record Gathering (rules : List FenceRule) (f : Gathered) (i : ℕ) : Type 0 where
  pub same : gathered_of rules ≡ gathered_from f i (drop i rules)
  pub small : (j : ℕ) → j < i → (get_or rules j no_rule).byte < 256

pub gather-first : (f : Gathered) (rules : List FenceRule) → Gives no_rules f → Gathering rules f 0
gather-first f rules g = record { same = ap (λ (z : Gathered). gathered_from z 0 rules) (inv g.answer); small = λ j l. absurd (not-suc-le-zero l) }

module _ (f : Gathered) (rules : List FenceRule) (i : ℕ) (so_far : Gathering rules f i) where
  pub gather_again : (r : FenceRule) (f' : Gathered) → i < length rules → Gives (get_or rules i no_rule) r → OneMore f r i f' → Gathering rules f' (i + 1)
  unfolding gathered_from
  gather_again r f' h g m = record {
    same = so_far.same ∙ ap (gathered_from f i) (drop-cons rules i no_rule h) ∙ ap (λ (z : Gathered). gathered_from z (suc i) (drop (suc i) rules)) (ap (λ (x : FenceRule). with_rule f x i) (inv g.answer) ∙ inv m.answer) ∙ rw add-one;
    small = λ j l. by j l (decide (ltb j i));
  }
    where
      by : (j : ℕ) → j < i + 1 → (ltb j i ≡ true) ⊎ (ltb j i ≡ false) → (get_or rules j no_rule).byte < 256
      by j l (inl u) = so_far.small j (ltb-true j i u)
      by j l (inr u) = let z : j ≡ i = omega (arith, ltb-false j i u) in rw (z, ← g.answer) m.small

  pub gather-all : length rules ≤ i → AllGathered rules f
  unfolding gathered_from
  gather-all h = record { answer = inv (so_far.same ∙ ap (gathered_from f i) (drop_of_length-le rules h)); small = λ j l. so_far.small j (omega arith) }

-- ---- the first rules of a column
-- the first n of k, where n may be more
pub take-few : {A : Type 0} (l : List A) (n k m : ℕ) → length l ≡ k → Gives (min n k) m → take m l ≡ take n l
take-few l n k m e g = by (decide (ltb n k))
  where
    by : (ltb n k ≡ true) ⊎ (ltb n k ≡ false) → take m l ≡ take n l
    by (inl u) = let h = ltb-true n k u in let z : m ≡ n = omega (arith, g.answer) in rw z
    by (inr u) = let h = ltb-false n k u in take_all m l (omega (arith, g.answer)) ∙ inv (take_all n l (omega arith))

-- a part from place 0 on
pub take-front : {A : Type 0} (l : List A) (n m : ℕ) → Gives (min n (length l)) m → take (m - 0) (drop 0 l) ≡ take n l
take-front l n m g = let z : m - 0 ≡ m = omega arith in rw z (take-few l n (length l) m refl g)

-- the columns that are lent are those of the rules that are kept
pub kept_told : {T : Type 0} (numbers : List T → List ℕ) {f : Gathered} {i : InlineColumns T} {c : RuleColumns T} → KeptColumns f i c
    → columns_of numbers c ≡ record { fence_bytes = kept_bytes f; fence_mins = kept_mins f; inline = inline_of numbers i }
kept_told numbers k = λ j. record { fence_bytes = k.bytes j; fence_mins = k.mins j; inline = inline_of numbers (k.inline j) }

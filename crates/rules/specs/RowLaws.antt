-- Laws of rows: how a loop lays a column's rules over them, and that the rows of columns make the grammar of the columns. Assumes nothing.
use Rattle.std.specs.Prelude.{◌≡◌, refl, Bool, true, cond, ◌⊎◌, ltb, get_or, set, replicate}
use Rattle.std.proofs.Math.Path.{sym as inv, ap, fun_ext}
use Rattle.std.proofs.Common.{◌∙◌, inl, inr, zero-add}
use Rattle.std.proofs.Math.Bool.{false}
use mathlib.Core.List.{List, []}
use Prim.Native.Nat.{ℕ, ◌+◌, ◌-◌, ◌%◌, ◌≤◌, ◌<◌}
use native.Mathlib.Omega.{arith}
use Rattle.std.proofs.Math.ListN.{length}
use Rattle.std.proofs.lemmas.List.{get_or-replicate, length-replicate}
use borrow.Author.Tests.{lt-ltb, le-ltb, ltb-true, ltb-false}
use Rattle.search.specs.Promise.{Gives}
use Rattle.search.specs.Search.{one_of, is, find}
use Rattle.search.specs.SearchLaws.{decide, is_yes, is_no, find_here, find-next, find_end}
use Rattle.common.specs.Sets.{Index}
use Rattle.common.specs.Rules.{tabulate, entry, on_byte, rule_index, has_rule, least_of}
use Rattle.common.specs.TableLaws.{Table, table_entry, table_is, table_same, table_set, table_of, tabulate-at, length-tabulate}
use Rattle.common.specs.declared.grammar.Grammar.{Grammar}
use Rattle.lines.specs.Fences.{fence_table, has_in, least_in}
use Rattle.lines.specs.Reader.{reader}
use Rattle.lines.specs.RuleLaws.{table_has, table_least}
use Rattle.rules.specs.Grammar.{Rule, plain, sym, asym, Gram}
use Rattle.rules.specs.Columns.{inline_rules, columns, searched, gained_all, alphabet_of, open_rule, sym_rule, fence_index_of, gram_of}
use Rattle.rules.specs.ColumnLaws.{pad_take, gathered-list}
use Rattle.rules.specs.Rows.{rule_row, rule_rows, cell, rule_of, rule_in, gram_by, no_rows, pair_row, fenced_row, opener, twin, fencer, laid_row, laid_rows, RulesLaid, OpenersLaid, AllLaid, Folded}
use Rattle.rules.specs.declared.search_bytes.Alphabet.{Alphabet}

-- ---- what the promises leave open: nothing, of rows that are 256, as an array's are
module _ {rows a b : List (List ℕ)} (long : length rows ≡ 256) where
  pub laid_unique : {bytes : List ℕ} {made : ℕ → List ℕ → List ℕ} → RulesLaid bytes made rows a → RulesLaid bytes made rows b → a ≡ b
  laid_unique x y = x.answer long ∙ inv (y.answer long)

module _ {y t o k n : List ℕ} {a b : List (List ℕ)} where
  pub folded_unique : {f : List ℕ} → Folded f (inline_rules y t o k n) a → Folded f (inline_rules y t o k n) b → a ≡ b
  folded_unique v w = v.answer ∙ inv w.answer

-- ---- a column's rules, laid from the last to the first: those from i on
unfoldable pub laid_from : List ℕ → (ℕ → List ℕ → List ℕ) → List (List ℕ) → ℕ → ℕ → List ℕ
laid_from bytes made rows i b = cond (ltb (find (is b) bytes i) (length bytes)) (made (find (is b) bytes i) (entry [] rows b)) (entry [] rows b)

-- what a rule makes of a row hides what another made of it
pub record Hides (made : ℕ → List ℕ → List ℕ) : Type 0 where
  pub hides : (i j : ℕ) (r : List ℕ) → made i (made j r) ≡ made i r

pub twin_hides : (times : List ℕ) → Hides (twin times)
twin_hides times = record { hides = λ i j r. refl }

pub opener_hides : (closers counts : List ℕ) → Hides (opener closers counts)
opener_hides closers counts = record { hides = λ i j r. refl }

pub fencer_hides : Hides fencer
fencer_hides = record { hides = λ i j r. refl }

pub record Laying (bytes : List ℕ) (made : ℕ → List ℕ → List ℕ) (rows₀ rows : List (List ℕ)) (i : ℕ) : Type 0 where
  pub hiding : Hides made
  pub within : i ≤ length bytes
  pub laid : length rows₀ ≡ 256 → Table [] rows (laid_from bytes made rows₀ i)

module _ (bytes : List ℕ) (made : ℕ → List ℕ → List ℕ) (rows₀ : List (List ℕ)) where
  pub laying_first : Hides made → Laying bytes made rows₀ rows₀ (length bytes)
  unfolding laid_from
  laying_first h = record {
    hiding = h;
    within = omega arith;
    laid = λ l. record { long = l; at = λ k m. rw (find_end (is k) bytes (length bytes) (omega arith), le-ltb (length bytes) (length bytes) (omega arith)) };
  }

  module _ (rows : List (List ℕ)) (i : ℕ) (w : Laying bytes made rows₀ rows i) (h : 0 < i) (x : ℕ) (d : Index (get_or bytes (i - 1) 0) x) where
    pub laying_again : (r : List ℕ) → r ≡ made (i - 1) (get_or rows x []) → Laying bytes made rows₀ (set rows x r) (i - 1)
    unfolding laid_from
    laying_again r e = record {
      hiding = w.hiding;
      within = omega (arith, w.within);
      laid = λ l. table_set [] rows (laid_from bytes made rows₀ i) (laid_from bytes made rows₀ (i - 1)) x r d.below (here ∙ inv (e ∙ ap (made (i - 1)) ((w.laid l).at x d.below) ∙ over (ltb (find (is x) bytes i) (length bytes)))) there (w.laid l);
    }
      where
        at : find (is x) bytes (i - 1) ≡ i - 1
        at = find_here (is x) bytes (i - 1) (omega (arith, w.within)) (is_yes x (get_or bytes (i - 1) 0) (inv d.same))

        here : laid_from bytes made rows₀ (i - 1) x ≡ made (i - 1) (entry [] rows₀ x)
        here = rw (at, lt-ltb (i - 1) (length bytes) (omega (arith, w.within)))

        over : (y : Bool) → made (i - 1) (cond y (made (find (is x) bytes i) (entry [] rows₀ x)) (entry [] rows₀ x)) ≡ made (i - 1) (entry [] rows₀ x)
        over true = w.hiding.hides (i - 1) (find (is x) bytes i) (entry [] rows₀ x)
        over false = refl

        there : (k : ℕ) → (k ≡ x → ⊥) → laid_from bytes made rows₀ (i - 1) k ≡ laid_from bytes made rows₀ i k
        there k e =
            let z : i - 1 + 1 ≡ i = omega arith in
            let m : find (is k) bytes (i - 1) ≡ find (is k) bytes i = find-next (is k) bytes (i - 1) (omega (arith, w.within)) (is_no k (get_or bytes (i - 1) 0) (λ q. e (inv q ∙ inv d.same))) ∙ rw z in
            rw m

  pub laying_all : (rows : List (List ℕ)) (i : ℕ) → Laying bytes made rows₀ rows i → i ≤ 0 → RulesLaid bytes made rows₀ rows
  unfolding laid_from laid_rows
  laying_all rows i w h = record {
    answer = λ l. let z : i ≡ 0 = omega arith in table_is [] rows (laid_row bytes made rows₀) (table_same [] rows (laid_from bytes made rows₀ i) (laid_row bytes made rows₀) (λ k m. rw z) (w.laid l));
  }

-- ---- the loops
pub fences_again : (fences : List ℕ) (rows₀ rows : List (List ℕ)) (i x : ℕ) (r : List ℕ) → Laying fences fencer rows₀ rows i → 0 < i → Index (get_or fences (i - 1) 0) x → Gives (fenced_row (get_or rows x []) (i - 1)) r
    → Laying fences fencer rows₀ (set rows x r) (i - 1)
fences_again fences rows₀ rows i x r w h d g = laying_again fences fencer rows₀ rows i w h x d r g.answer

pub twins_again : (bytes times : List ℕ) (rows₀ rows : List (List ℕ)) (i x n : ℕ) (r : List ℕ) → Laying bytes (twin times) rows₀ rows i → 0 < i → Index (get_or bytes (i - 1) 0) x → Gives (get_or times (i - 1) 0) n
    → Gives (pair_row (get_or rows x []) 1 0 n (i - 1)) r → Laying bytes (twin times) rows₀ (set rows x r) (i - 1)
twins_again bytes times rows₀ rows i x n r w h d hn g = laying_again bytes (twin times) rows₀ rows i w h x d r (g.answer ∙ ap (λ (m : ℕ). pair_row (get_or rows x []) 1 0 m (i - 1)) hn.answer)

-- the asymmetric rules, of which every closing byte that was met is a byte
pub record OpenersLaying (o k n : List ℕ) (rows₀ rows : List (List ℕ)) (i : ℕ) : Type 0 where
  pub laying : Laying o (opener k n) rows₀ rows i
  pub met : (j : ℕ) → i ≤ j → j < length o → get_or k j 0 < 256

module _ (o k n : List ℕ) (rows₀ : List (List ℕ)) where
  pub opening-first : OpenersLaying o k n rows₀ rows₀ (length o)
  opening-first = record { laying = laying_first o (opener k n) rows₀ (opener_hides k n); met = λ j a b. absurd (omega arith) }

  pub opening_again : (rows : List (List ℕ)) (i x b c m : ℕ) (r : List ℕ) → OpenersLaying o k n rows₀ rows i → 0 < i → Index (get_or o (i - 1) 0) x → Gives (get_or k (i - 1) 0) b → Index b c → Gives (get_or n (i - 1) 0) m
      → Gives (pair_row (get_or rows x []) 2 c m (i - 1)) r → OpenersLaying o k n rows₀ (set rows x r) (i - 1)
  opening_again rows i x b c m r w h d hb hc hm g = record {
    laying =
        laying_again o (opener k n) rows₀ rows i w.laying h x d r
        (g.answer ∙ ap (λ (z : ℕ). pair_row (get_or rows x []) 2 z m (i - 1)) (hc.same ∙ hb.answer) ∙ ap (λ (z : ℕ). pair_row (get_or rows x []) 2 (get_or k (i - 1) 0) z (i - 1)) hm.answer);
    met = λ j a l. by j a l (decide (ltb j i));
  }
    where
      by : (j : ℕ) → i - 1 ≤ j → j < length o → (ltb j i ≡ true) ⊎ (ltb j i ≡ false) → get_or k j 0 < 256
      by j a l (inl u) = let z : j ≡ i - 1 = omega (arith, ltb-true j i u) in rw z (omega (arith, hc.same, hc.below, hb.answer))
      by j a l (inr u) = w.met j (ltb-false j i u) l

  pub opening-all : (rows : List (List ℕ)) (i : ℕ) → OpenersLaying o k n rows₀ rows i → i ≤ 0 → OpenersLaid o k n rows₀ rows
  opening-all rows i w h = record { laid = laying_all o (opener k n) rows₀ rows i w.laying h; closers = record { small = λ j l. w.met j (omega arith) l } }

-- two tables with the same rows are one
same_rows : (f f' : ℕ → List ℕ) → ((x : ℕ) → x < 256 → f x ≡ f' x) → tabulate f 256 0 ≡ tabulate f' 256 0
same_rows f f' e = table_is [] (tabulate f 256 0) f' (table_same [] (tabulate f 256 0) f f' (λ x h. inv (e x h)) (table_of [] f))

-- no fence rules
no_fence : (b : ℕ) → fence_index_of [] b ≡ 0
no_fence b = rw (le-ltb (rule_index [] b) 0 (omega arith))

-- ---- the inline rules over rows of none
pub all_inlined : (y t o k n : List ℕ) (a b c : List (List ℕ)) → Gives no_rows a → OpenersLaid o k n a b → RulesLaid y (twin t) b c → Folded [] (inline_rules y t o k n) c
unfolding laid_rows rule_rows open_rule sym_rule
all_inlined y t o k n a b c ha hb hc = record { answer = whole; closers = hb.closers }
  where
    first : b ≡ laid_rows o (opener k n) a
    first = hb.laid.answer (ap length ha.answer ∙ length-replicate 256 (replicate {A = ℕ} 5 0))

    second : c ≡ laid_rows y (twin t) b
    second = hc.answer (ap length first ∙ length-tabulate (laid_row o (opener k n) a) 256 0)

    none : (x : ℕ) → x < 256 → entry [] a x ≡ rule_row 0 plain
    none x h = ap (λ (l : List (List ℕ)). entry [] l x) ha.answer ∙ get_or-replicate 256 x (replicate 5 0) [] h

    open_at : (x : ℕ) → x < 256 → entry [] b x ≡ rule_row 0 (open_rule o k n x)
    open_at x h = ap (λ (l : List (List ℕ)). entry [] l x) first ∙ tabulate-at (laid_row o (opener k n) a) 256 0 x [] h ∙ rw zero-add (by (decide (has_rule o x)))
      where
        by : (has_rule o x ≡ true) ⊎ (has_rule o x ≡ false) → laid_row o (opener k n) a x ≡ rule_row 0 (open_rule o k n x)
        by (inl u) = rw (u, none x h)
        by (inr u) = rw (u, none x h)

    sym_at : (x : ℕ) → x < 256 → laid_row y (twin t) b x ≡ rule_row 0 (sym_rule y t (open_rule o k n) x)
    sym_at x h = by (decide (has_rule y x)) (open_rule o k n x) (open_at x h)
      where
        by : (has_rule y x ≡ true) ⊎ (has_rule y x ≡ false) → (u : Rule) → entry [] b x ≡ rule_row 0 u → laid_row y (twin t) b x ≡ rule_row 0 (cond (has_rule y x) (sym (rule_index y x) (get_or t (rule_index y x) 0)) u)
        by (inl v) plain e = rw (v, e)
        by (inl v) (sym i m) e = rw (v, e)
        by (inl v) (asym i z m) e = rw (v, e)
        by (inr v) u e = rw (v, e)

    whole : c ≡ rule_rows [] (inline_rules y t o k n)
    whole =
        second
        ∙ same_rows (laid_row y (twin t) b) (λ x. rule_row (fence_index_of [] x) (sym_rule y t (open_rule o k n) x)) (λ x h. sym_at x h ∙ ap (λ (f : ℕ). rule_row f (sym_rule y t (open_rule o k n) x)) (inv (no_fence x)))

-- ---- fence rules over the rows of inline rules
module _ (f y t o k n : List ℕ) (a : List (List ℕ)) (ha : Folded [] (inline_rules y t o k n) a) where
  long : length a ≡ 256
  unfolding rule_rows
  long = ap length ha.answer ∙ length-tabulate (λ b. rule_row (fence_index_of [] b) (sym_rule y t (open_rule o k n) b)) 256 0

  at_row : (x : ℕ) → x < 256 → entry [] a x ≡ rule_row 0 (sym_rule y t (open_rule o k n) x)
  unfolding rule_rows
  at_row x h = ap (λ (l : List (List ℕ)). entry [] l x) ha.answer ∙ tabulate-at (λ b. rule_row (fence_index_of [] b) (sym_rule y t (open_rule o k n) b)) 256 0 x [] h ∙ rw (zero-add, no_fence x)

  fenced-row : (i : ℕ) (u : Rule) → fenced_row (rule_row 0 u) i ≡ rule_row i u
  fenced-row i plain = refl
  fenced-row i (sym j m) = refl
  fenced-row i (asym j c m) = refl

  pub all_folded : (d : List (List ℕ)) → RulesLaid f fencer a d → Folded f (inline_rules y t o k n) d
  unfolding laid_rows rule_rows
  all_folded d hd = record { answer = hd.answer long ∙ same_rows (laid_row f fencer a) (λ b. rule_row (fence_index_of f b) (sym_rule y t (open_rule o k n) b)) at_fence; closers = ha.closers }
    where
      at_fence : (x : ℕ) → x < 256 → laid_row f fencer a x ≡ rule_row (fence_index_of f x) (sym_rule y t (open_rule o k n) x)
      at_fence x h = by (decide (has_rule f x))
        where
          by : (has_rule f x ≡ true) ⊎ (has_rule f x ≡ false) → laid_row f fencer a x ≡ rule_row (fence_index_of f x) (sym_rule y t (open_rule o k n) x)
          by (inl v) = rw (v, at_row x h) (fenced-row (rule_index f x) (sym_rule y t (open_rule o k n) x))
          by (inr v) = rw (v, at_row x h)

-- ---- the rows of columns make the grammar of the columns
-- a rule whose closing byte is a byte
abbrev CloserFits : Rule → Type 0
CloserFits plain = Unit {0}
CloserFits (sym i n) = Unit {0}
CloserFits (asym i c n) = c < 256

rule_back : (f : ℕ) (u : Rule) → CloserFits u → rule_of (rule_row f u) ≡ u
rule_back f plain h = refl
rule_back f (sym i n) h = refl
rule_back f (asym i c n) h = let z : c % 256 ≡ c = omega arith in rw z

index_back : (f : ℕ) (u : Rule) → get_or (rule_row f u) 0 0 ≡ f
index_back f plain = refl
index_back f (sym i n) = refl
index_back f (asym i c n) = refl

module _ (f y t o k n : List ℕ) (rows : List (List ℕ)) (w : Folded f (inline_rules y t o k n) rows) where
  closed : (b : ℕ) → CloserFits (sym_rule y t (open_rule o k n) b)
  unfolding sym_rule open_rule
  closed b = by (decide (has_rule y b)) (decide (has_rule o b))
    where
      by : (has_rule y b ≡ true) ⊎ (has_rule y b ≡ false) → (has_rule o b ≡ true) ⊎ (has_rule o b ≡ false) → CloserFits (sym_rule y t (open_rule o k n) b)
      by (inl u) v = rw u tt
      by (inr u) (inl v) = rw (u, v) (w.closers.small (rule_index o b) (ltb-true (rule_index o b) (length o) v))
      by (inr u) (inr v) = rw (u, v) tt

  -- a byte's row
  at : (b : ℕ) → entry [] rows b ≡ on_byte [] (λ b. rule_row (fence_index_of f b) (sym_rule y t (open_rule o k n) b)) b
  unfolding rule_rows
  at b = ap (λ (l : List (List ℕ)). entry [] l b) w.answer ∙ ap (λ (e : ℕ → List ℕ). e b) (table_entry [] (λ b. rule_row (fence_index_of f b) (sym_rule y t (open_rule o k n) b)))

  rows_rule : rule_in rows ≡ on_byte plain (sym_rule y t (open_rule o k n))
  rows_rule = fun_ext (λ b. ap rule_of (at b) ∙ by b (decide (ltb b 256)))
    where
      by : (b : ℕ) → (ltb b 256 ≡ true) ⊎ (ltb b 256 ≡ false)
          → rule_of (on_byte [] (λ b. rule_row (fence_index_of f b) (sym_rule y t (open_rule o k n) b)) b) ≡ on_byte plain (sym_rule y t (open_rule o k n)) b
      by b (inl u) = rw u (rule_back (fence_index_of f b) (sym_rule y t (open_rule o k n) b) (closed b))
      by b (inr u) = rw u

  rows_index : (λ b. cell rows b 0) ≡ on_byte 0 (fence_index_of f)
  rows_index = fun_ext (λ b. ap (λ (r : List ℕ). get_or r 0 0) (at b) ∙ by b (decide (ltb b 256)))
    where
      by : (b : ℕ) → (ltb b 256 ≡ true) ⊎ (ltb b 256 ≡ false) → get_or (on_byte [] (λ b. rule_row (fence_index_of f b) (sym_rule y t (open_rule o k n) b)) b) 0 0 ≡ on_byte 0 (fence_index_of f) b
      by b (inl u) = rw u (index_back (fence_index_of f b) (sym_rule y t (open_rule o k n) b))
      by b (inr u) = rw u

  pub gram_same : (g : Grammar) (m : List ℕ) (a : Alphabet) (fences : List ℕ) → Gives (alphabet_of g f y o) a → Gives (fence_table f m) fences → gram_by a fences rows ≡ gram_of g (columns f m y t o k n)
  unfolding searched
  gram_same g m a fences ha hf =
      let few = (gathered-list (gained_all (gained_all [] f) y) o (gathered-list (gained_all [] f) y (gathered-list [] f (omega arith)).1).1).1 in
      let has : has_in fences ≡ on_byte false (has_rule f) = ap has_in hf.answer ∙ table_has f m in
      let least : least_in fences ≡ on_byte 0 (least_of f m) = ap least_in hf.answer ∙ table_least f m in
      ap (λ (z : Alphabet). gram_by z fences rows) ha.answer
      ∙ ap (λ (z : List ℕ). with z (rule_in rows) (λ b. cell rows b 0) (has_in fences) (least_in fences)) (pad_take 11 bytes few)
      ∙ ap (λ (z : ℕ → Rule). with bytes z (λ b. cell rows b 0) (has_in fences) (least_in fences)) rows_rule
      ∙ ap (λ (z : ℕ → ℕ). with bytes (on_byte plain (sym_rule y t (open_rule o k n))) z (has_in fences) (least_in fences)) rows_index
      ∙ ap (λ (z : ℕ → Bool). with bytes (on_byte plain (sym_rule y t (open_rule o k n))) (on_byte 0 (fence_index_of f)) z (least_in fences)) has
      ∙ ap (with bytes (on_byte plain (sym_rule y t (open_rule o k n))) (on_byte 0 (fence_index_of f)) (on_byte false (has_rule f))) least
    where
      bytes : List ℕ
      bytes = gained_all (gained_all (gained_all [] f) y) o

      with : List ℕ → (ℕ → Rule) → (ℕ → ℕ) → (ℕ → Bool) → (ℕ → ℕ) → Gram
      with l rule index has least = record { eol = g.eol; escape = g.escape; trigger = one_of l; rule = rule; fence_index = index; fences = reader g has least }

-- ---- all rules, laid one kind over the other
module _ (f y t o k n : List ℕ) (a : List (List ℕ)) where
  pub whole_laid : (b c d : List (List ℕ)) → OpenersLaid o k n a b → RulesLaid y (twin t) b c → RulesLaid f fencer c d → AllLaid f (inline_rules y t o k n) a d
  unfolding laid_rows
  whole_laid b c d hb hc hd = record { answer = whole; closers = hb.closers }
    where
      whole : length a ≡ 256 → d ≡ laid_rows f fencer (laid_rows y (twin t) (laid_rows o (opener k n) a))
      whole h =
          let first = hb.laid.answer h in
          let second = hc.answer (ap length first ∙ length-tabulate (laid_row o (opener k n) a) 256 0) in
          let third = hd.answer (ap length second ∙ length-tabulate (laid_row y (twin t) b) 256 0) in
          third ∙ ap (laid_rows f fencer) (second ∙ ap (laid_rows y (twin t)) first)

  -- over rows of none they are folded
  pub laid_folded : (d : List (List ℕ)) → Gives no_rows a → AllLaid f (inline_rules y t o k n) a d → Folded f (inline_rules y t o k n) d
  laid_folded d g h =
      let b = laid_rows o (opener k n) a in
      let c = laid_rows y (twin t) b in
      let openers : OpenersLaid o k n a b = record { laid = record { answer = λ z. refl }; closers = h.closers } in
      let symmetric : RulesLaid y (twin t) b c = record { answer = λ z. refl } in
      let fences : RulesLaid f fencer c d = record { answer = λ z. h.answer (ap length g.answer ∙ length-replicate 256 (replicate {A = ℕ} 5 0)) } in
      all_folded f y t o k n c (all_inlined y t o k n a b c g openers symmetric) d fences

  -- and leave one result
  pub laid_one : (d e : List (List ℕ)) → length a ≡ 256 → AllLaid f (inline_rules y t o k n) a d → AllLaid f (inline_rules y t o k n) a e → d ≡ e
  laid_one d e long v w = v.answer long ∙ inv (w.answer long)

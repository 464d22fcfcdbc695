-- Laws of the search bytes. Assumes nothing.
use Rattle.std.specs.Prelude.{◌≡◌, refl, Bool, true, false, List, [], ◌∷◌, ◌++◌, ◌⊎◌, ℕ, zero, suc, ◌+◌, ◌≤◌, ◌<◌, leb, length, get_or, take, drop, set}
use Rattle.std.proofs.Common.{sym as inv, ap, ◌∙◌, inl, inr, not-suc-le-zero, add-one, arith, length-append, drop_of_length-le, drop-cons, le-leb, leb-false}
use Rattle.std.proofs.lemmas.Bool.{lt-leb}
use Rattle.search.specs.Promise.{Gives}
use Rattle.search.specs.Search.{one_of}
use Rattle.search.specs.SearchLaws.{decide}
use Rattle.common.specs.Sets.{padded}
use Rattle.common.specs.declared.grammar.Grammar.{Grammar}
use Rattle.rules.specs.Columns.{gained, gained_all, no_bytes, with_byte, gathered, as_bytes, search_bytes, alphabet_of}
use Rattle.rules.specs.declared.search_bytes.SearchBytes.{SearchBytes}

-- ---- one byte more
module _ (w : SearchBytes) (b : ℕ) where
  pub with_full : 11 ≤ w.count → w ≡ with_byte w b
  unfolding with_byte
  with_full h = simp (le-leb 11 w.count h)

  module _ (y : Bool) (held : Gives (one_of (take w.count w.bytes) b) y) (few : w.count < 11) where
    pub with_held : y ≡ true → w ≡ with_byte w b
    unfolding with_byte
    with_held e = simp (lt-leb 11 w.count few, ← held.answer, e)

    pub with_more : y ≡ false → record { bytes = set w.bytes w.count b; count = w.count + 1 } ≡ with_byte w b
    unfolding with_byte
    with_more e = simp (lt-leb 11 w.count few, ← held.answer, e)

-- ---- the bytes of a column: a loop that has gathered the first i
pub record Gathers (w : SearchBytes) (column : List ℕ) (all : SearchBytes) (i : ℕ) : Type 0 where
  pub same : gathered w column ≡ gathered all (drop i column)

pub gathers_first : (w : SearchBytes) (column : List ℕ) → Gathers w column w 0
gathers_first w column = record { same = refl }

pub gathers_again : (w : SearchBytes) (column : List ℕ) (all : SearchBytes) (i : ℕ) (more : SearchBytes) → i < length column → Gives (with_byte all (get_or column i 0)) more → Gathers w column all i
    → Gathers w column more (i + 1)
unfolding gathered
gathers_again w column all i more h g k = record {
  same = k.same ∙ ap (gathered all) (drop-cons column i 0 h) ∙ ap (λ (z : SearchBytes). gathered z (drop (suc i) column)) (inv g.answer) ∙ rw add-one;
}

pub gathers_all : (w : SearchBytes) (column : List ℕ) (all : SearchBytes) (i : ℕ) → length column ≤ i → Gathers w column all i → all ≡ gathered w column
unfolding gathered
gathers_all w column all i h k = inv (k.same ∙ ap (gathered all) (drop_of_length-le column h))

-- ---- the array and the count are the list
pub pad_take : (n : ℕ) (l : List ℕ) → length l ≤ n → take (length l) (padded n l) ≡ l
pad_take n [] h = refl
pad_take zero (x ∷ l) h = absurd (not-suc-le-zero h)
pad_take (suc n) (x ∷ l) h = ap (λ (z : List ℕ). x ∷ z) (pad_take n l (omega arith))

pub pad_set : (n : ℕ) (l : List ℕ) (b : ℕ) → length l < n → set (padded n l) (length l) b ≡ padded n (l ++ (b ∷ []))
pad_set zero l b h = absurd (not-suc-le-zero h)
pad_set (suc n) [] b h = refl
pad_set (suc n) (x ∷ l) b h = ap (λ (z : List ℕ). x ∷ z) (pad_set n l b (omega arith))

gained-few : (l : List ℕ) (b : ℕ) → length l ≤ 11 → length (gained l b) ≤ 11
gained-few l b h = by (decide (leb 11 (length l))) (decide (one_of l b))
  where
    by : (leb 11 (length l) ≡ true) ⊎ (leb 11 (length l) ≡ false) → (one_of l b ≡ true) ⊎ (one_of l b ≡ false) → length (gained l b) ≤ 11
    by (inl u) v = rw u h
    by (inr u) (inl v) = rw (u, v) h
    by (inr u) (inr v) = rw (u, v, length-append l (b ∷ [])) (let k = leb-false 11 (length l) u in omega arith)

with_list : (l : List ℕ) (b : ℕ) → length l ≤ 11 → with_byte (as_bytes l) b ≡ as_bytes (gained l b)
unfolding with_byte
with_list l b h = by (decide (leb 11 (length l))) (decide (one_of l b))
  where
    by : (leb 11 (length l) ≡ true) ⊎ (leb 11 (length l) ≡ false) → (one_of l b ≡ true) ⊎ (one_of l b ≡ false) → with_byte (as_bytes l) b ≡ as_bytes (gained l b)
    by (inl u) v = simp (pad_take 11 l h, u)
    by (inr u) (inl v) = simp (pad_take 11 l h, u, v)
    by (inr u) (inr v) = let k = leb-false 11 (length l) u in simp (pad_take 11 l h, u, v, pad_set 11 l b (omega arith), length-append)

pub gathered-list : (l bs : List ℕ) → length l ≤ 11 → (gathered (as_bytes l) bs ≡ as_bytes (gained_all l bs)) × (length (gained_all l bs) ≤ 11)
unfolding gathered
gathered-list l [] h = (refl, h)
gathered-list l (b ∷ bs) h =
    let i = gathered-list (gained l b) bs (gained-few l b h) in
    (ap (λ (z : SearchBytes). gathered z bs) (with_list l b h) ∙ i.0, i.1)

-- with a grammar's bytes
pub alphabet_is : (g : Grammar) (f s o : List ℕ) (w : SearchBytes) → Gives (search_bytes f s o) w → record { grammar = g; searched = w } ≡ alphabet_of g f s o
alphabet_is g f s o w h = ap (λ (z : SearchBytes). record { grammar = g; searched = z }) h.answer

pub searches : (f s o : List ℕ) (n a b c : SearchBytes) → Gives no_bytes n → Gives (gathered n f) a → Gives (gathered a s) b → Gives (gathered b o) c → c ≡ search_bytes f s o
searches f s o n a b c hn ha hb hc =
    let x = gathered-list [] f (omega arith) in
    let y = gathered-list (gained_all [] f) s x.1 in
    let z = gathered-list (gained_all (gained_all [] f) s) o y.1 in
    let ea : a ≡ as_bytes (gained_all [] f) = ha.answer ∙ ap (λ (w : SearchBytes). gathered w f) hn.answer ∙ x.0 in
    let eb : b ≡ as_bytes (gained_all (gained_all [] f) s) = hb.answer ∙ ap (λ (w : SearchBytes). gathered w s) ea ∙ y.0 in
    hc.answer ∙ ap (λ (w : SearchBytes). gathered w o) eb ∙ z.0

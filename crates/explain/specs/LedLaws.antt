-- Laws of a line by its bytes: its item is what the scanners find on it, and it lies on the line. Assumes nothing.
use Rattle.std.specs.Prelude.{◌≡◌, Bool, cond, not, ◌||◌, ◌&&◌, ◌⊎◌, ℕ, ◌+◌, ◌≤◌, ◌<◌, min, ltb, leb, get_or, drop}
use Rattle.std.proofs.Math.Path.{refl}
use Rattle.std.proofs.Common.{sym, ap, ◌∙◌, inl, inr, length-drop, leb-true, leb-false, lt-ltb}
use Rattle.std.proofs.Math.Bool.{true, false}
use mathlib.Core.List.{List, [], ◌∷◌, ◌++◌, map}
use native.Mathlib.Omega.{arith}
use Rattle.std.proofs.Math.ListN.{length}
use Rattle.search.specs.Search.{digit}
use Rattle.search.specs.SearchLaws.{decide, clash}
use Rattle.common.specs.Turning.{Each}
use Rattle.common.specs.Items.{blank, leading, beyond, item_from}
use Rattle.common.specs.ItemLaws.{both, leading_yes, leading_no, beyond_yes, beyond_no, leading-beyond}
use Rattle.block_marker.specs.Marker.{mark, mark_line}
use Rattle.decimal.specs.Decimal.{valued_from}
use Rattle.block_numbered.specs.Numbered.{numbered, number_from, number_line, one_to_nine}
use Rattle.block_numbered.specs.DigitLaws.{nine_yes, one_to_nine_lem}
use Rattle.feed.specs.Items.{marked, counted}
use Rattle.explain.specs.Reasons.{lacks, sign, no_lead, ten_digits, no_delimiter, no_blank, led_from, led_by}
use Rattle.common.specs.Sets.{is_marker, is_delimiter}
use Rattle.common.specs.Grammars.{house_marks, house_numbers}
use Rattle.common.specs.ClassLaws.{digit-marker}
use Rattle.feed.specs.declared.item.SheetItem.{SheetItem}
use Rattle.explain.specs.declared.leads.Lead.{Lead}
use Rattle.explain.specs.declared.leads.Lead.TheVariants as led

-- the item of a line, if it has one
abbrev pub led_items : Lead → List SheetItem
led_items led.NoLine = []
led_items led.NoLead = []
led_items led.TenDigits = []
led_items led.NoDelimiter = []
led_items led.NoBlank = []
led_items (led.Item i) = i ∷ []

-- ---- what the scanners find on a line is the item that its bytes are
-- one byte that is accepted, one separator or tab: by what the tests of the two say
module _ (p : ℕ) where
  -- digits ds, from one to nine, and what follows them
  number_sign : (ds r : List ℕ) (i : SheetItem) → i ≡ record { start = p + length ds + 2; end = p + length ds + length r; kind = 1; byte = get_or r 0 0; number = valued_from 0 ds }
      → map counted (item_from house_numbers (numbered ds) (p + length ds) r) ≡ led_items (cond (lacks is_delimiter r) led.NoDelimiter (cond (lacks (blank house_marks) (drop 1 r)) led.NoBlank (led.Item i)))
  number_sign ds [] i e = refl
  number_sign ds (d ∷ []) i e = by (is_delimiter d)
    where
      by : (y : Bool) → [] ≡ led_items (cond (not y) led.NoDelimiter led.NoBlank)
      by true = refl
      by false = refl
  number_sign ds (d ∷ x ∷ r) i e =
      let z : p + length ds + 2 + length r ≡ p + length ds + length (d ∷ x ∷ r) = omega arith in
      by (is_delimiter d) (blank house_marks x) (e ∙ ap (λ (n : ℕ). record { start = p + length ds + 2; end = n; kind = 1; byte = d; number = valued_from 0 ds }) (sym z))
    where
      by : (y w : Bool) → i ≡ record { start = p + length ds + 2; end = p + length ds + 2 + length r; kind = 1; byte = d; number = valued_from 0 ds }
          → map counted (cond (y && w) (numbered ds d (p + length ds + 2) (p + length ds + 2 + length r) ∷ []) []) ≡ led_items (cond (not y) led.NoDelimiter (cond (not w) led.NoBlank (led.Item i)))
      by true true f = ap (λ (i : SheetItem). i ∷ []) (sym f)
      by true false f = refl
      by false w f = refl

  -- where a digit leads
  number_lead : (x : ℕ) (r : List ℕ) → digit x ≡ true → map marked (item_from house_marks mark p (x ∷ r)) ++ map counted (number_from house_numbers p (x ∷ r)) ≡ led_items (led_from p (x ∷ r))
  unfolding led_from
  number_lead x r e =
      let m = digit-marker x e in
      let n : leading digit (x ∷ r) ≡ x ∷ leading digit r = leading_yes digit x r e in
      let b : beyond digit (x ∷ r) ≡ beyond digit r = beyond_yes digit x r e in
      let size = leading-beyond digit (x ∷ r) in
      rw (none x r m, m, e, n, b) (by (decide (leb 10 (length (x ∷ leading digit r)))) (rw (n, b) at size))
    where
      none : (x : ℕ) (r : List ℕ) → is_marker x ≡ false → item_from house_marks mark p (x ∷ r) ≡ []
      none x [] m = refl
      none x (y ∷ r) m = rw m

      ds : List ℕ
      ds = x ∷ leading digit r

      by : (leb 10 (length ds) ≡ true) ⊎ (leb 10 (length ds) ≡ false) → length ds + length (beyond digit r) ≡ length (x ∷ r)
          → map counted (cond (one_to_nine (length ds)) (item_from house_numbers (numbered ds) (p + length ds) (beyond digit r)) [])
          ≡ led_items (cond (leb 10 (length ds)) led.TenDigits (cond (ltb 0 (length ds) && lacks is_delimiter (beyond digit r)) led.NoDelimiter (cond (lacks (blank house_marks) (drop 1 (beyond digit r))) led.NoBlank (led.Item (record { start = p + length ds + 2; end = p + length (x ∷ r); kind = min (length ds) 1; byte = get_or (beyond digit r) 0 0; number = valued_from 0 ds })))))
      by (inl u) f =
          let z : one_to_nine (length ds) ≡ false = many (decide (one_to_nine (length ds))) (leb-true 10 (length ds) u) in
          rw (z, u)
        where
          many : (one_to_nine (length ds) ≡ true) ⊎ (one_to_nine (length ds) ≡ false) → 10 ≤ length ds → one_to_nine (length ds) ≡ false
          many (inl v) l = absurd (omega (arith, (one_to_nine_lem (length ds) v).1))
          many (inr v) l = v
      by (inr u) f =
          let l = leb-false 10 (length ds) u in
          let z : one_to_nine (length ds) ≡ true = nine_yes (length ds) (omega arith) (omega arith) in
          let k : min (length ds) 1 ≡ 1 = omega arith in
          let w : p + length (x ∷ r) ≡ p + length ds + length (beyond digit r) = omega arith in
          rw (z, u, lt-ltb 0 (length ds) (omega arith)) (number_sign ds (beyond digit r) _ (rw (k, w)))

  -- where none does
  mark_lead : (x : ℕ) (r : List ℕ) → digit x ≡ false → map marked (item_from house_marks mark p (x ∷ r)) ++ map counted (number_from house_numbers p (x ∷ r)) ≡ led_items (led_from p (x ∷ r))
  unfolding led_from valued_from
  mark_lead x r e =
      let n : leading digit (x ∷ r) ≡ [] = leading_no digit x r e in
      let b : beyond digit (x ∷ r) ≡ x ∷ r = beyond_no digit x r e in
      rw (n, b, e) (by r (is_marker x) refl)
    where
      by : (r : List ℕ) (y : Bool) → is_marker x ≡ y
          → map marked (item_from house_marks mark p (x ∷ r)) ++ [] ≡ led_items (cond (not (is_marker x || false)) led.NoLead (cond (lacks (blank house_marks) r) led.NoBlank (led.Item (record { start = p + 0 + 2; end = p + length (x ∷ r); kind = 0; byte = x; number = 0 }))))
      by [] true m = rw m
      by [] false m = rw m
      by (d ∷ r) false m = rw m
      by (d ∷ r) true m = rw m (item (blank house_marks d))
        where
          item : (w : Bool) → map marked (cond w (mark x (p + 2) (p + 2 + length r) ∷ []) []) ++ [] ≡ led_items (cond (not w) led.NoBlank (led.Item (record { start = p + 0 + 2; end = p + length (x ∷ d ∷ r); kind = 0; byte = x; number = 0 })))
          item false = refl
          item true =
              let z : p + 0 + 2 ≡ p + 2 = omega arith in
              let w : p + length (x ∷ d ∷ r) ≡ p + 2 + length r = omega arith in
              rw (z, w)

  led_items_lem : (r : List ℕ) → map marked (item_from house_marks mark p r) ++ map counted (number_from house_numbers p r) ≡ led_items (led_from p r)
  unfolding led_from leading beyond
  led_items_lem [] = refl
  led_items_lem (x ∷ r) = by (decide (digit x))
    where
      by : (digit x ≡ true) ⊎ (digit x ≡ false) → map marked (item_from house_marks mark p (x ∷ r)) ++ map counted (number_from house_numbers p (x ∷ r)) ≡ led_items (led_from p (x ∷ r))
      by (inl u) = number_lead x r u
      by (inr u) = mark_lead x r u

-- of a line that begins at a and whose bytes are l
pub line-items : (a : ℕ) (l : List ℕ) → map marked (mark_line house_marks a l) ++ map counted (number_line house_numbers a l) ≡ led_items (led_by a l)
unfolding mark_line number_line led_by
line-items a l = led_items_lem (a + length (leading (blank house_marks) l)) (beyond (blank house_marks) l)

-- ---- a line's item lies on the line
lacks_not : (t : ℕ → Bool) (l : List ℕ) → lacks t l ≡ false → 0 < length l
lacks_not t [] e = absurd (clash refl e)
lacks_not t (x ∷ l) e = omega arith

-- where the content of an item starts whose line is from a up to e
abbrev pub Lies : ℕ → ℕ → SheetItem → Type 0
Lies a e i = (a + 2 ≤ i.start) × (i.start ≤ e)

abbrev pub OnLine : ℕ → ℕ → Lead → Type 0
OnLine a e d = Each (Lies a e) (led_items d)

from_lies : (a e p : ℕ) (r : List ℕ) → a ≤ p → p + length r ≡ e → Each (Lies a e) (led_items (led_from p r))
unfolding led_from
from_lies a e p r h f =
    both (OnLine a e) (no_lead r) _ _ (λ u. tt)
    (λ u. both (OnLine a e) (ten_digits r) _ _ (λ v. tt)
    (λ v. both (OnLine a e) (no_delimiter r) _ _ (λ w. tt)
    (λ w. both (OnLine a e) (no_blank r) _ _ (λ z. tt)
    (λ z.
    let k : 0 < length (drop 1 (sign r)) = lacks_not (blank house_marks) (drop 1 (sign r)) z in
    ((omega arith, omega (arith, length-drop 1 (sign r), leading-beyond digit r)), tt)))))

pub line_lies : (a e : ℕ) (l : List ℕ) → a + length l ≡ e → Each (Lies a e) (led_items (led_by a l))
unfolding led_by
line_lies a e l f = from_lies a e (a + length (leading (blank house_marks) l)) (beyond (blank house_marks) l) (omega arith) (omega (arith, leading-beyond (blank house_marks) l))

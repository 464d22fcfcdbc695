-- The ways out of the functions that look for a line and read what leads it. Assumes nothing.
use Rattle.std.specs.Prelude.{◌≡◌, Bool, ◌||◌, ◌⊎◌, ltb, leb, take, None, Option, Some}
use Rattle.std.proofs.Math.Path.{refl, sym, ap}
use Rattle.std.proofs.Common.{◌∙◌, inl, inr, add-one, Fits, length-take, drop_of_length-le, drop-drop, get_or-drop}
use Rattle.std.proofs.Math.Bool.{true, false, cond, not}
use mathlib.Core.List.{List, [], ◌∷◌}
use Prim.Native.Nat.{ℕ, zero, suc, ◌+◌, ◌-◌, ◌≤◌, ◌<◌, min}
use native.Mathlib.Omega.{arith}
use Rattle.std.specs.Int.{w32}
use Rattle.std.proofs.Math.ListN.{length, get_or, drop, length-drop}
use Rattle.std.proofs.Math.Seq.{drop-cons, length-slice}
use borrow.Author.Tests.{eq-eqb, ne_eqb, lt-ltb, lt-leb, leb-true, leb-false, ltb-true, ltb-false}
use Rattle.search.specs.Promise.{Gives}
use Rattle.search.specs.Search.{is, either, one_of, digit, other, holds, find, Sought, line_end, next_line}
use Rattle.search.specs.SearchLaws.{decide, clash, past_end, holds_in, holds-past, holds_true, find_ge, find_le}
use Rattle.common.specs.Items.{blank, line_bytes, leading, beyond}
use Rattle.common.specs.ItemLaws.{leading_yes, leading_no, leading-is, beyond-is, beyond_yes, beyond_no}
use Rattle.decimal.specs.Decimal.{valued, valued_from}
use Rattle.block_numbered.specs.Numbered.{read_digits, digits_at}
use Rattle.block_numbered.specs.DigitLaws.{leading-few, leading_many, drop-leading}
use Rattle.block_numbered.specs.declared.DigitRun.{DigitRun}
use Rattle.common.specs.LineStarts.{starts_from, line_at}
use Rattle.common.specs.LineStartLaws.{starts_last, starts_next}
use Rattle.explain.specs.Reasons.{lacks, digits, sign, no_lead, ten_digits, no_delimiter, no_blank, item_of, led_from, led_by, led_at, line_led}
use Rattle.common.specs.Sets.{is_marker, is_delimiter, class_of}
use Rattle.common.specs.ClassLaws.{class_marker, class_delimiter, class_digit}
use Rattle.common.specs.Grammars.{house_marks}
use Rattle.explain.specs.Parts.{begins_at, sign_led}
use Rattle.explain.proofs.TrueLaws.{line_begun}
use Rattle.explain.specs.declared.leads.Lead.{Lead}
use Rattle.explain.specs.declared.leads.Lead.TheVariants as led

-- ---- the loop that looks for a line: at a line's start a, with `left` lines to go
pub record Seeking (eol : ℕ) (s : List ℕ) (line a left : ℕ) : Type 0 where
  pub inside : a ≤ length s
  pub same : line_at eol s line ≡ take 1 (drop left (starts_from eol s a))

module _ (eol : ℕ) (s : List ℕ) (line : ℕ) where
  pub seeking_zero : line ≡ 0 → Gives (line_at eol s line) []
  unfolding line_at
  seeking_zero e = record { answer = rw e }

  pub seeking_first : (line ≡ 0 → ⊥) → Seeking eol s line 0 (line - 1)
  unfolding line_at
  seeking_first h = by line h
    where
      by : (line : ℕ) → (line ≡ 0 → ⊥) → Seeking eol s line 0 (line - 1)
      by zero h = absurd (h refl)
      by (suc k) h =
          let z : suc k - 1 ≡ k = omega arith in
          record { inside = omega arith; same = rw z }

  -- k is the number of the line that starts at a
  module _ (a k : ℕ) (w : Seeking eol s line a (line - k)) where
    pub seeking_end : line ≤ k → Gives (line_at eol s line) (a ∷ [])
    unfolding starts_from
    seeking_end h = let z : line - k ≡ 0 = omega arith in record { answer = sym (w.same ∙ rw z) }

    next-is : (r : List ℕ) → k < line → starts_from eol s a ≡ a ∷ r → line_at eol s line ≡ take 1 (drop (line - (k + 1)) r)
    next-is r h e = let f : line - k ≡ suc (line - (k + 1)) = omega arith in w.same ∙ rw (f, e)

    module _ (h : k < line) (e n : ℕ) (f : Sought (is eol) s a e) (g : Gives (next_line (length s) e) n) where
      pub seeking_none : length s ≤ n → Gives (line_at eol s line) []
      seeking_none l = record { answer = sym (next-is [] h (starts_last eol s a w.inside (omega (arith, f.here, g.answer))) ∙ none (line - (k + 1))) }
        where
          none : (m : ℕ) → ◌≡◌ {A = List ℕ} (take 1 (drop m [])) []
          none zero = refl
          none (suc m) = refl

      pub seeking_again : n < length s → Seeking eol s line n (line - (k + 1))
      seeking_again l =
          let z : line_end eol s a + 1 ≡ n = omega (arith, f.here, g.answer) in
          record { inside = omega arith; same = next-is (starts_from eol s n) h (starts_next eol s a w.inside (omega arith) ∙ rw z) }

pub ruleset seeking_rules = (seeking_zero, seeking_first, seeking_again, seeking_none, seeking_end)

-- ---- a byte by its class
module _ (x c : ℕ) (g : Gives (class_of x) c) where
  of_digit : c ≡ 4 → digit x ≡ true
  of_digit e = sym (class_digit x) ∙ eq-eqb (class_of x) 4 (sym g.answer ∙ e)

  no_digit : (c ≡ 4 → ⊥) → digit x ≡ false
  no_digit h = sym (class_digit x) ∙ ne_eqb (class_of x) 4 (λ e. h (g.answer ∙ e))

  of_marker : c ≡ 1 → is_marker x ≡ true
  of_marker e = sym (class_marker x) ∙ eq-eqb (class_of x) 1 (sym g.answer ∙ e)

  no_marker : (c ≡ 1 → ⊥) → is_marker x ≡ false
  no_marker h = sym (class_marker x) ∙ ne_eqb (class_of x) 1 (λ e. h (g.answer ∙ e))

  of_delimiter : c ≡ 2 → is_delimiter x ≡ true
  of_delimiter e = sym (class_delimiter x) ∙ eq-eqb (class_of x) 2 (sym g.answer ∙ e)

  no_delimiter_lem : (c ≡ 2 → ⊥) → is_delimiter x ≡ false
  no_delimiter_lem h = sym (class_delimiter x) ∙ ne_eqb (class_of x) 2 (λ e. h (g.answer ∙ e))

-- ---- a marker or a delimiter
module _ (u : List ℕ) (j kind number : ℕ) where
  pub sign-past : length u ≤ j → Gives (sign_led u j kind number) led.NoBlank
  unfolding sign_led
  sign-past h = record { answer = rw (holds-past (either 32 9) u (j + 1) (omega arith)) }

  module _ (z : Bool) where
    pub sign-bare : z ≡ false → Gives (holds (either 32 9) u (j + 1)) z → Gives (sign_led u j kind number) led.NoBlank
    unfolding sign_led
    sign-bare e g = record { answer = rw (← g.answer, e) }

    pub sign-item : (m : ℕ) → z ≡ true → Gives (holds (either 32 9) u (j + 1)) z → Gives (get_or u j 0) m
        → Gives (sign_led u j kind number) (led.Item (record { start = j + 2; end = length u; kind = kind; byte = m; number = number }))
    unfolding sign_led
    sign-item m e g b = record { answer = rw (← g.answer, e, ← b.answer) }

pub sign_fits : (u : List ℕ) (j : ℕ) (z : Bool) → z ≡ true → Gives (holds (either 32 9) u (j + 1)) z → length u ≤ 4294967295 → Fits w32 (j + 2)
sign_fits u j z e g h = record { fits = omega (arith, (holds_true (either 32 9) u (j + 1) (sym g.answer ∙ e)).0) }

pub ruleset sign_rules = (sign-past, sign-bare, sign-item)

-- ---- a line from p on, by tests of its bytes
lacks-drop : (t : ℕ → Bool) (u : List ℕ) (j : ℕ) → lacks t (drop j u) ≡ not (holds t u j)
lacks-drop t u j = by (decide (ltb j (length u)))
  where
    by : (ltb j (length u) ≡ true) ⊎ (ltb j (length u) ≡ false) → lacks t (drop j u) ≡ not (holds t u j)
    by (inl x) = let h = ltb-true j (length u) x in rw (drop-cons u j 0 h, holds_in t u j h)
    by (inr x) = let h = ltb-false j (length u) x in rw (drop_of_length-le u h, holds-past t u j h)

-- a test that 0 fails
holds_byte : (t : ℕ → Bool) (u : List ℕ) (j : ℕ) → t 0 ≡ false → holds t u j ≡ t (get_or u j 0)
holds_byte t u j z = by (decide (ltb j (length u)))
  where
    by : (ltb j (length u) ≡ true) ⊎ (ltb j (length u) ≡ false) → holds t u j ≡ t (get_or u j 0)
    by (inl x) = holds_in t u j (ltb-true j (length u) x)
    by (inr x) = let h = ltb-false j (length u) x in holds-past t u j h ∙ sym z ∙ ap t (past_end u j h)

head_drop : (u : List ℕ) (j : ℕ) → get_or (drop j u) 0 0 ≡ get_or u j 0
head_drop u j = let z : j + 0 ≡ j = omega arith in get_or-drop j u 0 0 ∙ rw z

beyond_stops : (t : ℕ → Bool) (l : List ℕ) → t 0 ≡ false → t (get_or (beyond t l) 0 0) ≡ false
unfolding beyond
beyond_stops t [] z = z
beyond_stops t (x ∷ l) z = by (decide (t x)) (beyond_stops t l z)
  where
    by : (t x ≡ true) ⊎ (t x ≡ false) → t (get_or (beyond t l) 0 0) ≡ false → t (get_or (beyond t (x ∷ l)) 0 0) ≡ false
    by (inl y) ih = rw (beyond_yes t x l y) ih
    by (inr y) ih = rw (beyond_no t x l y) y

-- whether a marker or a digit
abbrev lead_byte : ℕ → Bool
lead_byte x = is_marker x || digit x

-- the chain by what is told of its tests
module _ (u : List ℕ) (p : ℕ) where
  abbrev rest : List ℕ
  rest = drop p u

  none_lead : (x : ℕ) → Gives (get_or u p 0) x → digit x ≡ false → is_marker x ≡ false → Gives (led_from p rest) led.NoLead
  unfolding led_from one_of digit
  none_lead x b d m =
      let z : holds lead_byte u p ≡ false = holds_byte lead_byte u p refl ∙ ap lead_byte (sym b.answer) ∙ rw (m, d) in
      record { answer = rw (lacks-drop lead_byte u p, z) }

  some_lead : lead_byte (get_or u p 0) ≡ true → no_lead rest ≡ false
  unfolding one_of digit
  some_lead e = lacks-drop lead_byte u p ∙ ap not (holds_byte lead_byte u p refl ∙ e)

  within : lead_byte (get_or u p 0) ≡ true → p < length u
  unfolding one_of digit
  within e = (holds_true lead_byte u p (holds_byte lead_byte u p refl ∙ e)).0

  -- the item, or no blank, by the sign's place j
  module _ (j : ℕ) (s : sign rest ≡ drop j u) where
    sign-is : no_blank rest ≡ not (holds (blank house_marks) u (j + 1))
    sign-is =
        let z : drop 1 (drop j u) ≡ drop (j + 1) u = drop-drop 1 j u ∙ rw (add-one j) in
        ap (λ (l : List ℕ). lacks (blank house_marks) (drop 1 l)) s ∙ ap (lacks (blank house_marks)) z ∙ lacks-drop (blank house_marks) u (j + 1)

    sign_then : (kind number : ℕ) → p ≤ length u → p + length (digits rest) ≡ j → min (length (digits rest)) 1 ≡ kind → valued (digits rest) ≡ number
        → cond (no_blank rest) led.NoBlank (led.Item (item_of p rest)) ≡ sign_led u j kind number
    unfolding sign_led
    sign_then kind number h e f g =
        let v : p + length rest ≡ length u = omega (arith, length-drop p u) in
        let w : get_or (sign rest) 0 0 ≡ get_or u j 0 = ap (λ (l : List ℕ). get_or l 0 0) s ∙ head_drop u j in
        rw (sign-is, e, f, g, v, w) (by (holds (blank house_marks) u (j + 1)) (led.Item (record { start = j + 2; end = length u; kind = kind; byte = get_or u j 0; number = number })))
      where
        by : (y : Bool) (d : Lead) → cond (not y) led.NoBlank d ≡ cond y d led.NoBlank
        by true d = refl
        by false d = refl

  -- ---- the ways out where no digit leads
  pub body_mark : (x c : ℕ) (d : Lead) → (c ≡ 4 → ⊥) → c ≡ 1 → Gives (get_or u p 0) x → Gives (class_of x) c → Gives (sign_led u p 0 0) d → Gives (led_from p rest) d
  unfolding led_from leading beyond valued_from
  body_mark x c d e f b g w =
      let m : is_marker (get_or u p 0) ≡ true = ap is_marker (sym b.answer) ∙ of_marker x c g f in
      let n : digit (get_or u p 0) ≡ false = ap digit (sym b.answer) ∙ no_digit x c g e in
      let l : lead_byte (get_or u p 0) ≡ true = rw m in
      let i = within l in
      let first : rest ≡ get_or u p 0 ∷ drop (suc p) u = drop-cons u p 0 i in
      let ds : digits rest ≡ [] = ap digits first ∙ leading_no digit (get_or u p 0) (drop (suc p) u) n in
      let sg : sign rest ≡ drop p u = ap sign first ∙ beyond_no digit (get_or u p 0) (drop (suc p) u) n ∙ sym first in
      let t : ten_digits rest ≡ false = rw ds in
      let v : no_delimiter rest ≡ false = rw ds in
      let k : p + length (digits rest) ≡ p = omega (arith, ap length ds) in
      record {
        answer = w.answer ∙ sym (rw (some_lead l, t, v) (sign_then p sg 0 0 (omega arith) k (rw ds) (rw ds)));
      }

  pub body_none : (x c : ℕ) → (c ≡ 4 → ⊥) → (c ≡ 1 → ⊥) → Gives (get_or u p 0) x → Gives (class_of x) c → Gives (led_from p rest) led.NoLead
  body_none x c e f b g = none_lead x b (no_digit x c g e) (no_marker x c g f)

  pub body_digit : (x c : ℕ) → c ≡ 4 → Gives (get_or u p 0) x → Gives (class_of x) c → digit (get_or u p 0) ≡ true
  body_digit x c e b g = ap digit (sym b.answer) ∙ of_digit x c g e

  -- ---- the ways out where a digit leads
  module _ (lead : digit (get_or u p 0) ≡ true) (r : DigitRun) (read : Gives (digits_at p (read_digits rest)) r) where
    leads : lead_byte (get_or u p 0) ≡ true
    leads = by (is_marker (get_or u p 0))
      where
        by : (y : Bool) → (y || digit (get_or u p 0)) ≡ true
        by true = refl
        by false = lead

    some_digit : 0 < length (digits rest)
    some_digit = omega (arith, ap length (ap digits (drop-cons u p 0 (within leads)) ∙ leading_yes digit (get_or u p 0) (drop (suc p) u) lead))

    -- the byte behind those that were read is a digit, where they are ten or more
    many : 9 < length (digits rest) → digit (get_or u r.end 0) ≡ true
    many h =
        let w = leading_many digit 9 rest h in
        let e : r.end ≡ p + 9 = omega (arith, ap (λ (d : DigitRun). d.end) read.answer, w.0) in
        let f : get_or u r.end 0 ≡ w.1.0 = ap (λ (k : ℕ). get_or u k 0) e ∙ sym (get_or-drop p u 9 0) ∙ sym (head_drop rest 9) ∙ ap (λ (l : List ℕ). get_or l 0 0) w.1.2 in
        ap digit f ∙ w.1.3

    -- else they are all, and the sign stands behind them
    module _ (h : length (digits rest) ≤ 9) where
      same : read_digits rest ≡ digits rest
      same = leading-few digit 9 rest h

      ends : p + length (digits rest) ≡ r.end
      ends = omega (arith, ap (λ (d : DigitRun). d.end) read.answer, ap length same)

      signs : sign rest ≡ drop r.end u
      signs = sym (drop-leading digit rest) ∙ drop-drop (length (digits rest)) p u ∙ ap (λ (k : ℕ). drop k u) ends

      few : digit (get_or u r.end 0) ≡ false
      unfolding digit
      few = ap digit (sym (ap (λ (l : List ℕ). get_or l 0 0) signs ∙ head_drop u r.end)) ∙ beyond_stops digit rest refl

    module _ (x c : ℕ) where
      pub number_ten : c ≡ 4 → Gives (get_or u r.end 0) x → Gives (class_of x) c → Gives (led_from p rest) led.TenDigits
      unfolding led_from
      number_ten e b g = by (decide (leb 10 (length (digits rest))))
        where
          by : (leb 10 (length (digits rest)) ≡ true) ⊎ (leb 10 (length (digits rest)) ≡ false) → Gives (led_from p rest) led.TenDigits
          by (inl v) = record { answer = rw (some_lead leads, v) }
          by (inr v) = absurd (clash (ap digit (sym b.answer) ∙ of_digit x c g e) (few (omega (arith, leb-false 10 (length (digits rest)) v))))

      module _ (e : c ≡ 4 → ⊥) (b : Gives (get_or u r.end 0) x) (g : Gives (class_of x) c) where
        at_most : length (digits rest) ≤ 9
        at_most = by (decide (leb 10 (length (digits rest))))
          where
            by : (leb 10 (length (digits rest)) ≡ true) ⊎ (leb 10 (length (digits rest)) ≡ false) → length (digits rest) ≤ 9
            by (inl v) = absurd (clash (many (omega (arith, leb-true 10 (length (digits rest)) v))) (ap digit (sym b.answer) ∙ no_digit x c g e))
            by (inr v) = omega (arith, leb-false 10 (length (digits rest)) v)

        not_ten : ten_digits rest ≡ false
        not_ten = lt-leb 10 (length (digits rest)) (omega (arith, at_most))

        delimits : no_delimiter rest ≡ not (is_delimiter x)
        unfolding one_of
        delimits =
            let q : lacks is_delimiter (sign rest) ≡ not (is_delimiter x) = ap (lacks is_delimiter) (signs at_most) ∙ lacks-drop is_delimiter u r.end ∙ ap not (holds_byte is_delimiter u r.end refl ∙ ap is_delimiter (sym b.answer)) in
            rw (lt-ltb 0 (length (digits rest)) some_digit, q)

        bare : (c ≡ 2 → ⊥) → Gives (led_from p rest) led.NoDelimiter
        unfolding led_from
        bare f = record { answer = rw (some_lead leads, not_ten, delimits, no_delimiter_lem x c g f) }

        signed : (d : Lead) → c ≡ 2 → Gives (sign_led u r.end 1 r.number) d → Gives (led_from p rest) d
        unfolding led_from
        signed d f w = record {
          answer =
              w.answer
              ∙ sym (rw (some_lead leads, not_ten, delimits, of_delimiter x c g f)
              (sign_then r.end (signs at_most) 1 r.number (omega (arith, within leads)) (ends at_most) (omega (arith, some_digit)) (sym (ap (λ (d : DigitRun). d.number) read.answer ∙ ap valued (same at_most)))));
        }

      pub number_bare : (c ≡ 4 → ⊥) → (c ≡ 2 → ⊥) → Gives (get_or u r.end 0) x → Gives (class_of x) c → Gives (led_from p rest) led.NoDelimiter
      number_bare e f b g = bare e b g f

      pub number_sign : (d : Lead) → (c ≡ 4 → ⊥) → c ≡ 2 → Gives (get_or u r.end 0) x → Gives (class_of x) c → Gives (sign_led u r.end 1 r.number) d → Gives (led_from p rest) d
      number_sign d e f b g w = signed e b g d f w

pub ruleset body_rules = (body_mark, body_none)

pub ruleset number_rules = (number_ten, number_bare, number_sign)

-- ---- a line that begins at a, and one by its number
pub led_read : (s : List ℕ) (a e p : ℕ) (d : Lead) → a ≤ length s → Sought (is 10) s a e → Sought (other (either 32 9)) (take e s) a p → Gives (led_from p (drop p (take e s))) d → Gives (led_by a (line_bytes house_marks s a)) d
unfolding led_by
led_read s a e p d h f g w =
    let i : a ≤ length (take e s) = omega (arith, length-take e s, f.low, f.high) in
    let m = find_le (other (either 32 9)) (take e s) a i in
    let n = find_ge (other (either 32 9)) (take e s) a in
    let k : a + length (leading (blank house_marks) (drop a (take e s))) ≡ p =
    omega (arith, ap length (leading-is (blank house_marks) (take e s) a i), length-slice a (find (other (blank house_marks)) (take e s) a) (take e s) m, g.here) in
    record {
      answer =
          w.answer
          ∙ sym (ap (λ (e : ℕ). led_from (a + length (leading (blank house_marks) (drop a (take e s)))) (beyond (blank house_marks) (drop a (take e s)))) (sym f.here)
          ∙ ap (λ (k : ℕ). led_from k (beyond (blank house_marks) (drop a (take e s)))) k
          ∙ ap (led_from p) (beyond-is (blank house_marks) (take e s) a i ∙ ap (λ (k : ℕ). drop k (take e s)) (sym g.here)));
    }

pub line-front : (s : List ℕ) (a e : ℕ) → a ≤ length s → Sought (is 10) s a e → e ≡ length (take e s)
line-front s a e h f = let z : min e (length s) ≡ e = omega (arith, f.high) in sym (length-take e s ∙ z)

pub front-short : (s : List ℕ) (e : ℕ) → length s ≤ 4294967295 → length (take e s) ≤ 4294967295
front-short s e h = omega (arith, length-take e s)

module _ (s : List ℕ) (line : ℕ) (b : Option ℕ) (g : Gives (line_at 10 s line) (begins_at b)) where
  pub line-within : (a : ℕ) → b ≡ Some a → a ≤ length s
  line-within a e = (line_begun 10 s line a [] (sym g.answer ∙ ap begins_at e)).1

  pub line_there : (a : ℕ) (d : Lead) → b ≡ Some a → Gives (led_by a (line_bytes house_marks s a)) d → Gives (line_led s line) d
  unfolding line_led
  line_there a d e w = record { answer = w.answer ∙ sym (ap (led_at s) (sym g.answer ∙ ap begins_at e)) }

  pub line_not : b ≡ None → Gives (line_led s line) led.NoLine
  unfolding line_led
  line_not e = record { answer = sym (ap (led_at s) (sym g.answer ∙ ap begins_at e)) }

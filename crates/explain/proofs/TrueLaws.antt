-- The reason given is the true one: a line is said to be on the sheet exactly where the sheet has an item of it, and hidden exactly where a region
-- holds its item's place, which is then one region. Assumes nothing.
use Rattle.std.proofs.Math.Path.{◌≡◌, refl, sym, ap, subst}
use Rattle.std.proofs.Common.{◌∙◌, inl, inr, ltb-true, ltb-false, leb-true, le-ltb}
use Rattle.std.proofs.Math.Bool.{true, and-false}
use Rattle.std.specs.Prelude.{false, ◌⊎◌, ltb, leb, length, get_or, take, drop}
use mathlib.Core.List.{List, [], ◌∷◌, ◌++◌, flat_map, Memᴰ}
use Prim.Native.Nat.{ℕ, zero, suc, ◌+◌, ◌≤◌, ◌<◌}
use native.Mathlib.Omega.{arith}
use Rattle.std.proofs.lemmas.Bool.{lt-leb}
use Rattle.search.specs.Search.{line_start, line_end}
use Rattle.search.specs.SearchLaws.{decide, clash, and_true, neither, line_one}
use Rattle.common.specs.Grammars.{house}
use Rattle.common.specs.Entry.{rows, wide, start_of, stop_of, Shaped}
use Rattle.common.specs.Turning.{Each}
use Rattle.common.specs.EachLaws.{each_gather}
use Rattle.common.specs.Items.{line_bytes}
use Rattle.cover.specs.Cursor.{covers}
use Rattle.feed.specs.Items.{tested_place}
use Rattle.sheet.specs.Sheet.{inside, outside, sheet_of}
use Rattle.sheet.specs.LeftLaws.{outside_hidden, outside-shown}
use Rattle.common.specs.LineStarts.{start_here, starts_from, line_starts, line_at}
use Rattle.explain.specs.Reasons.{led_by, led_at, line_led, hiders, hidden_by, why}
use Rattle.common.specs.Grammars.{house_marks}
use Rattle.explain.specs.LedLaws.{led_items, Lies}
use Rattle.explain.specs.SheetLines.{line_items, shown_on, lies_on, sheet_by_lines}
use Rattle.common.specs.Sets.{house_markers, house_delims}
use Rattle.feed.specs.declared.item.SheetItem.{SheetItem}
use Rattle.explain.specs.declared.leads.Lead.{Lead}
use Rattle.explain.specs.declared.leads.Lead.TheVariants as led

-- ---- members
pub each_member : {A : Type 0} (P : A → Type 0) (l : List A) {x : A} → Each P l → Memᴰ x l → P x
each_member P [] w m = absurd (mathlib.Core.List.Memᴰ.not-nil m)
each_member {A} P (y ∷ l) {x} w m = by (λ n. each_member P l w.1 n) (mathlib.Core.List.Memᴰ.cases_cons m)
  where
    by : (Memᴰ x l → P x) → (x ≡ y) ⊎ Memᴰ x l → P x
    by ih (inl e) = subst P (sym e) w.0
    by ih (inr n) = ih n

module _ {A B : Type 0} (f : A → List B) where
  flat_member : (l : List A) (a : A) (x : B) → Memᴰ a l → Memᴰ x (f a) → Memᴰ x (flat_map f l)
  unfolding flat_map
  flat_member [] a x m n = absurd (mathlib.Core.List.Memᴰ.not-nil m)
  flat_member (b ∷ l) a x m n = by (λ k. flat_member l a x k n) (mathlib.Core.List.Memᴰ.cases_cons m)
    where
      by : (Memᴰ a l → Memᴰ x (flat_map f l)) → (a ≡ b) ⊎ Memᴰ a l → Memᴰ x (f b ++ flat_map f l)
      by ih (inl e) = mathlib.Core.List.Memᴰ.append_left (flat_map f l) (subst (λ (c : A). Memᴰ x (f c)) e n)
      by ih (inr k) = mathlib.Core.List.Memᴰ.append_right (f b) (ih k)

  pub member_flat : (l : List A) (x : B) → Memᴰ x (flat_map f l) → (a : A) × Memᴰ a l × Memᴰ x (f a)
  unfolding flat_map
  member_flat [] x m = absurd (mathlib.Core.List.Memᴰ.not-nil m)
  member_flat (b ∷ l) x m = by (λ k. member_flat l x k) (mathlib.Core.List.Memᴰ.append_cases (f b) m)
    where
      by : (Memᴰ x (flat_map f l) → (a : A) × Memᴰ a l × Memᴰ x (f a)) → Memᴰ x (f b) ⊎ Memᴰ x (flat_map f l) → (a : A) × Memᴰ a (b ∷ l) × Memᴰ x (f a)
      by ih (inl k) = (b, mathlib.Core.List.Memᴰ.head refl, k)
      by ih (inr k) = let w = ih k in (w.0, mathlib.Core.List.Memᴰ.tail w.1, w.2)

-- ---- where a line begins, one does
abbrev pub Begun : ℕ → List ℕ → ℕ → Type 0
Begun eol s a = (line_start eol s a ≡ true) × (a ≤ length s)

pub starts_begun : (eol : ℕ) (s : List ℕ) → Each (Begun eol s) (line_starts eol s)
unfolding starts_from line_start
starts_begun eol s = ((refl, omega arith), each_gather (Begun eol s) (start_here eol s) _ 1 (λ k h l. by k (omega arith) (decide (line_start eol s k))))
  where
    by : (k : ℕ) → k < length s → (line_start eol s k ≡ true) ⊎ (line_start eol s k ≡ false) → Each (Begun eol s) (start_here eol s k)
    by k l (inl u) = rw u ((u, omega arith), tt)
    by k l (inr u) = rw u tt

pub drop_member : {A : Type 0} (n : ℕ) (l r : List A) (a : A) → take 1 (drop n l) ≡ a ∷ r → Memᴰ a l × (r ≡ [])
drop_member zero [] r a e = absurd (let z : ◌≡◌ {A = ℕ} 0 1 = cc in omega arith)
drop_member zero (x ∷ l) r a e = let z : a ≡ x = cc in (mathlib.Core.List.Memᴰ.head z, cc)
drop_member (suc n) [] r a e = absurd (let z : ◌≡◌ {A = ℕ} 0 1 = cc in omega arith)
drop_member (suc n) (x ∷ l) r a e = let w = drop_member n l r a e in (mathlib.Core.List.Memᴰ.tail w.0, w.1)

line_member : (eol : ℕ) (s : List ℕ) (line a : ℕ) (r : List ℕ) → line_at eol s line ≡ a ∷ r → Memᴰ a (line_starts eol s) × (r ≡ [])
unfolding line_at
line_member eol s zero a r e = absurd (let z : ◌≡◌ {A = ℕ} 0 1 = cc in omega arith)
line_member eol s (suc k) a r e = drop_member k (line_starts eol s) r a e

pub line_begun : (eol : ℕ) (s : List ℕ) (line a : ℕ) (r : List ℕ) → line_at eol s line ≡ a ∷ r → Begun eol s a
line_begun eol s line a r e = each_member (Begun eol s) (line_starts eol s) (starts_begun eol s) (line_member eol s line a r e).0

-- ---- the regions that hold a place
module _ (p : ℕ) where
  hiders_yes : (k : ℕ) (r : List ℕ) (l : List (List ℕ)) → covers p r ≡ true → hiders k p (r ∷ l) ≡ (k ∷ r) ∷ hiders (suc k) p l
  unfolding hiders
  hiders_yes k r l e = rw (e, hiders)

  hiders_no : (k : ℕ) (r : List ℕ) (l : List (List ℕ)) → covers p r ≡ false → hiders k p (r ∷ l) ≡ hiders (suc k) p l
  unfolding hiders
  hiders_no k r l e = rw (e, hiders)

  -- none, where no region does
  pub hiders_none : (k : ℕ) (l : List (List ℕ)) → inside l p ≡ false → hiders k p l ≡ []
  unfolding hiders inside
  hiders_none k [] e = refl
  hiders_none k (r ∷ l) e = let w = neither (covers p r) (inside l p) e in hiders_no k r l w.0 ∙ hiders_none (suc k) l w.1

  -- the first of them is one
  pub record First (k : ℕ) (l : List (List ℕ)) (h : List ℕ) : Type 0 where
    pub row : ℕ
    pub within : row < length l
    pub same : h ≡ (k + row) ∷ get_or l row []
    pub covered : covers p (get_or l row []) ≡ true

  pub hiders-first : (k : ℕ) (l : List (List ℕ)) (h : List ℕ) (t : List (List ℕ)) → hiders k p l ≡ h ∷ t → First k l h
  unfolding hiders
  hiders-first k [] h t e = absurd (let z : ◌≡◌ {A = ℕ} 0 1 = cc in omega arith)
  hiders-first k (r ∷ l) h t e = by (λ f. hiders-first (suc k) l h t f) (decide (covers p r))
    where
      by : (hiders (suc k) p l ≡ h ∷ t → First (suc k) l h) → (covers p r ≡ true) ⊎ (covers p r ≡ false) → First k (r ∷ l) h
      by ih (inl u) =
          let f : (k ∷ r) ∷ hiders (suc k) p l ≡ h ∷ t = sym (hiders_yes k r l u) ∙ e in
          let z : k + 0 ≡ k = omega arith in
          record { row = 0; within = omega arith; same = rw z (cc); covered = u }
      by ih (inr u) =
          let w = ih (sym (hiders_no k r l u) ∙ e) in
          let z : k + suc w.row ≡ suc k + w.row = omega arith in
          record { row = suc w.row; within = omega (arith, w.within); same = rw z w.same; covered = w.covered }

  some_inside : (k : ℕ) (l : List (List ℕ)) → inside l p ≡ true → (h : List ℕ) × (t : List (List ℕ)) × (hiders k p l ≡ h ∷ t)
  unfolding inside
  some_inside k [] e = absurd (clash e refl)
  some_inside k (r ∷ l) e = by (λ f. some_inside (suc k) l f) (decide (covers p r))
    where
      by : (inside l p ≡ true → (h : List ℕ) × (t : List (List ℕ)) × (hiders (suc k) p l ≡ h ∷ t)) → (covers p r ≡ true) ⊎ (covers p r ≡ false) → (h : List ℕ) × (t : List (List ℕ)) × (hiders k p (r ∷ l) ≡ h ∷ t)
      by ih (inl u) = (k ∷ r, hiders (suc k) p l, hiders_yes k r l u)
      by ih (inr u) = let w = ih (rw u at e) in (w.0, w.1, hiders_no k r l u ∙ w.2)

  -- in a list in order it is the only one
  hiders_after : (from len k : ℕ) (l : List (List ℕ)) → Shaped from len l → p < from → hiders k p l ≡ []
  unfolding hiders
  hiders_after from len k [] w h = refl
  hiders_after from len k (r ∷ l) w h = hiders_no k r l (rw (lt-leb (start_of r) p (omega arith))) ∙ hiders_after (stop_of r) len (suc k) l w.3 (omega arith)

  row_from : (from len j : ℕ) (l : List (List ℕ)) → Shaped from len l → j < length l → from ≤ start_of (get_or l j [])
  row_from from len j [] w h = absurd (omega arith)
  row_from from len zero (r ∷ l) w h = w.0
  row_from from len (suc j) (r ∷ l) w h = omega (arith, row_from (stop_of r) len j l w.3 (omega arith))

  pub hiders_one : (from len k j : ℕ) (l : List (List ℕ)) → Shaped from len l → j < length l → covers p (get_or l j []) ≡ true → hiders k p l ≡ ((k + j) ∷ get_or l j []) ∷ []
  hiders_one from len k j [] w h e = absurd (omega arith)
  hiders_one from len k zero (r ∷ l) w h e =
      let v = and_true (leb (start_of r) p) (ltb p (stop_of r)) e in
      let z : k + 0 ≡ k = omega arith in
      hiders_yes k r l e ∙ rw (hiders_after (stop_of r) len (suc k) l w.3 (ltb-true p (stop_of r) v.1), z)
  hiders_one from len k (suc j) (r ∷ l) w h e =
      let v = and_true (leb (start_of (get_or l j [])) p) (ltb p (stop_of (get_or l j []))) e in
      let m = leb-true (start_of (get_or l j [])) p v.0 in
      let q : stop_of r ≤ p = omega (arith, row_from (stop_of r) len j l w.3 (omega arith)) in
      let z : k + suc j ≡ suc k + j = omega arith in
      hiders_no k r l (rw (le-ltb p (stop_of r) q) (and-false (leb (start_of r) p))) ∙ hiders_one (stop_of r) len (suc k) j l w.3 (omega arith) e ∙ rw z

-- ---- on the sheet
module _ (l : List ℕ) (n : ℕ) (s : List ℕ) (line : ℕ) where
  -- the sheet has an item whose content starts on the line
  pub record Shown : Type 0 where
    pub from : ℕ
    pub item : SheetItem
    pub begun : line_at 10 s line ≡ from ∷ []
    pub on : Memᴰ item (sheet_of house house_markers house_delims l n s)
    pub low : from < item.start
    pub high : item.start ≤ line_end 10 s from

-- a line that has an item by its bytes
led_item : (s : List ℕ) (line : ℕ) (i : SheetItem) → line_led s line ≡ led.Item i → (a : ℕ) × (line_at 10 s line ≡ a ∷ []) × (led_by a (line_bytes house_marks s a) ≡ led.Item i)
unfolding line_led
led_item s line i e = by (line_at 10 s line) refl e
  where
    by : (m : List ℕ) → line_at 10 s line ≡ m → led_at s m ≡ led.Item i → (a : ℕ) × (line_at 10 s line ≡ a ∷ []) × (led_by a (line_bytes house_marks s a) ≡ led.Item i)
    by [] f g = absurd (let z : ◌≡◌ {A = ℕ} 0 1 = cc in omega arith)
    by (a ∷ r) f g = let w = (line_member 10 s line a r f).1 in (a, f ∙ ap (λ (r : List ℕ). a ∷ r) w, g)

-- ---- what a reason tells of the line
module _ (rs : List (List ℕ)) where
  zero_item : (d : Lead) → why rs d ≡ 0 ∷ [] → (i : SheetItem) × (d ≡ led.Item i) × (inside rs (tested_place i) ≡ false)
  unfolding why
  zero_item led.NoLine e = absurd (let z : ◌≡◌ {A = ℕ} 1 0 = cc in omega arith)
  zero_item led.NoLead e = absurd (let z : ◌≡◌ {A = ℕ} 2 0 = cc in omega arith)
  zero_item led.TenDigits e = absurd (let z : ◌≡◌ {A = ℕ} 3 0 = cc in omega arith)
  zero_item led.NoDelimiter e = absurd (let z : ◌≡◌ {A = ℕ} 4 0 = cc in omega arith)
  zero_item led.NoBlank e = absurd (let z : ◌≡◌ {A = ℕ} 5 0 = cc in omega arith)
  zero_item (led.Item i) e = by (decide (inside rs (tested_place i)))
    where
      by : (inside rs (tested_place i) ≡ true) ⊎ (inside rs (tested_place i) ≡ false) → (j : SheetItem) × (led.Item i ≡ led.Item j) × (inside rs (tested_place j) ≡ false)
      by (inl u) =
          let w = some_inside (tested_place i) 0 rs u in
          let f : 6 ∷ w.0 ≡ 0 ∷ [] = sym (ap hidden_by w.2) ∙ e in
          absurd (let z : ◌≡◌ {A = ℕ} 6 0 = cc in omega arith)
      by (inr u) = (i, refl, u)

  item_zero : (i : SheetItem) → inside rs (tested_place i) ≡ false → why rs (led.Item i) ≡ 0 ∷ []
  unfolding why
  item_zero i e = ap hidden_by (hiders_none (tested_place i) 0 rs e)

  six_item : (d : Lead) (k : ℕ) (r : List ℕ) → why rs d ≡ 6 ∷ k ∷ r → (i : SheetItem) × (d ≡ led.Item i) × First (tested_place i) 0 rs (k ∷ r)
  unfolding why
  six_item led.NoLine k r e = absurd (let z : ◌≡◌ {A = ℕ} 1 6 = cc in omega arith)
  six_item led.NoLead k r e = absurd (let z : ◌≡◌ {A = ℕ} 2 6 = cc in omega arith)
  six_item led.TenDigits k r e = absurd (let z : ◌≡◌ {A = ℕ} 3 6 = cc in omega arith)
  six_item led.NoDelimiter k r e = absurd (let z : ◌≡◌ {A = ℕ} 4 6 = cc in omega arith)
  six_item led.NoBlank k r e = absurd (let z : ◌≡◌ {A = ℕ} 5 6 = cc in omega arith)
  six_item (led.Item i) k r e = by (hiders 0 (tested_place i) rs) refl e
    where
      by : (hs : List (List ℕ)) → hiders 0 (tested_place i) rs ≡ hs → hidden_by hs ≡ 6 ∷ k ∷ r → (j : SheetItem) × (led.Item i ≡ led.Item j) × First (tested_place j) 0 rs (k ∷ r)
      by [] f g = absurd (let z : ◌≡◌ {A = ℕ} 0 6 = cc in omega arith)
      by (h ∷ t) f g =
          let z : h ≡ k ∷ r = cc in
          (i, refl, subst (First (tested_place i) 0 rs) z (hiders-first (tested_place i) 0 rs h t f))

-- ---- 0, and what the sheet has of a line
module _ (l : List ℕ) (n : ℕ) (s : List ℕ) (line : ℕ) where
  abbrev list_rows : List (List ℕ)
  list_rows = rows wide n l

  -- 0: the sheet has an item of the line
  pub on_sheet : why list_rows (line_led s line) ≡ 0 ∷ [] → Shown l n s line
  unfolding outside
  on_sheet e =
      let w = zero_item list_rows (line_led s line) e in
      let i = w.0 in
      let v = led_item s line i w.1 in
      let a = v.0 in
      let b = line_begun 10 s line a [] v.1 in
      let f : line_items s a ≡ i ∷ [] = ap led_items v.2 in
      let g : shown_on list_rows s a ≡ i ∷ [] = ap (outside list_rows) f ∙ outside-shown list_rows i [] w.2 in
      let m : Memᴰ i (shown_on list_rows s a) = subst (λ (k : List SheetItem). Memᴰ i k) (sym g) (mathlib.Core.List.Memᴰ.head refl) in
      let x : Each (Lies a (line_end 10 s a)) (i ∷ []) = subst (Each (Lies a (line_end 10 s a))) f (lies_on s a b.1) in
      record {
        from = a;
        item = i;
        begun = v.1;
        on = subst (λ (k : List SheetItem). Memᴰ i k) (sym (sheet_by_lines l n s)) (flat_member (shown_on list_rows s) (line_starts 10 s) a i (line_member 10 s line a [] v.1).0 m);
        low = omega (arith, x.0.0);
        high = x.0.1;
      }

  -- what a line shows is its item, which no region hides
  pub shown-item : (b : ℕ) (i : SheetItem) → Memᴰ i (shown_on list_rows s b) → (led_by b (line_bytes house_marks s b) ≡ led.Item i) × (inside list_rows (tested_place i) ≡ false)
  unfolding outside
  shown-item b i m = by (led_by b (line_bytes house_marks s b)) refl m
    where
      hid : (j : SheetItem) → (inside list_rows (tested_place j) ≡ true) ⊎ (inside list_rows (tested_place j) ≡ false) → Memᴰ i (outside list_rows (j ∷ [])) → (j ≡ i) × (inside list_rows (tested_place j) ≡ false)
      hid j (inl u) k = absurd (mathlib.Core.List.Memᴰ.not-nil (subst (λ (l : List SheetItem). Memᴰ i l) (outside_hidden list_rows j [] u) k))
      hid j (inr u) k = (sym (mathlib.Core.List.Memᴰ.eq_of_singleton (subst (λ (l : List SheetItem). Memᴰ i l) (outside-shown list_rows j [] u) k)), u)

      by : (d : Lead) → led_by b (line_bytes house_marks s b) ≡ d → Memᴰ i (outside list_rows (led_items d)) → (led_by b (line_bytes house_marks s b) ≡ led.Item i) × (inside list_rows (tested_place i) ≡ false)
      by led.NoLine f k = absurd (mathlib.Core.List.Memᴰ.not-nil k)
      by led.NoLead f k = absurd (mathlib.Core.List.Memᴰ.not-nil k)
      by led.TenDigits f k = absurd (mathlib.Core.List.Memᴰ.not-nil k)
      by led.NoDelimiter f k = absurd (mathlib.Core.List.Memᴰ.not-nil k)
      by led.NoBlank f k = absurd (mathlib.Core.List.Memᴰ.not-nil k)
      by (led.Item j) f k =
          let w = hid j (decide (inside list_rows (tested_place j))) k in
          (f ∙ ap led.Item w.0, subst (λ (j : SheetItem). inside list_rows (tested_place j) ≡ false) w.0 w.1)

  -- two lines that have a place in common are one
  pub one_line : (a b p : ℕ) → line_start 10 s a ≡ true → line_start 10 s b ≡ true → a < p → p ≤ line_end 10 s a → b < p → p ≤ line_end 10 s b → a ≡ b
  one_line a b p u v h i j k = by (decide (ltb a b)) (decide (ltb b a))
    where
      by : (ltb a b ≡ true) ⊎ (ltb a b ≡ false) → (ltb b a ≡ true) ⊎ (ltb b a ≡ false) → a ≡ b
      by (inl x) y = absurd (clash v (line_one 10 s a b (ltb-true a b x) (omega arith)))
      by (inr x) (inl y) = absurd (clash u (line_one 10 s b a (ltb-true b a y) (omega arith)))
      by (inr x) (inr y) = omega (arith, ltb-false a b x, ltb-false b a y)

  -- the item that the sheet has of a line is the one that the line's bytes are
  pub shown_led : (w : Shown l n s line) → (line_led s line ≡ led.Item w.item) × (inside list_rows (tested_place w.item) ≡ false)
  unfolding line_led
  shown_led w =
      let m = member_flat (shown_on list_rows s) (line_starts 10 s) w.item (subst (λ (k : List SheetItem). Memᴰ w.item k) (sheet_by_lines l n s) w.on) in
      let b = m.0 in
      let v = shown-item b w.item m.2 in
      let g = each_member (Begun 10 s) (line_starts 10 s) (starts_begun 10 s) m.1 in
      let f : line_items s b ≡ w.item ∷ [] = ap led_items v.0 in
      let x : Each (Lies b (line_end 10 s b)) (w.item ∷ []) = subst (Each (Lies b (line_end 10 s b))) f (lies_on s b g.1) in
      let z : w.from ≡ b = one_line w.from b w.item.start (line_begun 10 s line w.from [] w.begun).0 g.0 w.low w.high (omega (arith, x.0.0)) x.0.1 in
      (ap (led_at s) (w.begun ∙ ap (λ (a : ℕ). a ∷ []) z) ∙ v.0, v.1)

  pub sheet_on : Shown l n s line → why list_rows (line_led s line) ≡ 0 ∷ []
  sheet_on w = let v = shown_led w in ap (why list_rows) v.0 ∙ item_zero list_rows w.item v.1

-- ---- hidden
module _ (rs : List (List ℕ)) (s : List ℕ) (line : ℕ) where
  -- region k, which is r, holds the place that the line's item is tested by
  pub record HidesLine (k : ℕ) (r : List ℕ) : Type 0 where
    pub item : SheetItem
    pub leads : line_led s line ≡ led.Item item
    pub within : k < length rs
    pub region : r ≡ get_or rs k []
    pub covered : covers (tested_place item) r ≡ true

  pub hidden_by_lem : (k : ℕ) (r : List ℕ) → why rs (line_led s line) ≡ 6 ∷ k ∷ r → HidesLine k r
  hidden_by_lem k r e =
      let w = six_item rs (line_led s line) k r e in
      let f = w.2 in
      let x : k ≡ 0 + f.row = cc f.same in
      let z : k ≡ f.row = omega arith in
      let y : r ≡ get_or rs f.row [] = cc f.same in
      record {
        item = w.0;
        leads = w.1;
        within = omega (arith, f.within);
        region = y ∙ ap (λ (j : ℕ). get_or rs j []) (sym z);
        covered = ap (covers (tested_place w.0)) y ∙ f.covered;
      }

  -- in a list in order every region that does is the one that is told: there is one at the most
  module _ (from len : ℕ) (shape : Shaped from len rs) where
    pub by_hidden : (k : ℕ) (r : List ℕ) → HidesLine k r → why rs (line_led s line) ≡ 6 ∷ k ∷ r
    unfolding why
    by_hidden k r w =
        let z : 0 + k ≡ k = omega arith in
        rw w.leads
        (ap hidden_by (hiders_one (tested_place w.item) from len 0 k rs shape w.within (ap (covers (tested_place w.item)) (sym w.region) ∙ w.covered)) ∙ rw (z, ← w.region))

    pub hidden_one : (k k' : ℕ) (r r' : List ℕ) → HidesLine k r → HidesLine k' r' → (k ≡ k') × (r ≡ r')
    hidden_one k k' r r' v w =
        let e : 6 ∷ k ∷ r ≡ 6 ∷ k' ∷ r' = sym (by_hidden k r v) ∙ by_hidden k' r' w in
        (cc, cc)

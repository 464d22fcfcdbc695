-- Every item of the house work sheet is the item of exactly one line. Assumes nothing.
use Rattle.std.specs.Prelude.{◌≡◌, refl, true, false, ◌⊎◌, take, drop}
use Rattle.std.proofs.Common.{sym, ap, subst, ◌∙◌, inl, inr, arith}
use mathlib.Core.List.Memᴰ
use mathlib.Core.List.{List, [], ◌∷◌, ◌++◌, Memᴰ}
use Prim.Native.Nat.{ℕ, zero, suc, ◌<◌}
use Rattle.search.specs.Search.{line_start, line_end}
use Rattle.search.specs.SearchLaws.{decide}
use Rattle.common.specs.Entry.{rows, wide}
use Rattle.common.specs.Grammars.{house}
use Rattle.common.specs.Sets.{house_markers, house_delims}
use Rattle.common.specs.Turn.{gather}
use Rattle.common.specs.Turning.{Each}
use Rattle.common.specs.EachLaws.{each_gather}
use Rattle.common.specs.LineStarts.{start_here, starts_from, line_starts, line_at}
use Rattle.sheet.specs.Sheet.{sheet_of}
use Rattle.feed.specs.declared.item.SheetItem.{SheetItem}
use Rattle.explain.specs.LedLaws.{led_items, Lies}
use Rattle.explain.specs.SheetLines.{line_items, shown_on, lies_on, sheet_by_lines}
use Rattle.explain.proofs.TrueLaws.{Shown, each_member, member_flat, drop_member, Begun, starts_begun, line_begun, shown-item, one_line}

-- ---- lines begin one behind the other, so that no two have a start in common
abbrev Ascends : List ℕ → Type 0
Ascends [] = Unit {0}
Ascends (x ∷ l) = Each (λ y. x < y) l × Ascends l

module _ (eol : ℕ) (s : List ℕ) where
  start_later : (a k : ℕ) → a < k → Each (λ y. a < y) (start_here eol s k)
  start_later a k h = by (decide (line_start eol s k))
    where
      by : (line_start eol s k ≡ true) ⊎ (line_start eol s k ≡ false) → Each (λ y. a < y) (start_here eol s k)
      by (inl u) = rw u (h, tt)
      by (inr u) = rw u tt

  gather_later : (n a b : ℕ) → a < b → Each (λ y. a < y) (gather (start_here eol s) n b)
  gather_later n a b h = each_gather (λ y. a < y) (start_here eol s) n b (λ k l m. start_later a k (omega arith))

  gather_apart : (n a : ℕ) → Ascends (gather (start_here eol s) n a)
  unfolding gather
  gather_apart zero a = tt
  gather_apart (suc n) a = by (gather_apart n (suc a)) (decide (line_start eol s a))
    where
      by : Ascends (gather (start_here eol s) n (suc a)) → (line_start eol s a ≡ true) ⊎ (line_start eol s a ≡ false) → Ascends (start_here eol s a ++ gather (start_here eol s) n (suc a))
      by w (inl u) = rw u (gather_later n a (suc a) (omega arith), w)
      by w (inr u) = rw u w

  starts_apart : Ascends (line_starts eol s)
  unfolding starts_from
  starts_apart = (gather_later _ 0 1 (omega arith), gather_apart _ 1)

-- a place of a list whose members are apart stands once in it
apart_once : (l : List ℕ) (j k a : ℕ) → Ascends l → take 1 (drop j l) ≡ a ∷ [] → take 1 (drop k l) ≡ a ∷ [] → j ≡ k
apart_once [] zero k a w e f = absurd (let z : ◌≡◌ {A = ℕ} 0 1 = cc in omega arith)
apart_once [] (suc j) k a w e f = absurd (let z : ◌≡◌ {A = ℕ} 0 1 = cc in omega arith)
apart_once (x ∷ l) zero zero a w e f = refl
apart_once (x ∷ l) zero (suc k) a w e f = let z : a ≡ x = cc in absurd (omega (arith, each_member (λ y. x < y) l w.0 (drop_member k l [] a f).0))
apart_once (x ∷ l) (suc j) zero a w e f = let z : a ≡ x = cc in absurd (omega (arith, each_member (λ y. x < y) l w.0 (drop_member j l [] a e).0))
apart_once (x ∷ l) (suc j) (suc k) a w e f = ap suc (apart_once l j k a w.1 e f)

line_once : (eol : ℕ) (s : List ℕ) (line line' a : ℕ) → line_at eol s line ≡ a ∷ [] → line_at eol s line' ≡ a ∷ [] → line ≡ line'
unfolding line_at
line_once eol s zero line' a e f = absurd (let z : ◌≡◌ {A = ℕ} 0 1 = cc in omega arith)
line_once eol s (suc j) zero a e f = absurd (let z : ◌≡◌ {A = ℕ} 0 1 = cc in omega arith)
line_once eol s (suc j) (suc k) a e f = ap suc (apart_once (line_starts eol s) j k a (starts_apart eol s) e f)

-- a member's place in a list
member_at : (l : List ℕ) (a : ℕ) → Memᴰ a l → (k : ℕ) × (take 1 (drop k l) ≡ a ∷ [])
member_at [] a m = absurd (Memᴰ.not-nil m)
member_at (x ∷ l) a m = by (λ n. member_at l a n) (Memᴰ.cases_cons m)
  where
    by : (Memᴰ a l → (k : ℕ) × (take 1 (drop k l) ≡ a ∷ [])) → (a ≡ x) ⊎ Memᴰ a l → (k : ℕ) × (take 1 (drop k (x ∷ l)) ≡ a ∷ [])
    by ih (inl e) = (0, ap (λ (y : ℕ). y ∷ []) (sym e))
    by ih (inr n) = let w = ih n in (suc w.0, w.1)

member_line : (eol : ℕ) (s : List ℕ) (a : ℕ) → Memᴰ a (line_starts eol s) → (line : ℕ) × (line_at eol s line ≡ a ∷ [])
unfolding line_at
member_line eol s a m = let w = member_at (line_starts eol s) a m in (suc w.0, w.1)

-- ---- the items of a sheet and the lines
module _ (l : List ℕ) (n : ℕ) (s : List ℕ) where
  abbrev sheet : List SheetItem
  sheet = sheet_of house house_markers house_delims l n s

  -- every item of the sheet is a line's
  pub item-line : (i : SheetItem) → Memᴰ i sheet → (line : ℕ) × (w : Shown l n s line) × (w.item ≡ i)
  item-line i on =
      let m = member_flat (shown_on (rows wide n l) s) (line_starts 10 s) i (subst (λ (k : List SheetItem). Memᴰ i k) (sheet_by_lines l n s) on) in
      let b = m.0 in
      let at = member_line 10 s b m.1 in
      let g = each_member (Begun 10 s) (line_starts 10 s) (starts_begun 10 s) m.1 in
      let f : line_items s b ≡ i ∷ [] = ap led_items (shown-item l n s at.0 b i m.2).0 in
      let x : Each (Lies b (line_end 10 s b)) (i ∷ []) = subst (Each (Lies b (line_end 10 s b))) f (lies_on s b g.1) in
      (at.0, record { from = b; item = i; begun = at.1; on = on; low = omega (arith, x.0.0); high = x.0.1 }, refl)

  -- and no other line's
  pub item_once : (line line' : ℕ) (v : Shown l n s line) (w : Shown l n s line') → v.item ≡ w.item → line ≡ line'
  item_once line line' v w e =
      let z : w.item.start ≡ v.item.start = ap (λ (i : SheetItem). i.start) (sym e) in
      let y : v.from ≡ w.from =
      one_line l n s line v.from w.from v.item.start (line_begun 10 s line v.from [] v.begun).0 (line_begun 10 s line' w.from [] w.begun).0
      v.low v.high (omega (arith, w.low)) (omega (arith, w.high)) in
      line_once 10 s line line' v.from v.begun (w.begun ∙ ap (λ (a : ℕ). a ∷ []) (sym y))

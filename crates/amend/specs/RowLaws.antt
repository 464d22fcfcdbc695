-- Laws of lists as rows of two numbers: the regions that rows say, and the rules of the loops that search and copy rows. Assumes nothing.
use Rattle.std.specs.Prelude.{◌≡◌, refl, false, leb, length, get_or, take, drop}
use Rattle.std.proofs.Common.{ltb, le-ltb, sym, subst, ◌∙◌, add-zero, get_or-take, get_or-drop}
use Rattle.std.proofs.Math.Path.{ap}
use mathlib.Core.List.{List, [], ◌∷◌, map}
use Prim.Native.Nat.{ℕ, zero, suc, ◌+◌, ◌-◌, ◌*◌, ◌/◌, ◌≤◌, ◌<◌}
use Rattle.std.proofs.Math.Nat.{sub-zero}
use native.Mathlib.Omega.{arith}
use Rattle.std.proofs.lemmas.List.{length-map}
use Rattle.std.proofs.Math.ListN.{get_or-map}
use Rattle.std.proofs.Math.Seq.{drop-drop}
use Rattle.search.specs.Promise.{Gives}
use Rattle.common.specs.Entry.{flatten, rows, start_of, stop_of, Shaped, put_at, wide}
use Rattle.common.specs.EntryLaws.{length-rows, rows_at, rows_next, room_fits, length_put, put_append}
use Rattle.region.specs.Region.{move, reaches, keep_before, InOrder, Listed, unrow}
use Rattle.region.specs.Ahead.{order_later}
use Rattle.common.specs.Lists.{RowPut}
use Rattle.region.specs.Room.{RowFits}
use Rattle.cover.specs.Cursor.{start_at, stop_at}
use Rattle.cover.specs.Shape.{misshapen}
use Rattle.cover.specs.ShapeLaws.{shape_fits, shape_order}
use Rattle.amend.specs.Amend.{moved_by}
use Rattle.amend.specs.Amended.{regions_in}
use Rattle.amend.specs.Parts.{Orderly, Fair, regions_between, PutRows, Moves, Copies}
use Rattle.amend.specs.Starts.{order_longer, before_few, before_below, before_above, reach_none, reach_last}

-- ---- rows and regions
-- a region of no row
abbrev pub nowhere : Listed
nowhere = unrow []

-- the region that row i says
abbrev pub row_at : ℕ → List ℕ → Listed
row_at i l = record { start = start_at wide l i; stop = stop_at wide l i; tag = tt }

-- where it starts, as a row's number 0
start_zeroth : (i : ℕ) (l : List ℕ) → get_or l (i * wide + 0) 0 ≡ start_at wide l i
start_zeroth i l = ap (λ (k : ℕ). get_or l k 0) (add-zero (i * wide))

pub listed_length : (n : ℕ) (l : List ℕ) → length (regions_in n l) ≡ n
unfolding regions_in
listed_length n l = length-map (rows wide n l) unrow ∙ length-rows wide n l

module _ (n i : ℕ) (l : List ℕ) (h : i < n) where
  pub listed_start : (get_or (regions_in n l) i nowhere).start ≡ get_or l (i * wide + 0) 0
  unfolding regions_in
  listed_start = ap (λ (r : Listed). r.start) (get_or-map unrow (rows wide n l) i []) ∙ rows_at wide n i 0 l h (omega arith)

  pub listed_stop : (get_or (regions_in n l) i nowhere).stop ≡ get_or l (i * wide + 1) 0
  unfolding regions_in
  listed_stop = ap (λ (r : Listed). r.stop) (get_or-map unrow (rows wide n l) i []) ∙ rows_at wide n i 1 l h (omega arith)

  row_says : unrow (take wide (drop (i * wide) l)) ≡ row_at i l
  row_says =
      let a : start_of (take wide (drop (i * wide) l)) ≡ start_at wide l i = get_or-take wide (drop (i * wide) l) 0 0 (omega arith) ∙ get_or-drop (i * wide) l 0 0 ∙ start_zeroth i l in
      let b : stop_of (take wide (drop (i * wide) l)) ≡ stop_at wide l i = get_or-take wide (drop (i * wide) l) 1 0 (omega arith) ∙ get_or-drop (i * wide) l 1 0 in
      rw (a, b)

  -- the row that stands at i, and those behind it
  pub between_next : regions_between i n l ≡ row_at i l ∷ regions_between (i + 1) n l
  unfolding regions_in
  between_next =
      let e : n - i ≡ suc (n - (i + 1)) = omega arith in
      let f : (i + 1) * wide ≡ i * wide + wide = omega arith in
      rw (e, f, drop-drop wide (i * wide) l) (ap (λ (r : Listed). r ∷ map unrow (rows wide (n - (i + 1)) (drop (i * wide + wide) l))) row_says)

pub between_none : (n i : ℕ) (l : List ℕ) → n ≤ i → regions_between i n l ≡ []
unfolding regions_in
between_none n i l h =
    let e : n - i ≡ 0 = omega arith in
    ap (λ (m : ℕ). map unrow (rows wide m (drop (i * wide) l))) e

-- the first of the regions, and the others
pub listed_take : (n i : ℕ) (l : List ℕ) → i ≤ n → take i (regions_in n l) ≡ regions_in i l
unfolding regions_in
listed_take n zero l h = refl
listed_take zero (suc i) l h = absurd (omega arith)
listed_take (suc n) (suc i) l h = ap (λ (z : List Listed). unrow (take wide l) ∷ z) (listed_take n i (drop wide l) (omega arith))

pub listed_drop : (n i : ℕ) (l : List ℕ) → i ≤ n → drop i (regions_in n l) ≡ regions_between i n l
unfolding regions_in
listed_drop n zero l h = rw sub-zero
listed_drop zero (suc i) l h = absurd (omega arith)
listed_drop (suc n) (suc i) l h =
    let e : suc n - suc i ≡ n - i = omega arith in
    let f : wide + i * wide ≡ suc i * wide = omega arith in
    listed_drop n i (drop wide l) (omega arith) ∙ ap (λ (z : List ℕ). map unrow (rows wide (n - i) z)) (drop-drop (i * wide) wide l ∙ ap (λ (k : ℕ). drop k l) f) ∙ ap (λ (m : ℕ). map unrow (rows wide m (drop (suc i * wide) l))) (sym e)

pub between_zero : (n : ℕ) (l : List ℕ) → regions_between 0 n l ≡ regions_in n l
between_zero n l = rw sub-zero

-- ---- lists in order
ordered : (from len : ℕ) (l : List (List ℕ)) → Shaped from len l → InOrder from len (map unrow l)
ordered from len [] w = tt
ordered from len (r ∷ l) w = (w.0, w.1, w.2, ordered (stop_of r) len l w.3)

-- a list that is not misshapen
pub orderly_told : (l : List ℕ) (n len : ℕ) → misshapen l n len ≡ false → Orderly l n len
unfolding regions_in
orderly_told l n len e = record { roomy = room_fits wide n l (shape_fits l n len e); order = ordered 0 len (rows wide n l) (shape_order l n len e) }

pub orderly_longer : (l : List ℕ) (n len m : ℕ) → len ≤ m → Orderly l n len → Orderly l n m
orderly_longer l n len m h w = record { roomy = w.roomy; order = order_longer 0 len m (regions_in n l) h w.order }

pub fair_orderly : {l : List ℕ} {n len : ℕ} → Fair l n len → Orderly l n 4294967295
fair_orderly {l} {n} {len} w = orderly_longer l n len 4294967295 w.short (orderly_told l n len w.shape)

-- ---- the loop that halves: the regions that start before k are at least `low` and at most `high`
pub record Halving (l : List ℕ) (n k low high : ℕ) : Type 0 where
  pub list : Orderly l n 4294967295
  pub below : low ≤ length (keep_before k (regions_in n l))
  pub above : length (keep_before k (regions_in n l)) ≤ high
  pub within : high ≤ n

abbrev middle : ℕ → ℕ → ℕ
middle low high = low + (high - low) / 2

pub halving_first : (l : List ℕ) (n k : ℕ) → Orderly l n 4294967295 → Halving l n k 0 n
halving_first l n k w = record { list = w; below = omega arith; above = omega (arith, before_few k (regions_in n l), listed_length n l); within = omega arith }

module _ (l : List ℕ) (n k low high : ℕ) (i : Halving l n k low high) where
  pub halving_end : high ≤ low → low ≡ length (keep_before k (regions_in n l))
  halving_end h = omega (arith, i.below, i.above)

  module _ (h : low < high) (a : ℕ) (g : Gives (get_or l (middle low high * wide + 0) 0) a) where
    at : middle low high < n
    at = omega (arith, i.within)

    says : (get_or (regions_in n l) (middle low high) nowhere).start ≡ a
    says = listed_start n (middle low high) l at ∙ sym g.answer

    pub halving_low : a < k → Halving l n k (middle low high + 1) high
    halving_low x =
        let b = before_below k nowhere 0 4294967295 (middle low high) (regions_in n l) i.list.order (omega (arith, at, listed_length n l)) (omega (arith, says)) in
        record { list = i.list; below = omega (arith, b); above = i.above; within = i.within }

    pub halving_high : k ≤ a → Halving l n k low (middle low high)
    halving_high x =
        let b = before_above k nowhere 0 4294967295 (middle low high) (regions_in n l) i.list.order (omega (arith, at, listed_length n l)) (omega (arith, says)) in
        record { list = i.list; below = i.below; above = b; within = omega (arith, at) }

-- ---- the regions that reach a place: n of them start before it
module _ (l : List ℕ) (count k n : ℕ) (w : Orderly l count 4294967295) (g : Gives (length (keep_before k (regions_in count l))) n) where
  pub reached_none : n ≤ 0 → ltb 0 n ≡ reaches k (regions_in count l)
  reached_none e = le-ltb 0 n e ∙ sym (reach_none k (regions_in count l) (omega (arith, g.answer)))

  pub reached_last : (a : ℕ) → 0 < n → Gives (get_or l ((n - 1) * wide + 1) 0) a → leb k a ≡ reaches k (regions_in count l)
  reached_last a z h =
      let m : length (keep_before k (regions_in count l)) ≡ suc (n - 1) = omega (arith, g.answer) in
      let few = before_few k (regions_in count l) in
      let b : a ≡ (get_or (regions_in count l) (n - 1) nowhere).stop = h.answer ∙ sym (listed_stop count (n - 1) l (omega (arith, g.answer, listed_length count l))) in
      ap (leb k) b ∙ sym (reach_last k nowhere 0 4294967295 (n - 1) (regions_in count l) w.order m)

  -- the last of them lies in the list
  pub reached_inside : 0 < n → (n - 1) * wide + 1 < length l
  reached_inside z = omega (arith, g.answer, before_few k (regions_in count l), listed_length count l, w.roomy)

-- ---- regions written one after the other
-- of the regions l, to be written from row n on, each in the w numbers that `flat` gives, `rest` is still to be written, from row m on
pub record PuttingRows (flat : Listed → List ℕ) (w : ℕ) (l rest : List Listed) (n m : ℕ) (out₀ out : List ℕ) : Type 0 where
  pub size : (r : Listed) → length (flat r) ≡ w
  pub same : put_at (n * w) (flatten flat l) out₀ ≡ put_at (m * w) (flatten flat rest) out
  pub count : n + length l ≡ m + length rest
  pub long : length out ≡ length out₀
  pub room : m * w + length rest * w ≤ length out

module _ {flat : Listed → List ℕ} {w : ℕ} {l : List Listed} {n : ℕ} {out₀ : List ℕ} where
  pub putting_first : ((r : Listed) → length (flat r) ≡ w) → n * w + length l * w ≤ length out₀ → PuttingRows flat w l l n n out₀ out₀
  putting_first size h = record { size = size; same = refl; count = refl; long = refl; room = h }

  -- there is room for the next of them
  pub putting_room : {r : Listed} {rest : List Listed} {m : ℕ} {out : List ℕ} → PuttingRows flat w l (r ∷ rest) n m out₀ out → m * w + w ≤ length out
  putting_room {rest = rest} i = omega (arith, i.room, rows_next (length rest) w)

  pub putting_put : {rest : List Listed} {m m' : ℕ} {out out' : List ℕ} (r : Listed) → PuttingRows flat w l (r ∷ rest) n m out₀ out → RowPut (flat r) m out out' m' → PuttingRows flat w l rest n m' out₀ out'
  putting_put {rest} {m} {m'} {out} {out'} r i p =
      let e : m' * w ≡ m * w + w = ap (λ (k : ℕ). k * w) p.next ∙ rows_next m w in
      let z : out' ≡ put_at (m * w) (flat r) out = p.list ∙ ap (λ (k : ℕ). put_at (m * k) (flat r) out) (i.size r) in
      let long : length out' ≡ length out = ap length z ∙ length_put (m * w) (flat r) out in
      record {
        size = i.size;
        same =
            i.same ∙ put_append (m * w) (flat r) (flatten flat rest) out
            ∙ ap (λ (k : ℕ). put_at k (flatten flat rest) (put_at (m * w) (flat r) out)) (ap (λ (k : ℕ). m * w + k) (i.size r) ∙ sym e)
            ∙ ap (put_at (m' * w) (flatten flat rest)) (sym z);
        count = omega (arith, i.count, p.next);
        long = long ∙ i.long;
        room = omega (arith, i.room, rows_next (length rest) w, e, long);
      }

  pub putting_end : {m : ℕ} {out : List ℕ} → PuttingRows flat w l [] n m out₀ out → PutRows flat w l n out₀ out m
  putting_end i = record { next = omega (arith, i.count); list = sym i.same }

-- ---- the loop that copies rows: it stands at row i of the list l, and at row m of `out`
pub record Copying (flat : Listed → List ℕ) (w : ℕ) (l : List ℕ) (from to down up row : ℕ) (out₀ out : List ℕ) (i m : ℕ) : Type 0 where
  pub ahead : i ≤ to
  pub inside : to * wide ≤ length l
  pub order : InOrder down (4294967295 + down - up) (regions_between i to l)
  pub putting : PuttingRows flat w (map (move (λ x. x + up - down)) (regions_between from to l)) (map (move (λ x. x + up - down)) (regions_between i to l)) row m out₀ out

module _ {flat : Listed → List ℕ} {width : ℕ} {l : List ℕ} {from to down up row : ℕ} {out₀ : List ℕ} where
  pub copying_first : ((r : Listed) → length (flat r) ≡ width) → Copies width l from to down up out₀ row → Copying flat width l from to down up row out₀ out₀ from row
  copying_first size w =
      let many : length (map (move (λ x. x + up - down)) (regions_between from to l)) ≡ to - from = length-map (regions_between from to l) (move (λ x. x + up - down)) ∙ listed_length (to - from) (drop (from * wide) l) in
      record {
        ahead = w.ahead;
        inside = w.inside;
        order = w.order;
        putting = putting_first size (subst (λ (k : ℕ). row * width + k * width ≤ length out₀) (sym many) w.room);
      }

  module _ {out : List ℕ} {i m : ℕ} (w : Copying flat width l from to down up row out₀ out i m) where
    pub copying_same : length out ≡ length out₀
    copying_same = w.putting.long

    pub copying_end : to ≤ i → PutRows flat width (moved_by down up (regions_between from to l)) row out₀ out m
    copying_end h = putting_end (subst (λ (z : List Listed). PuttingRows flat width (map (move (λ x. x + up - down)) (regions_between from to l)) (map (move (λ x. x + up - down)) z) row m out₀ out) (between_none to i l h) w.putting)

    module _ (h : i < to) where
      -- what is known of row i
      one : InOrder down (4294967295 + down - up) (row_at i l ∷ regions_between (i + 1) to l)
      one = subst (InOrder down (4294967295 + down - up)) (between_next to i l h) w.order

      next : PuttingRows flat width (map (move (λ x. x + up - down)) (regions_between from to l)) (move (λ x. x + up - down) (row_at i l) ∷ map (move (λ x. x + up - down)) (regions_between (i + 1) to l)) row m out₀ out
      next = subst (λ (z : List Listed). PuttingRows flat width (map (move (λ x. x + up - down)) (regions_between from to l)) (map (move (λ x. x + up - down)) z) row m out₀ out) (between_next to i l h) w.putting

      -- what was read of row i may be moved
      pub start_moves : (a : ℕ) → Gives (get_or l (i * wide + 0) 0) a → Moves a down up
      start_moves a g = record { low = omega (arith, g.answer, start_zeroth i l, one.0); high = omega (arith, g.answer, start_zeroth i l, one.0, one.1, one.2) }

      pub stop_moves : (b : ℕ) → Gives (get_or l (i * wide + 1) 0) b → Moves b down up
      stop_moves b g = record { low = omega (arith, g.answer, one.0, one.1); high = omega (arith, g.answer, one.0, one.1, one.2) }

      -- there is room for it
      pub copying_room : m * width + width ≤ length out
      copying_room = putting_room next

      module _ (x y a b : ℕ) where
        pub copying_again : (m' : ℕ) (out' : List ℕ) → RowPut (flat (record { start = x; stop = y; tag = tt })) m out out' m' → Gives (a + up - down) x → Gives (b + up - down) y → Gives (get_or l (i * wide + 0) 0) a → Gives (get_or l (i * wide + 1) 0) b
            → Copying flat width l from to down up row out₀ out' (i + 1) m'
        copying_again m' out' p gx gy ga gb =
            let e : a ≡ start_at wide l i = ga.answer ∙ start_zeroth i l in
            let q : RowPut (flat (move (λ x. x + up - down) (row_at i l))) m out out' m' = rw (← e, ← gb.answer, ← gx.answer, ← gy.answer) p in
            record {
              ahead = omega arith;
              inside = w.inside;
              order = order_later down (stop_at wide l i) (4294967295 + down - up) (regions_between (i + 1) to l) (omega (arith, one.0, one.1)) one.3;
              putting = putting_put (move (λ x. x + up - down) (row_at i l)) next q;
            }

-- a row of numbers, which fit 32 bits
pub copying_puts : {flat : Listed → List ℕ} {l : List ℕ} {from to down up row : ℕ} {out₀ out : List ℕ} {i m : ℕ} → Copying flat wide l from to down up row out₀ out i m → i < to
    → (x y a b : ℕ) → Gives (a + up - down) x → Gives (b + up - down) y → Gives (get_or l (i * wide + 0) 0) a → Gives (get_or l (i * wide + 1) 0) b → RowFits m x y out
copying_puts {l = l} {i = i} w h x y a b gx gy ga gb =
    let o = one w h in
    record {
      room = copying_room w h;
      low = omega (arith, gx.answer, ga.answer, start_zeroth i l, o.0, o.1, o.2);
      high = omega (arith, gy.answer, gb.answer, o.0, o.1, o.2);
    }

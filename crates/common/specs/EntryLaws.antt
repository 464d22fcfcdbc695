-- The laws of lists of entries as runs of numbers, and the rules of the loops that test and write them. Assumes nothing.
use Rattle.std.specs.Prelude.{◌≡◌, refl, Bool, true, false, ◌&&◌, List, [], ◌∷◌, ◌++◌, map, ℕ, zero, suc, ◌+◌, ◌-◌, ◌*◌, ◌≤◌, ◌<◌, T, leb, ltb, length, get_or, take, drop, set}
use Rattle.std.proofs.Common.{sym, ap, ◌∙◌, append_assoc, append-nil, add-one, add_assoc, zero-mul, suc-mul, le-div_iff_mul-le, div-mul-le_self, mul-le-mul_right, arith, leb→le, leb-true, ltb-true, le-leb, lt-ltb, length-append, length-set, take-append-drop, take_at, drop_at, get_or-take, get_or-drop, drop-drop, drop-set-lt, take-suc-set, length-take-le}
use Rattle.std.proofs.Math.Nat.{sub-zero}
use Rattle.std.proofs.Math.Seq.{append_snoc}
use Rattle.search.specs.SearchLaws.{and_true}
use Rattle.common.specs.Entry.{flatten, rows, start_of, stop_of, room, shaped, Shaped, over, put_at}

-- ---- what a loop over entries knows

-- a loop that has tested the first k of n rows, the last of which ends at low
pub record Shaping (w : ℕ) (l : List ℕ) (n len from k low : ℕ) : Type 0 where
  pub wide : 2 ≤ w
  pub within : k ≤ n
  pub same : shaped from len (rows w n l) ≡ shaped low len (rows w (n - k) (drop (k * w) l))

-- a run `out` that was `out₀` and has the numbers of `all` before `rest` in its first k places
pub record Written (all rest out₀ out : List ℕ) (k : ℕ) : Type 0 where
  pub fits : length all ≤ length out₀
  pub long : length out ≡ length out₀
  pub front : all ≡ take k out ++ rest
  pub back : drop k out ≡ drop k out₀
  pub within : k ≤ length out

-- ---- entries as rows
module _ {A : Type 0} (flat : A → List ℕ) (w : ℕ) (wide : (a : A) → length (flat a) ≡ w) where
  pub length-flatten : (l : List A) → length (flatten flat l) ≡ length l * w
  length-flatten [] = sym (zero-mul w)
  length-flatten (a ∷ l) = length-append (flat a) (flatten flat l) ∙ omega (arith, wide a, length-flatten l, suc-mul (length l) w)

  pub rows-flatten : (l : List A) (rest : List ℕ) → rows w (length l) (flatten flat l ++ rest) ≡ map flat l
  rows-flatten [] rest = refl
  rows-flatten (a ∷ l) rest = rw (append_assoc (flat a) (flatten flat l) rest, take_at (flat a) (flatten flat l ++ rest) w (wide a), drop_at (flat a) (flatten flat l ++ rest) w (wide a), rows-flatten l rest)

pub flatten-map : {A B : Type 0} (flat : B → List ℕ) (f : A → B) (l : List A) → flatten flat (map f l) ≡ flatten (λ a. flat (f a)) l
flatten-map flat f [] = refl
flatten-map flat f (a ∷ l) = ap (λ (z : List ℕ). flat (f a) ++ z) (flatten-map flat f l)

pub flatten-append : {A : Type 0} (flat : A → List ℕ) (a b : List A) → flatten flat (a ++ b) ≡ flatten flat a ++ flatten flat b
flatten-append flat [] b = refl
flatten-append flat (x ∷ a) b = ap (λ (l : List ℕ). flat x ++ l) (flatten-append flat a b) ∙ sym (append_assoc (flat x) (flatten flat a) (flatten flat b))

pub length-rows : (w n : ℕ) (l : List ℕ) → length (rows w n l) ≡ n
length-rows w zero l = refl
length-rows w (suc n) l = ap suc (length-rows w n (drop w l))

-- the number j of row k
pub rows_at : (w n k j : ℕ) (l : List ℕ) → k < n → j < w → get_or (get_or (rows w n l) k []) j 0 ≡ get_or l (k * w + j) 0
rows_at w zero k j l h i = absurd (omega arith)
rows_at w (suc n) zero j l h i =
    let e : 0 * w + j ≡ j = omega arith in
    rw e (get_or-take w l j 0 i)
rows_at w (suc n) (suc k) j l h i =
    let e : suc k * w + j ≡ w + (k * w + j) = omega (arith, suc-mul k w) in
    rows_at w n k j (drop w l) (omega arith) i ∙ get_or-drop w l (k * w + j) 0 ∙ rw e

pub rows_next : (n w : ℕ) → (n + 1) * w ≡ n * w + w
rows_next n w = omega arith

-- ---- room
pub room_fits : (w n : ℕ) (out : List ℕ) → n ≤ room w out → n * w ≤ length out
room_fits w n out h = omega (arith, mul-le-mul_right w h, div-mul-le_self (length out) w)

pub fits_room : (w n : ℕ) (out : List ℕ) → 0 < w → n * w ≤ length out → n ≤ room w out
fits_room w n out p h = (le-div_iff_mul-le p).1 h

-- ---- places in order
pub shaped-holds : (from len : ℕ) (l : List (List ℕ)) → shaped from len l ≡ true → Shaped from len l
shaped-holds from len [] e = tt
shaped-holds from len (r ∷ l) e =
    let x = and_true (leb from (start_of r) && ltb (start_of r) (stop_of r) && leb (stop_of r) len) (shaped (stop_of r) len l) e in
    let y = and_true (leb from (start_of r) && ltb (start_of r) (stop_of r)) (leb (stop_of r) len) x.0 in
    let z = and_true (leb from (start_of r)) (ltb (start_of r) (stop_of r)) y.0 in
    (leb-true from (start_of r) z.0, ltb-true (start_of r) (stop_of r) z.1, leb-true (stop_of r) len y.1, shaped-holds (stop_of r) len l x.1)

pub holds-shaped : (from len : ℕ) (l : List (List ℕ)) → Shaped from len l → shaped from len l ≡ true
holds-shaped from len [] h = refl
holds-shaped from len (r ∷ l) h = rw (le-leb from (start_of r) h.0, lt-ltb (start_of r) (stop_of r) h.1, le-leb (stop_of r) len h.2, holds-shaped (stop_of r) len l h.3)

-- rows in order are no more than the places up to the last
pub shaped-few : (from len : ℕ) (l : List (List ℕ)) → from ≤ len → Shaped from len l → from + length l ≤ len
shaped-few from len [] h s = omega arith
shaped-few from len (r ∷ l) h s = omega (arith, shaped-few (stop_of r) len l s.2 s.3, s.0, s.1)

pub fails_shaped : (from len : ℕ) (l : List (List ℕ)) → (Shaped from len l → ⊥) → false ≡ shaped from len l
fails_shaped from len l n = by (shaped from len l) refl
  where
    by : (t : Bool) → shaped from len l ≡ t → false ≡ t
    by true e = absurd (n (shaped-holds from len l e))
    by false e = refl

-- ---- a loop over n rows of width w that tests their places
module _ {w n len from : ℕ} {l : List ℕ} where
  pub shaping_first : T (leb 2 w) → Shaping w l n len from 0 from
  shaping_first h = record { wide = leb→le 2 w h; within = omega arith; same = rw (zero-mul w, sub-zero n) }

  module _ {k low : ℕ} (i : Shaping w l n len from k low) where
    pub shaping_end : n ≤ k → true ≡ shaped from len (rows w n l)
    shaping_end h =
        let e : n - k ≡ 0 = omega arith in
        rw (i.same, e)

    module _ (h : k < n) where
      -- the row that stands at k
      row_at : rows w (n - k) (drop (k * w) l) ≡ take w (drop (k * w) l) ∷ rows w (n - (k + 1)) (drop ((k + 1) * w) l)
      row_at =
          let e : n - k ≡ suc (n - (k + 1)) = omega arith in
          let f : (k + 1) * w ≡ k * w + w = omega arith in
          rw (e, f) (ap (λ (r : List ℕ). take w (drop (k * w) l) ∷ rows w (n - (k + 1)) r) (drop-drop w (k * w) l))

      start_at : start_of (take w (drop (k * w) l)) ≡ get_or l (k * w) 0
      start_at =
          let e : k * w + 0 ≡ k * w = omega arith in
          get_or-take w (drop (k * w) l) 0 0 (omega arith) ∙ get_or-drop (k * w) l 0 0 ∙ rw e

      stop_at : stop_of (take w (drop (k * w) l)) ≡ get_or l (k * w + 1) 0
      stop_at = get_or-take w (drop (k * w) l) 1 0 (omega arith) ∙ get_or-drop (k * w) l 1 0

      pub shaping_again : low ≤ get_or l (k * w) 0 → get_or l (k * w) 0 < get_or l (k * w + 1) 0 → get_or l (k * w + 1) 0 ≤ len → Shaping w l n len from (k + 1) (get_or l (k * w + 1) 0)
      shaping_again x y z =
          record {
            wide = i.wide;
            within = omega arith;
            same =
                i.same ∙ ap (shaped low len) row_at
                ∙ rw (start_at, stop_at, le-leb low (get_or l (k * w) 0) x, lt-ltb (get_or l (k * w) 0) (get_or l (k * w + 1) 0) y, le-leb (get_or l (k * w + 1) 0) len z);
          }

      bad : ((low ≤ get_or l (k * w) 0) × (get_or l (k * w) 0 < get_or l (k * w + 1) 0) × (get_or l (k * w + 1) 0 ≤ len) → ⊥) → false ≡ shaped from len (rows w n l)
      bad f =
          rw (i.same, row_at)
          (fails_shaped low len (take w (drop (k * w) l) ∷ rows w (n - (k + 1)) (drop ((k + 1) * w) l)) (λ s. f (omega (arith, start_at), omega (arith, start_at, stop_at), omega (arith, stop_at))))

      pub shaping_early : get_or l (k * w) 0 < low → false ≡ shaped from len (rows w n l)
      shaping_early x = bad (λ s. omega arith)

      pub shaping_empty : get_or l (k * w + 1) 0 ≤ get_or l (k * w) 0 → false ≡ shaped from len (rows w n l)
      shaping_empty x = bad (λ s. omega arith)

      pub shaping_long : len < get_or l (k * w + 1) 0 → false ≡ shaped from len (rows w n l)
      shaping_long x = bad (λ s. omega arith)

-- ---- numbers written over the front of a run
pub written_none : {all out : List ℕ} → length all ≤ length out → Written all all out out 0
written_none h = record { fits = h; long = refl; front = refl; back = refl; within = omega arith }

module _ {all rest out₀ out : List ℕ} {k : ℕ} (i : Written all rest out₀ out k) where
  pub written_size : k + length rest ≡ length all
  written_size = omega (arith, ap length i.front ∙ length-append (take k out) rest, length-take-le k out i.within)

  -- there is room for what is to come
  pub written-room : k + length rest ≤ length out
  written-room = omega (arith, written_size, i)

pub written_one : {all rest out₀ out : List ℕ} {k x : ℕ} → Written all (x ∷ rest) out₀ out k → Written all rest out₀ (set out k x) (k + 1)
written_one {all} {rest} {out₀} {out} {k} {x} i =
    let h : k < length out = omega (arith, written-room i) in
    record {
      fits = i.fits;
      long = length-set out k x ∙ i.long;
      front = i.front ∙ rw (add-one, take-suc-set out k x h) (sym (append_snoc (take k out) x rest));
      back = rw add-one (drop-set-lt (suc k) out k x (omega arith)) ∙ sym (drop-drop 1 k out) ∙ ap (drop 1) i.back ∙ drop-drop 1 k out₀;
      within = rw length-set (omega arith);
    }

-- an entry of any width
pub written_put : {all rest out₀ out : List ℕ} {k : ℕ} (x : List ℕ) → Written all (x ++ rest) out₀ out k → Written all rest out₀ (put_at k x out) (k + length x)
written_put {k = k} [] i =
    let e : k + 0 ≡ k = omega arith in
    rw e i
written_put {all = all} {rest = rest} {out₀ = out₀} {out = out} {k = k} (a ∷ x) i =
    let e : k + suc (length x) ≡ k + 1 + length x = omega arith in
    rw e (written_put {all = all} {rest = rest} {out₀ = out₀} {out = set {A = ℕ} out k a} {k = k + 1} x (written_one i))

pub written_all : {all out₀ out : List ℕ} {k : ℕ} → Written all [] out₀ out k → out ≡ over all out₀
written_all {all} {out₀} {out} {k} i =
    let e : all ≡ take k out = i.front ∙ append-nil (take k out) in
    let n : length all ≡ k = ap length e ∙ length-take-le k out i.within in
    rw (n, ← i.back, e) (sym (take-append-drop k out))

-- what is put from place 0 on is what a success writes
pub put_over : (l out : List ℕ) → length l ≤ length out → put_at 0 l out ≡ over l out
put_over l out h =
    let w : Written l (l ++ []) out out 0 = record { fits = h; long = refl; front = sym (append-nil l); back = refl; within = omega arith } in
    written_all (written_put l w)

-- what stores at k, k + 1 and so on leave
pub put_four : (k a b c d : ℕ) (out : List ℕ) → set (set (set (set out k a) (k + 1) b) (k + 2) c) (k + 3) d ≡ put_at k (a ∷ b ∷ c ∷ d ∷ []) out
put_four k a b c d out = simp add_assoc

-- what is written keeps the length, and stands behind what was before it
module _ {A : Type 0} where
  pub length_put : (k : ℕ) (l out : List A) → length (put_at k l out) ≡ length out
  length_put k [] out = refl
  length_put k (x ∷ l) out = length_put (k + 1) l (set out k x) ∙ length-set out k x

  -- one list behind another
  pub put_append : (k : ℕ) (a b out : List A) → put_at k (a ++ b) out ≡ put_at (k + length a) b (put_at k a out)
  put_append k [] b out =
      let z : k + 0 ≡ k = omega arith in
      rw z
  put_append k (x ∷ a) b out =
      let z : k + suc (length a) ≡ k + 1 + length a = omega arith in
      rw z (put_append (k + 1) a b (set out k x))

  pub put_front : (k : ℕ) (l out : List A) → k + length l ≤ length out → take (k + length l) (put_at k l out) ≡ take k out ++ l
  put_front k [] out h =
      let z : k + 0 ≡ k = omega arith in
      rw z (sym (append-nil (take k out)))
  put_front k (x ∷ l) out h =
      let z : k + suc (length l) ≡ k + 1 + length l = omega arith in
      let i : k < length out = omega arith in
      rw z (put_front (k + 1) l (set out k x) (omega (arith, length-set out k x)) ∙ rw (add-one, take-suc-set out k x i) (append_snoc (take k out) x l))

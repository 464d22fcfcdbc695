-- Laws of writing records: an object and a list's objects one by one, how many bytes they have, and the rules of the functions that put them. Assumes nothing.
use Rattle.std.specs.Prelude.{◌≡◌, Bool, true, false, cond, List, [], ◌∷◌, ◌++◌, map, ℕ, zero, suc, ◌+◌, ◌*◌, ◌≤◌, ◌<◌, leb, length, get_or, take, drop}
use Rattle.std.proofs.Math.Path.{refl}
use Rattle.std.proofs.Common.{sym, ap, ◌∙◌, append_assoc, append-nil, add-one, suc-mul, get_or-take, get_or-drop, drop-drop, le-leb, eq-eqb, ne_eqb, Fits}
use Rattle.std.proofs.lemmas.List.{map-append}
use native.Mathlib.Omega.{arith}
use Rattle.std.specs.Int.{w64}
use Rattle.search.specs.Promise.{Gives}
use Rattle.decimal.specs.Decimal.{decimal}
use Rattle.common.specs.Entry.{flatten, rows, room, wide}
use Rattle.common.specs.EntryLaws.{flatten-append, length-rows, length_put, shaped-few}
use Rattle.common.specs.Refusals.{span_back}
use Rattle.common.specs.declared.span.Span.{Span}
use Rattle.cover.specs.Shape.{misshapen, region_at}
use Rattle.cover.specs.ShapeLaws.{region_there, shape_fits, shape_order}
use Rattle.put.specs.Put.{Put, LaidWithin}
use Rattle.put.specs.PutLaws.{then, put_laid, put_as}
use Rattle.json_file.specs.Layout.{start_lead, end_lead, object_of, objects_of, lead_of, layout}
use Rattle.json_file.specs.Grammar.{greatest}
use Rattle.json_file.specs.Records.{regions_of}
use Rattle.json_file.specs.LayoutLaws.{layout-few}
use Rattle.json_file.specs.RoundTrips.{spans_fit, regions_count}

-- ---- an object
module _ (x n : ℕ) {i r : ℕ} {out out₁ out' : List ℕ} (w : LaidWithin 10 (decimal x) (n + i) out₁ out' r) where
  pub start_put : Put start_lead n out out₁ i → LaidWithin 19 (start_lead ++ decimal x) n out out' r
  start_put p = then (put_laid {most = 9} p (omega (arith, p.size))) w 19 (omega (arith, p.size, w.short))

  pub end_put : Put end_lead n out out₁ i → LaidWithin 17 (end_lead ++ decimal x) n out out' r
  end_put p = then (put_laid {most = 7} p (omega (arith, p.size))) w 17 (omega (arith, p.size, w.short))

pub object_put : (region : Span) {n i j r : ℕ} {out out₁ out₂ out' : List ℕ} → LaidWithin 1 (125 ∷ []) j out₂ out' r → LaidWithin 17 (end_lead ++ decimal region.end) i out₁ out₂ j → LaidWithin 19 (start_lead ++ decimal region.start) n out out₁ i
    → LaidWithin 37 (object_of region) n out out' r
unfolding object_of
object_put region q w v = put_as (simp append_assoc) (then (then v w 36 (omega (arith, v.short, w.short))) q 37 (omega (arith, v.short, w.short, q.short)))

-- ---- a region: behind a comma where it isn't the first
module _ {k n r : ℕ} {b out out' : List ℕ} where
  pub region_first : k ≡ 0 → LaidWithin 37 b n out out' r → LaidWithin 38 (lead_of k b) n out out' r
  region_first e w = rw (eq-eqb k 0 e) (record { laid = w.laid; short = omega (arith, w.short) })

  pub region_later : {i : ℕ} {out₁ : List ℕ} → (k ≡ 0 → ⊥) → LaidWithin 37 b i out₁ out' r → LaidWithin 1 (44 ∷ []) n out out₁ i → LaidWithin 38 (lead_of k b) n out out' r
  region_later d w v = rw (ne_eqb k 0 d) (then v w 38 (omega (arith, v.short, w.short)))

-- ---- one region more
rows_more : (w k : ℕ) (l : List ℕ) → rows w (suc k) l ≡ rows w k l ++ (take w (drop (k * w) l) ∷ [])
rows_more w zero l =
    let z : 0 * w ≡ 0 = omega arith in
    rw z
rows_more w (suc k) l =
    let z : suc k * w ≡ w + k * w = omega (arith, suc-mul k w) in
    ap (λ (m : List (List ℕ)). take w l ∷ m) (rows_more w k (drop w l) ∙ rw (z, drop-drop))

regions-more : (k : ℕ) (l : List ℕ) → k < room wide l → regions_of (suc k) l ≡ regions_of k l ++ (region_at l k ∷ [])
regions-more k l h =
    ap (map span_back) (rows_more wide k l) ∙ map-append span_back (rows wide k l) (take wide (drop (k * wide) l) ∷ [])
    ∙ ap (λ (r : Span). regions_of k l ++ (r ∷ [])) (back ∙ (region_there l k h).answer)
  where
    back : span_back (take wide (drop (k * wide) l)) ≡ record { start = get_or l (k * wide) 0; end = get_or l (k * wide + 1) 0 }
    back =
        let z : k * wide + 0 ≡ k * wide = omega arith in
        rw (get_or-take wide (drop (k * wide) l) 0 0 (omega arith), get_or-take wide (drop (k * wide) l) 1 0 (omega arith), get_or-drop (k * wide) l 0 0, get_or-drop (k * wide) l 1 0, z)

objects_more : (a : List Span) (r : Span) → objects_of (a ++ (r ∷ [])) ≡ objects_of a ++ lead_of (length a) (object_of r)
unfolding objects_of
objects_more [] r = append-nil (object_of r)
objects_more (q ∷ a) r =
    ap (λ (x : List ℕ). object_of q ++ x) (flatten-append (λ (p : Span). 44 ∷ object_of p) a (r ∷ []) ∙ ap (λ (x : List ℕ). flatten (λ (p : Span). 44 ∷ object_of p) a ++ (44 ∷ x)) (append-nil (object_of r)))
    ∙ sym (append_assoc (object_of q) (flatten (λ (p : Span). 44 ∷ object_of p) a) (44 ∷ object_of r))
    ∙ ap (λ (y : Bool). objects_of (q ∷ a) ++ cond y (object_of r) (44 ∷ object_of r)) (sym (ne_eqb (suc (length a)) 0 (λ e. omega arith)))

object_more : (k : ℕ) (l : List ℕ) → k < room wide l → objects_of (regions_of (k + 1) l) ≡ objects_of (regions_of k l) ++ lead_of k (object_of (region_at l k))
object_more k l h =
    rw (add-one k) (ap objects_of (regions-more k l h) ∙ objects_more (regions_of k l) (region_at l k) ∙ ap (λ (j : ℕ). objects_of (regions_of k l) ++ lead_of j (object_of (region_at l k))) (regions_count k l))

-- a list that is not misshapen
module _ (l : List ℕ) (count : ℕ) (e : misshapen l count greatest ≡ false) where
  pub count_few : count ≤ greatest
  count_few = omega (arith, shaped-few 0 greatest (rows wide count l) (omega arith) (shape_order l count greatest e), length-rows wide count l)

  layout-short : length (layout (regions_of count l)) ≤ count * 38 + 2
  layout-short = omega (arith, layout-few (regions_of count l) (spans_fit l count e), regions_count count l)

  -- ---- the question whether `len` bytes have room for the layout
  pub longest_fits : Fits w64 (count * 38)
  longest_fits = record { fits = omega (arith, count_few) }

  pub most_fits : Fits w64 (count * 38 + 2)
  most_fits = record { fits = omega (arith, count_few) }

  pub layout_roomy : (len : ℕ) → count * 38 + 2 ≤ len → true ≡ leb (length (layout (regions_of count l))) len
  layout_roomy len h = sym (le-leb (length (layout (regions_of count l))) len (omega (arith, layout-short)))

pub layout-counted : (b out out' : List ℕ) (len r : ℕ) → Put b 0 out out' r → leb r len ≡ leb (length b) len
layout-counted b out out' len r p = rw p.size

-- ---- the loop that puts the regions, whatever form the list has
-- the first k of them are put from place 1 on, and n is the next place
pub record LayingOut (l : List ℕ) (count : ℕ) (out₀ out : List ℕ) (n k : ℕ) : Type 0 where
  pub within : k ≤ count
  pub fits : count ≤ room wide l
  pub few : count ≤ greatest
  pub laid : LaidWithin (k * 38) (objects_of (regions_of k l)) 1 out₀ out n

module _ {l out₀ : List ℕ} {count : ℕ} where
  pub objects_first : misshapen l count greatest ≡ false → LayingOut l count out₀ out₀ 1 0
  unfolding objects_of
  objects_first e =
      record {
        within = omega arith;
        fits = shape_fits l count greatest e;
        few = count_few l count e;
        laid = record { laid = record { next = refl; list = refl }; short = omega arith };
      }

  module _ {out : List ℕ} {n k : ℕ} (i : LayingOut l count out₀ out n k) where
    pub objects_again : {region : Span} {out' : List ℕ} {r : ℕ} → k < count → LaidWithin 38 (lead_of k (object_of region)) n out out' r → Gives (region_at l k) region → LayingOut l count out₀ out' r (k + 1)
    objects_again {region} {out'} {r} h w g =
        let o : LaidWithin 38 (lead_of k (object_of (region_at l k))) n out out' r = rw g.answer at w in
        record {
          within = omega arith;
          fits = i.fits;
          few = i.few;
          laid = put_as (sym (object_more k l (omega (arith, i.fits)))) (then i.laid o ((k + 1) * 38) (omega (arith, i.laid.short, w.short)));
        }

    pub objects_same : length out ≡ length out₀
    objects_same = ap length i.laid.laid.list ∙ length_put 1 (objects_of (regions_of k l)) out₀

    pub objects_end : count ≤ k → LaidWithin 200000000000 (objects_of (regions_of count l)) 1 out₀ out n
    objects_end h =
        let z : k ≡ count = omega (arith, i.within) in
        rw (← z) (record { laid = i.laid.laid; short = omega (arith, i.laid.short, i.few, i.within) })

-- ---- the brackets around them
pub list_put : (a : List Span) {n i r most : ℕ} {out out₁ out₂ out' : List ℕ} → LaidWithin 1 (93 ∷ []) n out₂ out' r → LaidWithin most (objects_of a) 1 out₁ out₂ n → LaidWithin 1 (91 ∷ []) 0 out out₁ i → Put (layout a) 0 out out' r
unfolding layout
list_put a {n} {i} {r} {most} {out} {out₁} {out₂} {out'} q w v =
    let e : i ≡ 1 = v.laid.next in
    let x : LaidWithin (n + 1) (objects_of a ++ (93 ∷ [])) 1 out₁ out' r = then w q (n + 1) (omega (arith, q.short)) in
    let y : LaidWithin (n + 2) (91 ∷ (objects_of a ++ (93 ∷ []))) 0 out out' r = then (rw e at v) x (n + 2) (omega (arith, q.short)) in
    record { size = y.laid.next ∙ omega arith; list = y.laid.list }

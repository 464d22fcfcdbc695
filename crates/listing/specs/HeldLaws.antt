-- Laws of rows of numbers that are put as lines. Assumes nothing.
use Rattle.std.specs.Prelude.{◌≡◌, refl, ℕ, suc, ◌+◌, ◌-◌, ◌*◌, ◌≤◌, ◌<◌, length, get_or, take, drop}
use Rattle.std.proofs.Common.{sym, ◌∙◌, zero-mul, add-one, arith, length-append, drop-cons, drop-drop, eq-eqb, ne_eqb}
use Rattle.std.proofs.Math.Path.{ap}
use mathlib.Core.List.{List, [], ◌∷◌, ◌++◌, append_assoc, append-nil}
use Rattle.std.proofs.Math.Nat.{sub-zero}
use Rattle.common.specs.Entry.{rows, put_at, wide}
use Rattle.common.specs.EntryLaws.{length_put, put_append}
use Rattle.sheet.specs.Sheet.{five}
use Rattle.listing.specs.Lines.{line, lines}
use Rattle.put.specs.Put.{Laid, LaidWithin}
use Rattle.listing.specs.Room.{Room}
use Rattle.listing.specs.GoingLaws.{lines-map}
use Rattle.listing.specs.Listing.{house_regions, region_lines, row_fields, house_sheet, sheet_lines}
use Rattle.listing.specs.Held.{RegionsIn, held_lines, ItemsIn, filed_lines}
use Rattle.region.specs.Region.{row_of}

-- ---- the loop over rows
-- what a loop knows that has put the lines of the first i of n rows
pub record Rowing (letter w : ℕ) (row : List ℕ → List ℕ) (l : List ℕ) (n n₀ : ℕ) (out₀ : List ℕ) (i : ℕ) (out : List ℕ) (k : ℕ) : Type 0 where
  pub within : i ≤ n
  pub done : List ℕ
  pub whole : lines letter row (rows w n l) ≡ done ++ lines letter row (rows w (n - i) (drop (i * w) l))
  pub here : k ≡ n₀ + length done
  pub list : out ≡ put_at n₀ done out₀
  pub room : Room n₀ (lines letter row (rows w n l))

module _ (letter w : ℕ) (row : List ℕ → List ℕ) (l : List ℕ) (n : ℕ) where
  pub rowing_first : {n₀ : ℕ} {out : List ℕ} → Room n₀ (lines letter row (rows w n l)) → Rowing letter w row l n n₀ out 0 out n₀
  rowing_first h = record { within = omega arith; done = []; whole = rw (zero-mul w, sub-zero n); here = omega arith; list = refl; room = h }

  module _ {n₀ i k : ℕ} {out₀ out : List ℕ} (g : Rowing letter w row l n n₀ out₀ i out k) where
    pub rowing_here : k ≤ 1000000
    rowing_here = omega (arith, g.here, g.room.fits, ap length g.whole, length-append g.done (lines letter row (rows w (n - i) (drop (i * w) l))))

    pub rowing_same : length out ≡ length out₀
    rowing_same = ap length g.list ∙ length_put n₀ g.done out₀

    pub rowing_end : n ≤ i → Laid (lines letter row (rows w n l)) n₀ out₀ out k
    rowing_end h =
        let z : n - i ≡ 0 = omega arith in
        let e : lines letter row (rows w n l) ≡ g.done = g.whole ∙ rw z (append-nil g.done) in
        record { next = g.here ∙ ap (λ (x : List ℕ). n₀ + length x) (sym e); list = g.list ∙ ap (λ (x : List ℕ). put_at n₀ x out₀) (sym e) }

    rowing_row : i < n → rows w (n - i) (drop (i * w) l) ≡ take w (drop (i * w) l) ∷ rows w (n - (i + 1)) (drop ((i + 1) * w) l)
    rowing_row h =
        let e : n - i ≡ suc (n - (i + 1)) = omega arith in
        let f : (i + 1) * w ≡ i * w + w = omega arith in
        rw (e, f) (ap (λ (r : List ℕ). take w (drop (i * w) l) ∷ rows w (n - (i + 1)) r) (drop-drop w (i * w) l))

    pub rowing_again : {m k' : ℕ} {out' : List ℕ} → i < n → LaidWithin m (line letter (row (take w (drop (i * w) l)))) k out out' k' → Rowing letter w row l n n₀ out₀ (i + 1) out' k'
    rowing_again h p =
        let b = line letter (row (take w (drop (i * w) l))) in
        let rest = lines letter row (rows w (n - (i + 1)) (drop ((i + 1) * w) l)) in
        record {
          within = omega arith;
          done = g.done ++ b;
          whole = g.whole ∙ ap (λ (r : List (List ℕ)). g.done ++ lines letter row r) (rowing_row h) ∙ sym (append_assoc g.done b rest);
          here = omega (arith, p.laid.next, g.here, length-append g.done b);
          list = p.laid.list ∙ rw (g.list, g.here) (sym (put_append n₀ g.done b out₀));
          room = g.room;
        }

-- ---- the numbers of a row
one_more : (m k : ℕ) (l : List ℕ) → k < length l → take (suc m) (drop k l) ≡ get_or l k 0 ∷ take m (drop (k + 1) l)
one_more m k l h = rw (drop-cons l k 0 h) (ap (λ (j : ℕ). get_or l k 0 ∷ take m (drop j l)) (sym (add-one k)))

two_row : (k : ℕ) (l : List ℕ) → k + 2 ≤ length l → take 2 (drop k l) ≡ get_or l k 0 ∷ get_or l (k + 1) 0 ∷ []
two_row k l h = one_more 1 k l (omega arith) ∙ ap (λ (x : List ℕ). get_or l k 0 ∷ x) (one_more 0 (k + 1) l (omega arith))

five-row : (k : ℕ) (l : List ℕ) → k + 5 ≤ length l → take 5 (drop k l) ≡ get_or l k 0 ∷ get_or l (k + 1) 0 ∷ get_or l (k + 2) 0 ∷ get_or l (k + 3) 0 ∷ get_or l (k + 4) 0 ∷ []
five-row k l h =
    let a : k + 1 + 1 ≡ k + 2 = omega arith in
    let b : k + 2 + 1 ≡ k + 3 = omega arith in
    let c : k + 3 + 1 ≡ k + 4 = omega arith in
    let e : take 2 (drop (k + 3) l) ≡ get_or l (k + 3) 0 ∷ get_or l (k + 4) 0 ∷ [] = two_row (k + 3) l (omega arith) ∙ rw c in
    let f : take 3 (drop (k + 2) l) ≡ get_or l (k + 2) 0 ∷ take 2 (drop (k + 3) l) = one_more 2 (k + 2) l (omega arith) ∙ rw b in
    let g : take 4 (drop (k + 1) l) ≡ get_or l (k + 1) 0 ∷ take 3 (drop (k + 2) l) = one_more 3 (k + 1) l (omega arith) ∙ rw a in
    one_more 4 k l (omega arith) ∙ rw (g, f, e)

-- ---- regions
module _ (l : List ℕ) (n : ℕ) where
  pub regions-first : {n₀ : ℕ} {out : List ℕ} → Room n₀ (held_lines l n) → Rowing 82 wide (λ r. r) l n n₀ out 0 out n₀
  unfolding held_lines
  regions-first h = rowing_first 82 wide (λ r. r) l n h

  module _ {n₀ i k : ℕ} {out₀ out : List ℕ} (g : Rowing 82 wide (λ r. r) l n n₀ out₀ i out k) where
    pub regions_again : {k' : ℕ} {out' : List ℕ} → i < n → LaidWithin 24 (line 82 (get_or l (i * wide) 0 ∷ get_or l (i * wide + 1) 0 ∷ [])) k out out' k' → n ≤ 4097 → length l ≡ wide * 4097 → Rowing 82 wide (λ r. r) l n n₀ out₀ (i + 1) out' k'
    regions_again {k'} {out'} h p b e =
        let q : LaidWithin 24 (line 82 (take wide (drop (i * wide) l))) k out out' k' = rw (two_row (i * wide) l (omega arith)) p in
        rowing_again 82 wide (λ r. r) l n g h q

    pub regions_end : n ≤ i → Laid (held_lines l n) n₀ out₀ out k
    unfolding held_lines
    regions_end h = rowing_end 82 wide (λ r. r) l n g h

module _ {s list : List ℕ} {n : ℕ} (w : RegionsIn s list n) where
  held_lines_lem : held_lines list n ≡ region_lines s
  unfolding held_lines region_lines
  held_lines_lem = ap (lines 82 (λ (r : List ℕ). r)) w.same ∙ lines-map 82 (λ (r : List ℕ). r) row_of (house_regions s)

  pub held_room : {k : ℕ} → Room k (region_lines s) → Room k (held_lines list n)
  held_room h = rw held_lines_lem h

  pub held_laid : {k r : ℕ} {out out' : List ℕ} → Laid (held_lines list n) k out out' r → Laid (region_lines s) k out out' r
  held_laid v = rw (← held_lines_lem) v

-- ---- items
module _ (l : List ℕ) (n : ℕ) where
  pub items-first : {n₀ : ℕ} {out : List ℕ} → Room n₀ (filed_lines l n) → Rowing 87 5 row_fields l n n₀ out 0 out n₀
  unfolding filed_lines
  items-first h = rowing_first 87 5 row_fields l n h

  module _ {n₀ i k : ℕ} {out₀ out : List ℕ} (g : Rowing 87 5 row_fields l n n₀ out₀ i out k) where
    pub items_again : {k' : ℕ} {out' : List ℕ} → i < n → LaidWithin 46 (line 87 (row_fields (get_or l (i * 5) 0 ∷ get_or l (i * 5 + 1) 0 ∷ get_or l (i * 5 + 2) 0 ∷ get_or l (i * 5 + 3) 0 ∷ get_or l (i * 5 + 4) 0 ∷ []))) k out out' k' → n ≤ 8193 → length l ≡ 40965
        → Rowing 87 5 row_fields l n n₀ out₀ (i + 1) out' k'
    items_again {k'} {out'} h p b e =
        let q : LaidWithin 46 (line 87 (row_fields (take 5 (drop (i * 5) l)))) k out out' k' = rw (five-row (i * 5) l (omega arith)) p in
        rowing_again 87 5 row_fields l n g h q

    pub items_end : n ≤ i → Laid (filed_lines l n) n₀ out₀ out k
    unfolding filed_lines
    items_end h = rowing_end 87 5 row_fields l n g h

module _ {s list : List ℕ} {n : ℕ} (w : ItemsIn s list n) where
  filed_lines_lem : filed_lines list n ≡ sheet_lines s
  unfolding filed_lines sheet_lines
  filed_lines_lem = ap (lines 87 row_fields) w.same ∙ lines-map 87 row_fields five (house_sheet s)

  pub filed_room : {k : ℕ} → Room k (sheet_lines s) → Room k (filed_lines list n)
  filed_room h = rw filed_lines_lem h

  pub filed_laid : {k r : ℕ} {out out' : List ℕ} → Laid (filed_lines list n) k out out' r → Laid (sheet_lines s) k out out' r
  filed_laid v = rw (← filed_lines_lem) v

-- ---- an item's line
module _ (start end kind byte number : ℕ) {n r : ℕ} {out out' : List ℕ} where
  pub item-marker : kind ≡ 0 → LaidWithin 35 (line 87 (start ∷ end ∷ byte ∷ [])) n out out' r → LaidWithin 46 (line 87 (row_fields (start ∷ end ∷ kind ∷ byte ∷ number ∷ []))) n out out' r
  item-marker e p = rw (eq-eqb kind 0 e) (record { laid = p.laid; short = omega (arith, p.short) })

  pub item-numbered : (kind ≡ 0 → ⊥) → LaidWithin 46 (line 87 (start ∷ end ∷ byte ∷ number ∷ [])) n out out' r → LaidWithin 46 (line 87 (row_fields (start ∷ end ∷ kind ∷ byte ∷ number ∷ []))) n out out' r
  item-numbered e p = rw (ne_eqb kind 0 e) p

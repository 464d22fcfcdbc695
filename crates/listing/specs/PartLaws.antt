-- A text's lines in two parts, put one behind the other: the room for them, and what is put. Assumes nothing.
use Rattle.std.specs.Prelude.{◌≡◌, refl, List, ℕ, ◌+◌, length}
use Rattle.std.proofs.Common.{sym, ap, ◌∙◌, append_assoc, arith, length-append}
use Rattle.common.specs.EntryLaws.{put_append}
use Rattle.listing.specs.Listing.{region_lines, entries}
use Rattle.put.specs.Put.{Laid}
use Rattle.listing.specs.Room.{Room}
use Rattle.listing.specs.Parts.{Parts, both_lines, later_lines}

pub both_parts : (first second : List ℕ → List ℕ) → Parts (both_lines first second) first second
unfolding both_lines
both_parts first second = record { same = λ s. refl }

pub entry-parts : Parts entries region_lines later_lines
unfolding entries both_lines
entry-parts = record { same = λ s. simp append_assoc }

module _ {whole first second : List ℕ → List ℕ} (p : Parts whole first second) (s : List ℕ) where
  parts_size : length (whole s) ≡ length (first s) + length (second s)
  parts_size = ap length (p.same s) ∙ length-append (first s) (second s)

  -- the room for both is room for the first, and then for the second
  pub part-first : {n : ℕ} → Room n (whole s) → Room n (first s)
  part-first h = record { fits = omega (arith, h.fits, parts_size) }

  module _ {n r : ℕ} {out out' : List ℕ} where
    pub part_second : Laid (first s) n out out' r → Room n (whole s) → Room r (second s)
    part_second w h = record { fits = omega (arith, h.fits, w.next, parts_size) }

    pub part_both : {r₁ : ℕ} {out₁ : List ℕ} → Laid (second s) r₁ out₁ out' r → Laid (first s) n out out₁ r₁ → Laid (whole s) n out out' r
    part_both v w = record {
      next = omega (arith, v.next, w.next, parts_size);
      list = v.list ∙ rw (w.list, w.next, p.same s) (sym (put_append n (first s) (second s) out));
    }

  -- and so the other way round: the order of the parts is the contract's matter and not that of the room
  pub part_last : {n : ℕ} → Room n (whole s) → Room n (second s)
  part_last h = record { fits = omega (arith, h.fits, parts_size) }

  pub part_before : {n r : ℕ} {out out' : List ℕ} → Laid (second s) n out out' r → Room n (whole s) → Room r (first s)
  part_before w h = record { fits = omega (arith, h.fits, w.next, parts_size) }

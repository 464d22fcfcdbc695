-- Rules of the functions that put fields and lines. Assumes nothing.
use Rattle.std.specs.Prelude.{List, [], ◌∷◌, ℕ}
use Rattle.std.proofs.Common.{append_assoc, append-nil, arith}
use Rattle.decimal.specs.Decimal.{decimal}
use Rattle.put.specs.Put.{LaidWithin}
use Rattle.put.specs.PutLaws.{then, put_as}
use Rattle.listing.specs.Lines.{field, fields, line}

module _ {n r r₁ : ℕ} {out out₁ out' : List ℕ} where
  pub field_put : (x : ℕ) → LaidWithin 10 (decimal x) r₁ out₁ out' r → LaidWithin 1 (9 ∷ []) n out out₁ r₁ → LaidWithin 11 (field x) n out out' r
  unfolding field
  field_put x w v = then v w 11 (omega (arith, w.short, v.short))

  pub two_put : (letter a b : ℕ) → LaidWithin 1 (10 ∷ []) r₁ out₁ out' r → LaidWithin 23 (letter ∷ fields (a ∷ b ∷ [])) n out out₁ r₁ → LaidWithin 24 (line letter (a ∷ b ∷ [])) n out out' r
  two_put letter a b w v = then v w 24 (omega (arith, w.short, v.short))

module _ (letter a : ℕ) {n r r₁ r₂ : ℕ} {out out₁ out₂ out' : List ℕ} where
  pub one_put : LaidWithin 1 (10 ∷ []) r₂ out₂ out' r → LaidWithin 11 (field a) r₁ out₁ out₂ r₂ → LaidWithin 1 (letter ∷ []) n out out₁ r₁ → LaidWithin 13 (line letter (a ∷ [])) n out out' r
  one_put x w v = put_as (simp append_assoc) (then (then v w 12 (omega (arith, w.short, v.short))) x 13 (omega (arith, x.short, w.short, v.short)))

  module _ (b : ℕ) where
    pub head_put : LaidWithin 11 (field b) r₂ out₂ out' r → LaidWithin 11 (field a) r₁ out₁ out₂ r₂ → LaidWithin 1 (letter ∷ []) n out out₁ r₁ → LaidWithin 23 (letter ∷ fields (a ∷ b ∷ [])) n out out' r
    head_put x w v = put_as (rw (append-nil (field b))) (then (then v w 12 (omega (arith, w.short, v.short))) x 23 (omega (arith, x.short, w.short, v.short)))

    pub four_put : (c d : ℕ) → LaidWithin 1 (10 ∷ []) r₂ out₂ out' r → LaidWithin 11 (field d) r₁ out₁ out₂ r₂ → LaidWithin 34 (letter ∷ fields (a ∷ b ∷ c ∷ [])) n out out₁ r₁ → LaidWithin 46 (line letter (a ∷ b ∷ c ∷ d ∷ [])) n out out' r
    four_put c d x w v = put_as (simp append_assoc) (then (then v w 45 (omega (arith, w.short, v.short))) x 46 (omega (arith, x.short, w.short, v.short)))

module _ (letter a b c : ℕ) {n r r₁ : ℕ} {out out₁ out' : List ℕ} where
  pub head_three_put : LaidWithin 11 (field c) r₁ out₁ out' r → LaidWithin 23 (letter ∷ fields (a ∷ b ∷ [])) n out out₁ r₁ → LaidWithin 34 (letter ∷ fields (a ∷ b ∷ c ∷ [])) n out out' r
  head_three_put w v = put_as (simp (append_assoc, append-nil)) (then v w 34 (omega (arith, w.short, v.short)))

  pub three_put : LaidWithin 1 (10 ∷ []) r₁ out₁ out' r → LaidWithin 34 (letter ∷ fields (a ∷ b ∷ c ∷ [])) n out out₁ r₁ → LaidWithin 35 (line letter (a ∷ b ∷ c ∷ [])) n out out' r
  three_put w v = then v w 35 (omega (arith, w.short, v.short))

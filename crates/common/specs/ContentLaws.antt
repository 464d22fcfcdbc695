-- Laws of stretches. Assumes nothing.
use Rattle.std.specs.Prelude.{◌≡◌, true, false, List, ◌⊎◌, ℕ, ◌-◌, ◌≤◌, leb, length, take, drop}
use Rattle.std.proofs.Common.{sym, ap, subst, ◌∙◌, inl, inr, arith, leb-true}
use Rattle.std.proofs.Math.Bool.{and-false}
use Rattle.std.specs.Borrow.{Bor}
use Rattle.search.specs.Promise.{Gives}
use Rattle.search.specs.SearchLaws.{decide}
use Rattle.common.specs.Content.{stretch, cut, onward, Stretch}
use Rattle.common.specs.declared.span.Bounds.{Bounds}

module _ (len a e : ℕ) where
  within : ((stretch len a e).start ≤ (stretch len a e).end) × ((stretch len a e).end ≤ len)
  within = by (decide (leb a e)) (decide (leb e len))
    where
      by : (leb a e ≡ true) ⊎ (leb a e ≡ false) → (leb e len ≡ true) ⊎ (leb e len ≡ false) → ((stretch len a e).start ≤ (stretch len a e).end) × ((stretch len a e).end ≤ len)
      by (inl u) (inl v) = simp (u, v) (leb-true a e u, leb-true e len v)
      by (inl u) (inr v) = simp (v, and-false) (omega arith)
      by (inr u) v = simp u (omega arith)

  pub stretch_order : (b : Bounds) → Gives (stretch len a e) b → b.start ≤ b.end
  stretch_order b g = subst (λ (x : Bounds). x.start ≤ x.end) (sym g.answer) within.0

  pub stretch-inside : (b : Bounds) → Gives (stretch len a e) b → b.end ≤ len
  stretch-inside b g = subst (λ (x : Bounds). x.end ≤ len) (sym g.answer) within.1

-- a part of a text between the bounds of a stretch
pub stretch-part : (text : Bor (List ℕ)) (a e : ℕ) (b : Bounds) → Gives (stretch (length text.now) a e) b
    → Stretch text a e (record { ref_ptr = onward text b.start; now = take (b.end - b.start) (drop b.start text.now) })
stretch-part text a e b g = record { place = ap (λ (b : Bounds). onward text b.start) g.answer; bytes = ap (cut text.now) g.answer }

-- two answers for one text and span begin at one place and have the same bytes
pub stretch_unique : {text : Bor (List ℕ)} {a e : ℕ} {r r' : Bor (List ℕ)} → Stretch text a e r → Stretch text a e r' → (r.ref_ptr ≡ r'.ref_ptr) × (r.now ≡ r'.now)
stretch_unique w w' = (w.place ∙ sym w'.place, w.bytes ∙ sym w'.bytes)

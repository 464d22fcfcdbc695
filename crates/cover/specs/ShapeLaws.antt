-- Laws of a list's shape: the ways out of the functions that test it, and what the test tells. Assumes nothing.
use Rattle.std.specs.Prelude.{◌≡◌, Bool, true, false, not, List, ℕ, ◌+◌, ◌*◌, ◌/◌, ◌≤◌, ◌<◌, ◌⊎◌, ltb, length, get_or}
use Rattle.std.proofs.Math.Path.{refl, sym}
use Rattle.std.proofs.Common.{◌∙◌, inl, inr, arith}
use borrow.Author.Tests.{lt-ltb, le-ltb, ltb-false, not-false}
use Rattle.search.specs.SearchLaws.{neither}
use Rattle.search.specs.Promise.{Gives}
use Rattle.common.specs.Entry.{rows, room, shaped, Shaped, wide, overfull}
use Rattle.common.specs.EntryLaws.{Shaping, shaped-holds, shaping_again, shaping_early, shaping_empty, shaping_long}
use Rattle.cover.specs.Shape.{misshapen, region_at}

-- ---- the loop that tests: a and b are the numbers that were read of row k
module _ {n len from k low : ℕ} {l : List ℕ} (i : Shaping wide l n len from k low) (h : k < n) (a b : ℕ) (ga : Gives (get_or l (k * wide) 0) a) (gb : Gives (get_or l (k * wide + 1) 0) b) where
  pub tested_again : low ≤ a → a < b → b ≤ len → Shaping wide l n len from (k + 1) b
  tested_again x y z = rw gb.answer (shaping_again i h (omega (arith, ga.answer)) (omega (arith, ga.answer, gb.answer)) (omega (arith, gb.answer)))

  pub tested_early : a < low → false ≡ shaped from len (rows wide n l)
  tested_early x = shaping_early i h (omega (arith, ga.answer))

  pub tested_empty : b ≤ a → false ≡ shaped from len (rows wide n l)
  tested_empty x = shaping_empty i h (omega (arith, ga.answer, gb.answer))

  pub tested_long : len < b → false ≡ shaped from len (rows wide n l)
  tested_long x = shaping_long i h (omega (arith, gb.answer))

  -- by the first test that fails
  pub tested_bad : (a < low) ⊎ (((low ≤ a) × (b ≤ a)) ⊎ ((low ≤ a) × (a < b) × (len < b))) → false ≡ shaped from len (rows wide n l)
  tested_bad (inl x) = tested_early x
  tested_bad (inr (inl x)) = tested_empty x.1
  tested_bad (inr (inr x)) = tested_long x.2

-- ---- the ways out of the test
pub misshapen-over : (l : List ℕ) (n len : ℕ) → length l / wide < n → true ≡ misshapen l n len
unfolding misshapen
misshapen-over l n len h = rw (lt-ltb (length l / wide) n h)

module _ (l : List ℕ) (n len : ℕ) (h : n ≤ length l / wide) (y : Bool) where
  pub misshapen_no : y ≡ true → Gives (shaped 0 len (rows wide n l)) y → false ≡ misshapen l n len
  unfolding misshapen
  misshapen_no e g = rw (le-ltb (length l / wide) n h, ← g.answer, e)

  pub misshapen_yes : y ≡ false → Gives (shaped 0 len (rows wide n l)) y → true ≡ misshapen l n len
  unfolding misshapen
  misshapen_yes e g = rw (le-ltb (length l / wide) n h, ← g.answer, e)

-- the same by how many numbers the list has
module _ (l : List ℕ) (n len all : ℕ) (g : Gives (length l) all) where
  pub misshapen-full : all / wide < n → ltb (all / wide) n ≡ misshapen l n len
  misshapen-full h = lt-ltb (all / wide) n h ∙ misshapen-over l n len (omega (arith, g.answer))

  pub misshapen-order : (y : Bool) → n ≤ all / wide → Gives (shaped 0 len (rows wide n l)) y → not y ≡ misshapen l n len
  misshapen-order true h e = misshapen_no l n len (omega (arith, g.answer)) true refl e
  misshapen-order false h e = misshapen_yes l n len (omega (arith, g.answer)) false refl e

-- ---- a region of a list
module _ (l : List ℕ) (k : ℕ) where
  pub region_there : k < length l / wide → Gives (region_at l k) (record { start = get_or l (k * wide) 0; end = get_or l (k * wide + 1) 0 })
  unfolding region_at
  region_there h = record { answer = sym (rw (lt-ltb k (length l / wide) h)) }

  pub region_none : length l / wide ≤ k → Gives (region_at l k) (record { start = 0; end = 0 })
  unfolding region_at
  region_none h = record { answer = sym (rw (le-ltb k (length l / wide) h)) }

-- the same by how many numbers the list has, and by those that were read
module _ (l : List ℕ) (k all : ℕ) (g : Gives (length l) all) where
  pub region_read : (a b : ℕ) → k < all / wide → Gives (get_or l (k * wide) 0) a → Gives (get_or l (k * wide + 1) 0) b → Gives (region_at l k) (record { start = a; end = b })
  region_read a b h ga gb = rw (ga.answer, gb.answer) (region_there l k (rw (← g.answer) h))

  pub region_lacks : all / wide ≤ k → Gives (region_at l k) (record { start = 0; end = 0 })
  region_lacks h = region_none l k (rw (← g.answer) h)

-- ---- a list that is not misshapen
module _ (l : List ℕ) (n len : ℕ) (e : misshapen l n len ≡ false) where
  pub shape_fits : n ≤ room wide l
  unfolding misshapen
  shape_fits = ltb-false (room wide l) n (neither (overfull wide l n) (not (shaped 0 len (rows wide n l))) e).0

  pub shape_order : Shaped 0 len (rows wide n l)
  unfolding misshapen
  shape_order = shaped-holds 0 len (rows wide n l) (not-false (shaped 0 len (rows wide n l)) (neither (overfull wide l n) (not (shaped 0 len (rows wide n l))) e).1)

-- Laws of what is put at a place of a run: the bytes that fit, a number's digits, and one piece behind another. Assumes nothing.
use Rattle.std.specs.Prelude.{◌≡◌, refl, List, [], ◌∷◌, ◌++◌, ℕ, suc, ◌+◌, ◌-◌, ◌≤◌, ◌<◌, min, length, take, drop, set}
use Rattle.std.proofs.Common.{sym, ap, ◌∙◌, arith, append_assoc, length-append, length-take, length-drop, take-append-drop, drop-set-lt, Fits}
use borrow.Rule.Slice.PartMut.{put_mid}
use Rattle.std.proofs.lemmas.List.{drop-drop}
use Rattle.std.proofs.Math.Seq.{set_out}
use Rattle.std.specs.Int.{w32, w64}
use Rattle.search.specs.Promise.{Gives}
use Rattle.decimal.specs.Decimal.{decimal, digits_of}
use Rattle.decimal.specs.DecimalLaws.{decimal-few, digits-front, digits_long}
use Rattle.decimal.specs.declared.Digits.{Digits}
use Rattle.common.specs.Entry.{put_at}
use Rattle.common.specs.EntryLaws.{length_put, put_append, put_front}
use Rattle.put.specs.Put.{Put, LaidWithin}

-- ---- bytes
-- past the run's end nothing is written
put_past : (n : ℕ) (b out : List ℕ) → length out ≤ n → put_at n b out ≡ out
put_past n [] out h = refl
put_past n (x ∷ b) out h = ap (put_at (n + 1) b) (set_out out n x h) ∙ put_past (n + 1) b out (omega arith)

-- so bytes that reach the run's end are as good as more of them
put_enough : (n m : ℕ) (b out : List ℕ) → m ≡ min (length b) (length out - n) → n ≤ length out → put_at n (take m b) out ≡ put_at n b out
put_enough n m b out e h =
    let x = length_put n (take m b) out in
    let y = length-take m b in
    sym (ap (λ (z : List ℕ). put_at n z out) (sym (take-append-drop m b)) ∙ put_append n (take m b) (drop m b) out ∙ rest (drop m b) refl x y)
  where
    rest : (r : List ℕ) → drop m b ≡ r → length (put_at n (take m b) out) ≡ length out → length (take m b) ≡ min m (length b)
        → put_at (n + length (take m b)) r (put_at n (take m b) out) ≡ put_at n (take m b) out
    rest [] u x y = refl
    rest (a ∷ r) u x y = put_past (n + length (take m b)) (a ∷ r) (put_at n (take m b) out) (omega (arith, x, y, e, ap length u, length-drop m b))

-- behind what is put the run is as it was
put_behind : (n : ℕ) (b out : List ℕ) → drop (n + length b) (put_at n b out) ≡ drop (n + length b) out
put_behind n [] out = refl
put_behind n (x ∷ b) out =
    let z : n + suc (length b) ≡ n + 1 + length b = omega arith in
    rw z (put_behind (n + 1) b (set out n x) ∙ drop-set-lt (n + 1 + length b) out n x (omega arith))

-- what fits is put where a part of the run is copied over
module _ (b out part : List ℕ) (n m : ℕ) (inside : n < length out) (most : m ≡ min (length b) (length out - n)) (copied : part ≡ take m b) where
  pub put_copied : Put b n out (put_mid n (n + m - n) out part) (length b)
  put_copied = record { size = refl; list = sym (sym (put_enough n m b out most (omega arith)) ∙ sym (take-append-drop (n + m) (put_at n (take m b) out)) ∙ rw (front, back, z, copied, drop-drop m n out) (append_assoc (take n out) (take m b) (drop (n + m) out))) }
    where
      z : n + m - n ≡ m
      z = omega arith

      short : length (take m b) ≡ m
      short = omega (arith, length-take m b, most)

      front : take (n + m) (put_at n (take m b) out) ≡ take n out ++ take m b
      front = ap (λ (k : ℕ). take (n + k) (put_at n (take m b) out)) (sym short) ∙ put_front n (take m b) out (omega (arith, short, most))

      back : drop (n + m) (put_at n (take m b) out) ≡ drop (n + m) out
      back = rw short at (put_behind n (take m b) out)

pub put_beyond : (n : ℕ) (b out : List ℕ) → length out ≤ n → Put b n out out (length b)
put_beyond n b out h = record { size = refl; list = sym (put_past n b out h) }

-- two results for the same arguments are one
pub put_unique : {b : List ℕ} {n : ℕ} {out out' out'' : List ℕ} {r r' : ℕ} → Put b n out out' r → Put b n out out'' r' → (r ≡ r') × (out' ≡ out'')
put_unique p q = (p.size ∙ sym q.size, p.list ∙ sym q.list)

-- ---- a number
-- it has no more digits than there are places for
pub digits-within : (d : Digits) (x : ℕ) → Gives (digits_of x) d → d.count ≤ length d.bytes
digits-within d x g = rw g.answer (digits_long x)

pub put_digits : (d : Digits) (x n : ℕ) (out out' : List ℕ) (r : ℕ) → Gives (digits_of x) d → Put (take d.count d.bytes) n out out' r → Put (decimal x) n out out' r
put_digits d x n out out' r g p =
    let e : take d.count d.bytes ≡ decimal x = rw g.answer (digits-front x) in
    rw (← e) p

pub ruleset within_rules = (digits-within)

-- ---- one behind the other
module _ {a b : List ℕ} {n r r' : ℕ} {out out' out'' : List ℕ} where
  pub then : {k m : ℕ} → LaidWithin k a n out out' r → LaidWithin m b r out' out'' r' → (most : ℕ) → r' ≤ n + most → LaidWithin most (a ++ b) n out out'' r'
  then w v most h =
      record {
        laid = record {
          next = v.laid.next ∙ rw (w.laid.next, length-append a b) (omega arith);
          list = v.laid.list ∙ rw (w.laid.list, w.laid.next) (sym (put_append n a b out));
        };
        short = h;
      }

-- what is put, with the place behind it
pub put_laid : {most n r : ℕ} {b out out' : List ℕ} → Put b n out out' r → r ≤ most → LaidWithin most b n out out' (n + r)
put_laid {n = n} p h = record { laid = record { next = ap (λ (k : ℕ). n + k) p.size; list = p.list }; short = omega arith }

pub put_as : {most n r : ℕ} {a b out out' : List ℕ} → a ≡ b → LaidWithin most a n out out' r → LaidWithin most b n out out' r
put_as e w = rw (← e) w

-- a number of 32 bits has ten digits at the most
module _ (x n r : ℕ) (out out' : List ℕ) (p : Put (decimal x) n out out' r) (f : Fits w32 x) where
  ten : r ≤ 10
  ten = omega (arith, p.size, decimal-few 9 x (omega (arith, f.fits)))

  pub digits_fit : n ≤ 1000000000000000000 → Fits w64 (n + r)
  digits_fit h = record { fits = omega (arith, ten) }

  pub digits_laid : LaidWithin 10 (decimal x) n out out' (n + r)
  digits_laid = put_laid p ten

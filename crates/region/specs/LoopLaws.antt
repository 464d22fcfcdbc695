-- Laws of loops over the regions of a text, by steps of `next_region`: one that counts them, and one that writes each as so many numbers. Assumes nothing.
use Rattle.std.specs.Prelude.{◌≡◌, refl, List, ◌++◌, ℕ, ◌+◌, ◌-◌, ◌*◌, ◌/◌, ◌≤◌, ◌<◌, length, replicate, None, Option, Some}
use Rattle.std.proofs.Common.{ap, ◌∙◌, arith, length-append}
use Rattle.search.specs.Promise.{Gives}
use Rattle.common.specs.Entry.{flatten, room, put_at, wide}
use Rattle.common.specs.EntryLaws.{Written, length-flatten, room_fits, rows_next, written_none, written_put, written_all, written-room}
use Rattle.rules.specs.Grammar.{Gram}
use Rattle.region.specs.Region.{Caused, region_of, row_of}
use Rattle.region.specs.Regions.{next_region, regions_from, regions}
use Rattle.common.specs.Lists.{RowPut, Wrote}
use Rattle.region.specs.Views.{view_next, found_region}
use Rattle.region.specs.Ahead.{regions-few}
use Rattle.region.specs.Memory.{KeptNext}
use Rattle.region.specs.MemoryLaws.{Sound, sound_zeros, keeps_told, keeps_sound}
use Rattle.region.specs.NextLaws.{from_start, next_none, next_some, next-ahead}
use Rattle.region.specs.declared.Region.{Region as Told}
use Rattle.region.specs.declared.Region.{Region}

-- a region is two numbers of a list
pub row-wide : (r : Caused) → length (row_of r) ≡ wide
row-wide r = refl

-- a loop at q that has passed n regions and has a memory m
pub record Counting (g : Gram) (s m : List ℕ) (n q : ℕ) : Type 0 where
  pub sound : Sound g s m q
  pub here : q ≤ length s
  pub few : n ≤ length s / 2 + 1
  pub sum : n + length (regions_from g s q) ≡ length (regions g s)

-- a loop that writes: it has passed n regions, each of which is w numbers of `out`, which was `out₀`
pub record Pouring (flat : Caused → List ℕ) (w : ℕ) (g : Gram) (s m out₀ out : List ℕ) (n q : ℕ) : Type 0 where
  pub size : (r : Caused) → length (flat r) ≡ w
  pub counting : Counting g s m n q
  pub wrote : Written (flatten flat (regions g s)) (flatten flat (regions_from g s q)) out₀ out (n * w)

pub counting-first : (g : Gram) (s : List ℕ) → Counting g s (replicate 256 0) 0 0
counting-first g s = record { sound = sound_zeros g s 0; here = omega arith; few = omega arith; sum = omega (arith, ap length (from_start g s)) }

module _ (g : Gram) (s m : List ℕ) (n q : ℕ) (d : Option (Region × ℕ)) (m' : List ℕ) (i : Counting g s m n q) (kept : KeptNext g s m q d m') where
  -- what the step says of the text
  pub counting-told : Gives (found_region (next_region g s q)) (view_next d)
  counting-told = keeps_told g s m q i.here i.sound d m' kept

  pub counting_end : d ≡ None → n ≡ length (regions g s)
  counting_end e = omega (arith, i.sum, ap length (next_none g s q i.here d counting-told e))

  module _ (r : Told) (k : ℕ) (e : d ≡ Some (r, k)) where
    pub counting-next : Counting g s m' (n + 1) k
    counting-next =
        let a = next-ahead g s q i.here d counting-told r k e in
        let x = ap length (next_some g s q i.here d counting-told r k e) in
        record { sound = keeps_sound g s m q i.here i.sound d m' kept r k e; here = a.1; few = omega (arith, i.sum, regions-few g s); sum = omega (arith, i.sum) }

    pub counting_less : length s - k < length s - q
    counting_less = omega (arith, next-ahead g s q i.here d counting-told r k e)

pub pouring_first : (flat : Caused → List ℕ) (w : ℕ) (g : Gram) (s out : List ℕ) → ((r : Caused) → length (flat r) ≡ w) → length (regions g s) ≤ room w out → Pouring flat w g s (replicate 256 0) out out 0 0
pouring_first flat w g s out size h =
    let k : 0 * w ≡ 0 = omega arith in
    record {
      size = size;
      counting = counting-first g s;
      wrote = rw (← (from_start g s), k) (written_none (omega (arith, room_fits w (length (regions g s)) out h, length-flatten flat w size (regions g s))));
    }

module _ (flat : Caused → List ℕ) (w : ℕ) (g : Gram) (s m out₀ out : List ℕ) (n q : ℕ) (d : Option (Region × ℕ)) (m' : List ℕ) (i : Pouring flat w g s m out₀ out n q) (kept : KeptNext g s m q d m') where
  told : Gives (found_region (next_region g s q)) (view_next d)
  told = counting-told g s m n q d m' i.counting kept

  pub pouring_end : d ≡ None → Wrote flat (regions g s) out₀ out n
  pouring_end e = record { count = counting_end g s m n q d m' i.counting kept e; list = written_all (rw (next_none g s q i.counting.here d told e) at i.wrote) }

  module _ (r : Told) (k : ℕ) (e : d ≡ Some (r, k)) where
    ahead : Written (flatten flat (regions g s)) (flat (region_of r) ++ flatten flat (regions_from g s k)) out₀ out (n * w)
    ahead = rw (next_some g s q i.counting.here d told r k e) at i.wrote

    -- there is room for the region
    pub pouring_room : n * w + w ≤ length out
    pouring_room = omega (arith, written-room ahead, length-append (flat (region_of r)) (flatten flat (regions_from g s k)), i.size (region_of r))

    pub pouring_next : (out' : List ℕ) (n' : ℕ) → RowPut (flat (region_of r)) n out out' n' → Pouring flat w g s m' out₀ out' n' k
    pouring_next out' n' p =
        let x : (n + 1) * w ≡ n * w + length (flat (region_of r)) = omega (arith, rows_next n w, i.size (region_of r)) in
        let z : out' ≡ put_at (n * w) (flat (region_of r)) out = p.list ∙ ap (λ (k : ℕ). put_at (n * k) (flat (region_of r)) out) (i.size (region_of r)) in
        record { size = i.size; counting = rw p.next (counting-next g s m n q d m' i.counting kept r k e); wrote = rw (p.next, x, z) (written_put (flat (region_of r)) ahead) }

    pub pouring_less : length s - k < length s - q
    pouring_less = counting_less g s m n q d m' i.counting kept r k e

pub pouring_same : {flat : Caused → List ℕ} {w : ℕ} {g : Gram} {s m out₀ out : List ℕ} {n q : ℕ} → Pouring flat w g s m out₀ out n q → length out ≡ length out₀
pouring_same i = i.wrote.long

-- Laws of a replacement's own regions: the rules of the loops that count and write them, by steps of `next_region`. Assumes nothing.
use Rattle.std.specs.Prelude.{◌≡◌, Bool, false, ◌||◌, ℕ, ◌+◌, ◌-◌, ◌*◌, ◌≤◌, ◌<◌, leb, length, replicate, None, Option, Some}
use Rattle.std.proofs.Math.Path.{sym, ap}
use Rattle.std.proofs.Common.{subst, ◌∙◌, add_comm, arith}
use Rattle.std.proofs.Math.Bool.{true, or-false, or_assoc}
use mathlib.Core.List.{List, ◌∷◌, map}
use Rattle.std.proofs.Math.Dec.{ltb}
use Rattle.std.proofs.lemmas.List.{length-map}
use borrow.Author.Tests.{lt-ltb}
use Rattle.search.specs.Promise.{Gives}
use Rattle.region.specs.Region.{Caused, Listed, region_of, move, up, reaches, as_listed}
use Rattle.rules.specs.Grammar.{Gram}
use Rattle.region.specs.Regions.{next_region, regions_from, regions}
use Rattle.region.specs.Views.{view_next, found_region}
use Rattle.region.specs.NextLaws.{from_start, next_none, next_some, next-ahead}
use Rattle.region.specs.Memory.{KeptNext}
use Rattle.region.specs.MemoryLaws.{Sound, sound_zeros, keeps_told, keeps_sound}
use Rattle.region.specs.LoopLaws.{Counting, counting-first, counting-told, counting_end, counting-next, counting_less}
use Rattle.common.specs.Entry.{wide}
use Rattle.common.specs.Lists.{RowPut}
use Rattle.region.specs.Room.{RowFits}
use Rattle.region.specs.declared.Region.{Region as Told}
use Rattle.amend.specs.Parts.{PutRows, Owns, surveyed}
use Rattle.amend.specs.RowLaws.{PuttingRows, putting_first, putting_room, putting_put, putting_end}
use Rattle.amend.specs.Amended.{list_regions}
use Rattle.region.specs.declared.Region.{Region}

-- ---- the loop that counts: n regions found before q, and whether one of them reaches the text's end
pub record Surveying (g : Gram) (s m : List ℕ) (n : ℕ) (reached : Bool) (q : ℕ) : Type 0 where
  pub counting : Counting g s m n q
  pub reach : reaches (length s) (regions g s) ≡ (reached || reaches (length s) (regions_from g s q))

pub surveying_first : (g : Gram) (s : List ℕ) → Surveying g s (replicate 256 0) 0 false 0
surveying_first g s = record { counting = counting-first g s; reach = ap (reaches (length s)) (from_start g s) }

module _ (g : Gram) (s m : List ℕ) (n : ℕ) (y : Bool) (q : ℕ) (d : Option (Region × ℕ)) (m' : List ℕ) (i : Surveying g s m n y q) (kept : KeptNext g s m q d m') where
  t : Gives (found_region (next_region g s q)) (view_next d)
  t = counting-told g s m n q d m' i.counting kept

  inside : q ≤ length s
  inside = i.counting.here

  pub surveying_end : d ≡ None → record { count = n; reaching = y } ≡ surveyed g s
  unfolding reaches
  surveying_end e =
      let a = counting_end g s m n q d m' i.counting kept e in
      let b : y ≡ reaches (length s) (regions g s) = sym (i.reach ∙ ap (λ (l : List Caused). y || reaches (length s) l) (next_none g s q inside d t e) ∙ or-false y) in
      rw (← a, ← b)

  module _ (r : Told) (k : ℕ) (e : d ≡ Some (r, k)) where
    pub surveying_less : length s - k < length s - q
    surveying_less = counting_less g s m n q d m' i.counting kept r k e

    pub surveying_again : (y' : Bool) → Gives (y || leb (length s) r.end) y' → Surveying g s m' (n + 1) y' k
    unfolding reaches
    surveying_again y' h =
        let w = next-ahead g s q inside d t r k e in
        let starts : ltb r.start (length s) ≡ true = lt-ltb r.start (length s) (omega arith) in
        record {
          counting = counting-next g s m n q d m' i.counting kept r k e;
          reach =
              i.reach ∙ ap (λ (l : List Caused). y || reaches (length s) l) (next_some g s q inside d t r k e)
              ∙ rw starts (sym (or_assoc y (leb (length s) r.end) (reaches (length s) (regions_from g s k))))
              ∙ ap (λ (x : Bool). x || reaches (length s) (regions_from g s k)) (sym h.answer);
        }

-- ---- the loop that writes: it stands at place q, and at row m of `out`
pub record Moving (flat : Listed → List ℕ) (w : ℕ) (g : Gram) (s dead : List ℕ) (by at : ℕ) (out₀ out : List ℕ) (m q : ℕ) : Type 0 where
  pub sound : Sound g s dead q
  pub inside : q ≤ length s
  pub fits : length s + by ≤ 4294967295
  pub putting : PuttingRows flat w (up by (list_regions g s)) (up by (map as_listed (regions_from g s q))) at m out₀ out

pub moving_first : (flat : Listed → List ℕ) (w : ℕ) (g : Gram) (s : List ℕ) (by at : ℕ) (out : List ℕ) → ((r : Listed) → length (flat r) ≡ w) → Owns w (regions g s) s by out at → Moving flat w g s (replicate 256 0) by at out out at 0
moving_first flat w g s by at out size owns =
    let many : length (up by (list_regions g s)) ≡ length (regions g s) = length-map (list_regions g s) (move (λ x. by + x)) ∙ length-map (regions g s) as_listed in
    record {
      sound = sound_zeros g s 0;
      inside = omega arith;
      fits = owns.fits;
      putting =
          subst (λ (l : List Caused). PuttingRows flat w (up by (list_regions g s)) (up by (map as_listed l)) at at out out) (from_start g s)
          (putting_first size (subst (λ (k : ℕ). at * w + k * w ≤ length out) (sym many) owns.room));
    }

module _ (flat : Listed → List ℕ) (w : ℕ) (g : Gram) (s dead : List ℕ) (by at : ℕ) (out₀ out : List ℕ) (m q : ℕ) (d : Option (Region × ℕ)) (dead' : List ℕ) (i : Moving flat w g s dead by at out₀ out m q) (kept : KeptNext g s dead q d dead') where
  told : Gives (found_region (next_region g s q)) (view_next d)
  told = keeps_told g s dead q i.inside i.sound d dead' kept

  pub moving_end : d ≡ None → PutRows flat w (up by (list_regions g s)) at out₀ out m
  moving_end e = putting_end (subst (λ (l : List Caused). PuttingRows flat w (up by (list_regions g s)) (up by (map as_listed l)) at m out₀ out) (next_none g s q i.inside d told e) i.putting)

  module _ (r : Told) (n : ℕ) (e : d ≡ Some (r, n)) where
    pub moving_less : length s - n < length s - q
    moving_less = let w = next-ahead g s q i.inside d told r n e in omega arith

    more : PuttingRows flat w (up by (list_regions g s)) (move (λ x. by + x) (as_listed (region_of r)) ∷ up by (map as_listed (regions_from g s n))) at m out₀ out
    more = subst (λ (l : List Caused). PuttingRows flat w (up by (list_regions g s)) (up by (map as_listed l)) at m out₀ out) (next_some g s q i.inside d told r n e) i.putting

    -- there is room for the region
    pub moving_room : m * w + w ≤ length out
    moving_room = putting_room more

    -- and its places fit 32 bits
    pub moving_fits : (r.start + by ≤ 4294967295) × (r.end + by ≤ 4294967295)
    moving_fits =
        let w = next-ahead g s q i.inside d told r n e in
        (omega (arith, i.fits), omega (arith, i.fits))

    pub moving_again : (m' : ℕ) (out' : List ℕ) → RowPut (flat (record { start = r.start + by; stop = r.end + by; tag = tt })) m out out' m' → Moving flat w g s dead' by at out₀ out' m' n
    moving_again m' out' p =
        record {
          sound = keeps_sound g s dead q i.inside i.sound d dead' kept r n e;
          inside = (next-ahead g s q i.inside d told r n e).1;
          fits = i.fits;
          putting = putting_put (move (λ x. by + x) (as_listed (region_of r))) more (rw (add_comm by r.start, add_comm by r.end) p);
        }

-- a row of numbers
pub moving_puts : (flat : Listed → List ℕ) (g : Gram) (s dead : List ℕ) (by at : ℕ) (out₀ out : List ℕ) (m q : ℕ) (d : Option (Region × ℕ)) (dead' : List ℕ) → Moving flat wide g s dead by at out₀ out m q → KeptNext g s dead q d dead'
    → (r : Told) (n : ℕ) → d ≡ Some (r, n) → RowFits m (r.start + by) (r.end + by) out
moving_puts flat g s dead by at out₀ out m q d dead' i kept r n e =
    let fits = moving_fits flat wide g s dead by at out₀ out m q d dead' i kept r n e in
    record { room = moving_room flat wide g s dead by at out₀ out m q d dead' i kept r n e; low = fits.0; high = fits.1 }

pub moving_same : {flat : Listed → List ℕ} {w : ℕ} {g : Gram} {s dead : List ℕ} {by at : ℕ} {out₀ out : List ℕ} {m q : ℕ} → Moving flat w g s dead by at out₀ out m q → length out ≡ length out₀
moving_same i = i.putting.long

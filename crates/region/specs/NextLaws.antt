-- Stepping: the next region from a place on is the first of the regions from there on, and the others lie from where it says. Assumes nothing.
use Rattle.std.specs.Prelude.{◌≡◌, refl, List, [], ◌∷◌, ℕ, suc, ◌≤◌, ◌<◌, length, None, Option, Some}
use Rattle.std.proofs.Common.{sym, ap, subst, ◌∙◌, arith}
use Rattle.search.specs.Promise.{Gives}
use Rattle.common.specs.Turn.{Turn, go, stop, found, then_collect}
use Rattle.common.specs.Turning.{Last}
use Rattle.common.specs.TurnLaws.{collect-scan, scan_last}
use Rattle.region.specs.Region.{Caused, region_of}
use Rattle.rules.specs.Grammar.{Gram}
use Rattle.region.specs.Regions.{next_region, regions_from, regions}
use Rattle.region.specs.Ahead.{Lies, region_turn-ahead}
use Rattle.region.specs.Views.{FoundRegion, view_next, found_region}
use Rattle.region.specs.declared.Region.{Region as Told}
use Rattle.region.specs.declared.Region.{Region}

-- the turn that an answer of one region tells
turn_of : List FoundRegion → Turn Caused
turn_of [] = stop 0
turn_of (p ∷ l) = found p.region p.next

pub turn_found : (r : Caused) (n : ℕ) (t : Turn Caused) → record { region = r; next = n } ∷ [] ≡ found_region t → t ≡ found r n
unfolding turn_of
turn_found r n (go m) e = let z : ◌≡◌ {A = ℕ} 0 1 = cc in absurd (omega arith)
turn_found r n (stop v) e = let z : ◌≡◌ {A = ℕ} 0 1 = cc in absurd (omega arith)
turn_found r n (found a m) e = sym (ap turn_of e)

pub from_start : (g : Gram) (s : List ℕ) → regions g s ≡ regions_from g s 0
unfolding regions
from_start g s = refl

module _ (g : Gram) (s : List ℕ) (q : ℕ) (h : q ≤ length s) where
  -- the regions from q on, by the first turn that does not only go on
  by_first : regions_from g s q ≡ then_collect (regions_from g s) (next_region g s q)
  unfolding regions_from
  by_first = collect-scan (region_turn-ahead g s) (suc (length s)) q h (omega arith)

  last : Last Lies q (length s) (next_region g s q)
  last = scan_last (region_turn-ahead g s) (λ q n m r i w. (omega arith, w.1, w.2)) (suc (length s)) q h

  none : [] ≡ found_region (next_region g s q) → then_collect (regions_from g s) (next_region g s q) ≡ []
  none e = by (next_region g s q) last e
    where
      by : (t : Turn Caused) → Last Lies q (length s) t → [] ≡ found_region t → then_collect (regions_from g s) t ≡ []
      by (go m) l e = absurd l
      by (stop v) l e = refl
      by (found a m) l e = let z : ◌≡◌ {A = ℕ} 0 1 = cc in absurd (omega arith)

  module _ (d : Option (Region × ℕ)) (told : Gives (found_region (next_region g s q)) (view_next d)) where
    pub next_none : d ≡ None → regions_from g s q ≡ []
    next_none e = by_first ∙ none (sym (ap view_next e) ∙ told.answer)

    module _ (r : Told) (n : ℕ) (e : d ≡ Some (r, n)) where
      here : next_region g s q ≡ found (region_of r) n
      here = turn_found (region_of r) n (next_region g s q) (sym (ap view_next e) ∙ told.answer)

      pub next_some : regions_from g s q ≡ region_of r ∷ regions_from g s n
      next_some = by_first ∙ ap (then_collect (regions_from g s)) here

      pub next-ahead : (q < n) × (n ≤ length s) × Lies q n (region_of r)
      next-ahead = subst (Last Lies q (length s)) here last

-- Laws of the regions as they come: the loop that moves on to the next one, and the ways out of the test. Assumes nothing.
use Rattle.std.specs.Prelude.{◌≡◌, refl, false, List, [], ◌∷◌, map, ℕ, suc, ◌-◌, ◌≤◌, ◌<◌, leb, length, None, Option, Some}
use Rattle.std.proofs.Math.Path.{sym}
use Rattle.std.proofs.Common.{ap, ◌∙◌, arith, le-ltb}
use Rattle.std.proofs.Math.Bool.{and-false, or-false}
use Rattle.std.proofs.lemmas.Bool.{lt-leb}
use Rattle.search.specs.Promise.{Gives}
use Rattle.region.specs.Region.{Caused, InOrder, row_of}
use Rattle.rules.specs.Grammar.{Gram}
use Rattle.region.specs.Regions.{next_region, regions_from, regions}
use Rattle.region.specs.Ahead.{region_turn-ahead, collect_in_order}
use Rattle.region.specs.NextLaws.{from_start, next_none, next_some, next-ahead}
use Rattle.cover.specs.Cursor.{covers}
use Rattle.region.specs.Views.{view_next, found_region}
use Rattle.region.specs.declared.Region.{Region as Told}
use Rattle.sheet.specs.Sheet.{inside}
use Rattle.region.specs.Memory.{KeptNext}
use Rattle.region.specs.MemoryLaws.{Sound, keeps_told, keeps_sound, keeps_ended}
use Rattle.sheeting.specs.Hiding.{HidesFrom, PassedOn}
use Rattle.sheeting.specs.declared.hiding.Hider.{Hider}
use Rattle.region.specs.declared.Region.{Region}

-- a region that ends at or before a place
covers-past : (p a b : ℕ) → b ≤ p → covers p (a ∷ b ∷ []) ≡ false
covers-past p a b h = rw (le-ltb p b h) (and-false (leb a p))

-- a place before regions in order is inside none of them
inside_before : (q len p : ℕ) (l : List Caused) → InOrder q len l → p < q → inside (map row_of l) p ≡ false
unfolding inside
inside_before q len p [] w h = refl
inside_before q len p (r ∷ l) w h =
    let e : leb r.start p ≡ false = lt-leb r.start p (omega (arith, w.0)) in
    rw e (inside_before r.stop len p l w.3 (omega (arith, w.0, w.1)))

-- there are none from the end on
inside_end : (len p : ℕ) (l : List Caused) → InOrder len len l → inside (map row_of l) p ≡ false
unfolding inside
inside_end len p [] w = refl
inside_end len p (r ∷ l) w = absurd (omega (arith, w.0, w.1, w.2))

-- ---- the loop that moves on: where it stands, with a memory that tells the truth from there
pub record Passing (g : Gram) (s m : List ℕ) (place : ℕ) (h : Hider) : Type 0 where
  pub hides : HidesFrom g s place h
  pub sound : Sound g s m h.next

module _ (g : Gram) (s : List ℕ) where
  from_order : (q : ℕ) → q ≤ length s → InOrder q (length s) (regions_from g s q)
  unfolding regions_from
  from_order q h = collect_in_order (region_turn-ahead g s) (suc (length s)) q h

  -- before all regions, with one that hides nothing
  pub hides_first : HidesFrom g s 0 (record { start = 0; stop = 0; next = 0 })
  hides_first = record {
    apart = omega arith;
    here = omega arith;
    same = λ p h. rw (covers-past p 0 0 h) (ap (λ (l : List Caused). inside (map row_of l) p) (from_start g s));
  }

  module _ (place : ℕ) (h : Hider) where
    pub hides_later : (low : ℕ) → low ≤ place → HidesFrom g s low h → HidesFrom g s place h
    hides_later low l w = record { apart = w.apart; here = w.here; same = λ p m. w.same p (omega arith) }

    pub passing_first : (m : List ℕ) → HidesFrom g s place h → Sound g s m h.next → Passing g s m place h
    passing_first m w v = record { hides = w; sound = v }

    module _ (m : List ℕ) (v : Passing g s m place h) where
      w : HidesFrom g s place h
      w = v.hides

      -- it ends after the place, and those behind it start later
      pub pass_found : place < h.stop → PassedOn g s m place h
      pass_found l =
          let e : inside (map row_of (regions_from g s h.next)) place ≡ false = inside_before h.next (length s) place (regions_from g s h.next) (from_order h.next w.here) (omega (arith, w.apart)) in
          record { passed = record { hides = w; hidden = w.same place (omega arith) ∙ rw e (or-false (covers place (h.start ∷ h.stop ∷ []))) }; sound = v.sound }

      module _ (d : Option (Region × ℕ)) (m' : List ℕ) (kept : KeptNext g s m h.next d m') where
        told : Gives (found_region (next_region g s h.next)) (view_next d)
        told = keeps_told g s m h.next w.here v.sound d m' kept

        pub pass_next : (r : Told) (n : ℕ) → d ≡ Some (r, n) → h.stop ≤ place → Passing g s m' place (record { start = r.start; stop = r.end; next = n })
        unfolding inside
        pass_next r n e l =
            let a = next-ahead g s h.next w.here d told r n e in
            record {
              hides = record {
                apart = a.2.2;
                here = a.1;
                same = λ p k. w.same p k ∙ rw (covers-past p h.start h.stop (omega arith), next_some g s h.next w.here d told r n e);
              };
              sound = keeps_sound g s m h.next w.here v.sound d m' kept r n e;
            }

        pub pass_less : (r : Told) (n : ℕ) → d ≡ Some (r, n) → length s - n < length s - h.next
        pass_less r n e = omega (arith, next-ahead g s h.next w.here d told r n e)

        pub pass_none : d ≡ None → PassedOn g s m' place (record { start = h.start; stop = h.stop; next = length s })
        unfolding inside
        pass_none e =
            let none : (p : ℕ) → place ≤ p → inside (map row_of (regions g s)) p ≡ covers p (h.start ∷ h.stop ∷ []) = λ p k. w.same p k ∙ rw (next_none g s h.next w.here d told e) (or-false (covers p (h.start ∷ h.stop ∷ []))) in
            record {
              passed = record {
                hides = record {
                  apart = omega (arith, w.apart, w.here);
                  here = omega arith;
                  same = λ p k.
                      none p k ∙ sym (rw (inside_end (length s) p (regions_from g s (length s)) (from_order (length s) (omega arith))) (or-false (covers p (h.start ∷ h.stop ∷ []))));
                };
                hidden = none place (omega arith);
              };
              sound = keeps_ended g s m h.next w.here v.sound d m' kept e;
            }

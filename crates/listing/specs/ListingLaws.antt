-- The ways out of a listing, and that its promise leaves one answer and one run. Assumes nothing.
use Rattle.std.specs.Prelude.{◌≡◌, true, false, List, [], ◌∷◌, ◌⊎◌, ltb, get_or, take, drop, Ok, Result}
use Rattle.std.proofs.Common.{sym, ap, ◌∙◌, inl, inr, length-append, length-take-le}
use Prim.Native.Nat.{ℕ, ◌≤◌, ◌<◌}
use native.Mathlib.Omega.{arith}
use Rattle.std.proofs.Math.ListN.{length}
use borrow.Author.Tests.{lt-ltb, le-ltb}
use Rattle.search.specs.Promise.{Gives}
use Rattle.common.specs.Entry.{over}
use Rattle.common.specs.EntryLaws.{put_over}
use Rattle.search.specs.SearchLaws.{decide}
use Rattle.common.specs.Refusals.{Outcome, given, refused, told}
use Rattle.common.specs.RefusalLaws.{answer_unique}
use Rattle.listing.specs.Lines.{line}
use Rattle.put.specs.Put.{Laid, LaidWithin}
use Rattle.listing.specs.Room.{Room}
use Rattle.listing.specs.PartLaws.{entry-parts, part-first, part_second, part_both}
use Rattle.listing.specs.Listing.{entries, printed, listing_answer, listing_run, Printed}
use Rattle.listing.specs.Parts.{later_lines}
use Rattle.listing.specs.Held.{RegionsIn, held_lines}
use Rattle.listing.specs.HeldLaws.{held_room, held_laid}
use Rattle.listing.specs.SizeLaws.{entries-room, printed_most}
use Rattle.common.specs.declared.refusal.Refusal.{Refusal}

-- ---- the entries: regions first
module _ {s list : List ℕ} {count : ℕ} (w : RegionsIn s list count) where
  pub regions-room : length s ≤ 8192 → Room 0 (held_lines list count)
  regions-room h = held_room w (part-first entry-parts s (entries-room s h))

  module _ {out out' : List ℕ} {r : ℕ} where
    pub later_room : length s ≤ 8192 → Laid (held_lines list count) 0 out out' r → Room r (later_lines s)
    later_room h v = part_second entry-parts s (held_laid w v) (entries-room s h)

    pub entries_laid : {r₁ : ℕ} {out₁ : List ℕ} → Laid (later_lines s) r₁ out₁ out' r → Laid (held_lines list count) 0 out out₁ r₁ → Laid (entries s) 0 out out' r
    entries_laid u v = part_both entry-parts s u (held_laid w v)

-- ---- the listing
module _ (s : List ℕ) {out out' : List ℕ} {r : ℕ} where
  pub printed-over : 8192 < length s → LaidWithin 13 (line 88 (1 ∷ [])) 0 out out' r → Laid (printed s) 0 out out' r
  unfolding printed
  printed-over h p = rw (lt-ltb 8192 (length s) h) p.laid

  pub printed-entries : length s ≤ 8192 → Laid (entries s) 0 out out' r → Laid (printed s) 0 out out' r
  unfolding printed
  printed-entries h p = rw (le-ltb 8192 (length s) h) p

-- ---- the ways out
module _ (s : List ℕ) {out : List ℕ} where
  pub listing_refused : {k : ℕ} → length out < k → Gives (length (printed s)) k → Printed s out out (refused 3)
  unfolding listing_answer listing_run
  listing_refused {k} h g =
      let l = lt-ltb (length out) (length (printed s)) (omega (arith, g.answer)) in
      record { answer = rw l; run = rw l }

  served : {out' : List ℕ} {r : ℕ} → length (printed s) ≤ length out → Laid (printed s) 0 out out' r → Printed s out out' (given (r ∷ []))
  unfolding listing_answer listing_run
  served {out'} {r} h p =
      let l = le-ltb (length out) (length (printed s)) h in
      let e : r ≡ length (printed s) = p.next ∙ omega arith in
      record { answer = rw (l, e); run = p.list ∙ rw l (put_over (printed s) out h) }

  pub listing_fits : {k : ℕ} {out' : List ℕ} {r : ℕ} → k ≤ length out → Gives (length (printed s)) k → Laid (printed s) 0 out out' r → Printed s out out' (given (r ∷ []))
  listing_fits h g p = served (omega (arith, g.answer)) p

  pub listing_large : {out' : List ℕ} {r : ℕ} → 1000000 ≤ length out → Laid (printed s) 0 out out' r → Printed s out out' (given (r ∷ []))
  listing_large h p = served (omega (arith, printed_most s)) p

-- two results of a listing for the same arguments are one: the answer, and the run that is left
pub printed_unique : {s out out' out'' : List ℕ} {a a' : Result ℕ Refusal} → Printed s out out' (told a) → Printed s out out'' (told a') → (a ≡ a') × (out' ≡ out'')
printed_unique {s} {out} v w = (answer_unique {o = listing_answer s out} (record { answer = v.answer }) (record { answer = w.answer }), v.run ∙ sym w.run)

-- in a run of 1,000,000 bytes it is never refused
pub listing_served : (s out out' : List ℕ) (a : Result ℕ Refusal) → 1000000 ≤ length out → Printed s out out' (told a) → (told a ≡ given (length (printed s) ∷ [])) × (out' ≡ over (printed s) out)
unfolding listing_answer listing_run
listing_served s out out' a h w =
    let l = le-ltb (length out) (length (printed s)) (omega (arith, printed_most s)) in
    (w.answer ∙ rw l, w.run ∙ rw l)

-- what is written lies within the run
module _ (s : List ℕ) {out out' : List ℕ} {a : Result ℕ Refusal} {k : ℕ} (e : a ≡ Ok k) (w : Printed s out out' (told a)) where
  said : given (k ∷ []) ≡ listing_answer s out
  said = ap told (sym e) ∙ w.answer

  pub listing_within : k ≤ length out'
  unfolding listing_answer listing_run
  listing_within = by (decide (ltb (length out) (length (printed s))))
    where
      n : ℕ
      n = length (printed s)

      by : (ltb (length out) n ≡ true) ⊎ (ltb (length out) n ≡ false) → k ≤ length out'
      by (inl u) =
          let z : given (k ∷ []) ≡ refused 3 = said ∙ rw u in
          absurd (omega (arith, ap (λ (o : Outcome). o.number) z))
      by (inr u) =
          let z : given (k ∷ []) ≡ given (n ∷ []) = said ∙ rw u in
          let y : out' ≡ over (printed s) out = w.run ∙ rw u in
          omega (arith, ap (λ (o : Outcome). get_or o.values 0 0) z, ap length y, length-append (printed s) (drop n out))

  -- as the part of it that is handed on
  pub listing_part : k ≡ length (take k out')
  listing_part = sym (length-take-le k out' listing_within)

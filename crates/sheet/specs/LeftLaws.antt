-- Laws of the items that are left to show, whatever the regions come from: what a turn tells of them, and the loops that count and write them. Assumes nothing.
use Rattle.std.specs.Prelude.{◌≡◌, Bool, true, false, ℕ, suc, ◌+◌, ◌*◌, ◌/◌, ◌≤◌, ◌<◌, leb, length, None, Some}
use Rattle.std.proofs.Common.{sym, subst, ◌∙◌, zero-mul, suc-mul, arith, length-append, le-leb}
use Rattle.std.proofs.Math.Path.{ap}
use mathlib.Core.List.{List, [], ◌∷◌, map}
use Rattle.search.specs.Promise.{Gives}
use Rattle.common.specs.Entry.{flatten, room, over, put_at}
use Rattle.common.specs.EntryLaws.{Written, length-flatten, room_fits, written_none, written-room, written_put, written_all}
use Rattle.common.specs.Lists.{RowPut}
use Rattle.common.specs.declared.grammar.Grammar.{Grammar}
use Rattle.cover.specs.Cursor.{Rising}
use Rattle.feed.specs.Items.{tested_place}
use Rattle.feed.specs.Feeds.{taken}
use Rattle.feed.specs.Ahead.{ahead}
use Rattle.feed.specs.FeedLaws.{Took, Started, took}
use Rattle.feed.specs.declared.item.SheetItem.{SheetItem}
use Rattle.feed.specs.declared.Feed.{Feed}
use Rattle.feed.specs.declared.Taken.{Taken}
use Rattle.sheet.specs.Sheet.{inside, outside}
use Rattle.sheet.specs.Parts.{left, Onward, Turned}
use Rattle.sheet.specs.RunLaws.{items-few, places_rise, outside-few}
use Rattle.sheet.specs.declared.item.Seen.{Seen}
use Rattle.sheet.specs.declared.item.Seen.TheVariants as seen

-- ---- an item and those behind it
pub outside_hidden : (regions : List (List ℕ)) (i : SheetItem) (l : List SheetItem) → inside regions (tested_place i) ≡ true → outside regions (i ∷ l) ≡ outside regions l
unfolding outside
outside_hidden regions i l e = rw (e, outside)

pub outside-shown : (regions : List (List ℕ)) (i : SheetItem) (l : List SheetItem) → inside regions (tested_place i) ≡ false → outside regions (i ∷ l) ≡ i ∷ outside regions l
unfolding outside
outside-shown regions i l e = rw (e, outside)

-- ---- the beginning
pub started_onward : (g : Grammar) (markers delims : List Bool) (s : List ℕ) (f : Feed) → Started g markers delims s f → Onward markers delims s 0 f
started_onward g markers delims s f w = record {
  within = w.within;
  rising = rw w.same (places_rise g markers delims s);
  few = omega (arith, ap length w.same, items-few g markers delims s);
}

-- ---- a turn
module _ (markers delims : List Bool) (s : List ℕ) (regions : List (List ℕ)) (low : ℕ) (f : Feed) (r : Onward markers delims s low f) where
  pub left-few : length (left markers delims s regions f) ≤ length s
  unfolding left
  left-few = omega (arith, r.few, outside-few regions (ahead markers delims s f))

  module _ (t : Taken) (d : Gives (taken markers delims s f) t) where
    took_it : Took markers delims s f t
    took_it = took markers delims s f t d r.within

    pub left_end : (Goes : Type 0) → t.head ≡ None → Turned markers delims s regions Goes f seen.End t.rest
    unfolding left outside
    left_end Goes e =
        let z : ahead markers delims s f ≡ [] = took_it.same ∙ rw e in
        record { same = ap (outside regions) z; goes = tt }

    module _ (i : SheetItem) (e : t.head ≡ Some i) where
      next : ahead markers delims s f ≡ i ∷ ahead markers delims s t.rest
      next = took_it.same ∙ rw e

      rises : Rising low (tested_place i ∷ map tested_place (ahead markers delims s t.rest))
      rises = subst (λ (k : List SheetItem). Rising low (map tested_place k)) next r.rising

      -- its place is not before the last one
      pub item_later : low ≤ tested_place i
      item_later = rises.0

      pub item-onward : Onward markers delims s (tested_place i) t.rest
      item-onward = record { within = took_it.within; rising = rises.1; few = omega (arith, r.few, ap length next) }

      fewer : length (ahead markers delims s t.rest) < length (ahead markers delims s f)
      fewer = omega (arith, ap length next)

      module _ {Goes : Type 0} (goes : Goes) where
        pub left_hidden : inside regions (tested_place i) ≡ true → Turned markers delims s regions Goes f seen.Hidden t.rest
        unfolding left
        left_hidden h = record { same = ap (outside regions) next ∙ outside_hidden regions i (ahead markers delims s t.rest) h; goes = (goes, fewer) }

        pub left-shown : inside regions (tested_place i) ≡ false → Turned markers delims s regions Goes f (seen.Shown i) t.rest
        unfolding left
        left-shown h = record { same = ap (outside regions) next ∙ outside-shown regions i (ahead markers delims s t.rest) h; goes = (goes, fewer) }

-- ---- the ways out of the question whether `len` places are enough, where an item takes `width`
pub fits_roomy : (markers delims : List Bool) (s : List ℕ) (regions : List (List ℕ)) (low : ℕ) (f : Feed) → Onward markers delims s low f → (len width most : ℕ) → length s ≤ most → Gives (len / width) most
    → true ≡ leb (length (left markers delims s regions f)) (len / width)
fits_roomy markers delims s regions low f r len width most h space =
    sym (le-leb (length (left markers delims s regions f)) (len / width) (omega (arith, left-few markers delims s regions low f r, space.answer)))

pub fits_counted : (l : List SheetItem) (len width most k : ℕ) → Gives (len / width) most → Gives (length l) k → leb k most ≡ leb (length l) (len / width)
fits_counted l len width most k space c = rw (c.answer, space.answer)

-- ---- the loops: of all items that are shown, those of the scanners f are left
module _ (markers delims : List Bool) (s : List ℕ) (regions : List (List ℕ)) where
  -- k of them are counted
  pub record Tallied (all : List SheetItem) (f : Feed) (k : ℕ) : Type 0 where
    pub count : k + length (left markers delims s regions f) ≡ length all
    pub few : length all ≤ length s

  -- k of them are written, as `flat` says, `width` places wide
  pub record Writing (flat : SheetItem → List ℕ) (width : ℕ) (all : List SheetItem) (out₀ : List ℕ) (f : Feed) (out : List ℕ) (k : ℕ) : Type 0 where
    pub count : k + length (left markers delims s regions f) ≡ length all
    pub wrote : Written (flatten flat all) (flatten flat (left markers delims s regions f)) out₀ out (k * width)

  pub tally_first : (low : ℕ) (f : Feed) → Onward markers delims s low f → Tallied (left markers delims s regions f) f 0
  tally_first low f r = record { count = omega arith; few = left-few markers delims s regions low f r }

  -- a turn from f to f' told x
  module _ {Goes : Type 0} {f : Feed} {x : Seen} {f' : Feed} where
    pub less_hidden : x ≡ seen.Hidden → Turned markers delims s regions Goes f x f' → length (ahead markers delims s f') < length (ahead markers delims s f)
    less_hidden e w = (rw e at w.goes).1

    pub less_shown : {i : SheetItem} → x ≡ seen.Shown i → Turned markers delims s regions Goes f x f' → length (ahead markers delims s f') < length (ahead markers delims s f)
    less_shown e w = (rw e at w.goes).1

    module _ {all : List SheetItem} {k : ℕ} where
      pub tally_end : x ≡ seen.End → Turned markers delims s regions Goes f x f' → Tallied all f k → k ≡ length all
      tally_end e w c =
          let z : left markers delims s regions f ≡ [] = w.same ∙ rw e in
          omega (arith, c.count, ap length z)

      pub tally_hidden : x ≡ seen.Hidden → Turned markers delims s regions Goes f x f' → Tallied all f k → Tallied all f' k
      tally_hidden e w c =
          let z : left markers delims s regions f ≡ left markers delims s regions f' = w.same ∙ rw e in
          record { count = omega (arith, c.count, ap length z); few = c.few }

      pub tally_shown : {i : SheetItem} → x ≡ seen.Shown i → Turned markers delims s regions Goes f x f' → Tallied all f k → Tallied all f' (k + 1)
      tally_shown {i} e w c =
          let z : left markers delims s regions f ≡ i ∷ left markers delims s regions f' = w.same ∙ rw e in
          record { count = omega (arith, c.count, ap length z); few = c.few }

-- the same, for items written
module _ (flat : SheetItem → List ℕ) (width : ℕ) (size : (i : SheetItem) → length (flat i) ≡ width) {markers delims : List Bool} {s : List ℕ} {regions : List (List ℕ)} where
  pub write_first : {f : Feed} {out : List ℕ} → length (left markers delims s regions f) ≤ room width out → Writing markers delims s regions flat width (left markers delims s regions f) out f out 0
  write_first {f} {out} h =
      let l = left markers delims s regions f in
      record { count = omega arith; wrote = rw (zero-mul width) (written_none (omega (arith, room_fits width (length l) out h, length-flatten flat width size l))) }

  module _ {all : List SheetItem} {out₀ out : List ℕ} {f : Feed} {k : ℕ} where
    pub write_long : Writing markers delims s regions flat width all out₀ f out k → length out ≡ length out₀
    write_long c = c.wrote.long

    module _ {Goes : Type 0} {x : Seen} {f' : Feed} where
      pub write_count : x ≡ seen.End → Turned markers delims s regions Goes f x f' → Writing markers delims s regions flat width all out₀ f out k → k ≡ length all
      write_count e w c =
          let z : left markers delims s regions f ≡ [] = w.same ∙ rw e in
          omega (arith, c.count, ap length z)

      pub write_list : x ≡ seen.End → Turned markers delims s regions Goes f x f' → Writing markers delims s regions flat width all out₀ f out k → out ≡ over (flatten flat all) out₀
      write_list e w c =
          let z : left markers delims s regions f ≡ [] = w.same ∙ rw e in
          written_all (subst (λ (l : List SheetItem). Written (flatten flat all) (flatten flat l) out₀ out (k * width)) z c.wrote)

      pub write_hidden : x ≡ seen.Hidden → Turned markers delims s regions Goes f x f' → Writing markers delims s regions flat width all out₀ f out k → Writing markers delims s regions flat width all out₀ f' out k
      write_hidden e w c =
          let z : left markers delims s regions f ≡ left markers delims s regions f' = w.same ∙ rw e in
          record {
            count = omega (arith, c.count, ap length z);
            wrote = subst (λ (l : List SheetItem). Written (flatten flat all) (flatten flat l) out₀ out (k * width)) z c.wrote;
          }

      module _ {i : SheetItem} (e : x ≡ seen.Shown i) (w : Turned markers delims s regions Goes f x f') (c : Writing markers delims s regions flat width all out₀ f out k) where
        left-next : left markers delims s regions f ≡ i ∷ left markers delims s regions f'
        left-next = w.same ∙ rw e

        more : Written (flatten flat all) (flatten flat (i ∷ left markers delims s regions f')) out₀ out (k * width)
        more = subst (λ (l : List SheetItem). Written (flatten flat all) (flatten flat l) out₀ out (k * width)) left-next c.wrote

        -- there is room for the item
        pub write_room : k * width + width ≤ length out
        write_room = omega (arith, written-room more, length-append (flat i) (flatten flat (left markers delims s regions f')), size i)

        pub write_shown : {out' : List ℕ} {m : ℕ} → RowPut (flat i) k out out' m → Writing markers delims s regions flat width all out₀ f' out' m
        write_shown {out'} {m} p =
            let n : m ≡ suc k = omega (arith, p.next) in
            let b : m * width ≡ k * width + length (flat i) = rw n (omega (arith, suc-mul k width, size i)) in
            let e : out' ≡ put_at (k * width) (flat i) out = p.list ∙ ap (λ (w : ℕ). put_at (k * w) (flat i) out) (size i) in
            record { count = omega (arith, c.count, ap length left-next, p.next); wrote = rw (e, b) (written_put (flat i) more) }

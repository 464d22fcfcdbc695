-- What building the region list and making the work sheet leave, by the house grammar: they refuse nothing, since there is room. Assumes nothing.
use Rattle.std.specs.Prelude.{◌≡◌, refl, Bool, false, ℕ, ◌/◌, ◌≤◌, ◌*◌, length, get_or, drop, Err, Ok, Result}
use Rattle.std.proofs.Common.{sym, ◌∙◌, arith, length-append, length-drop}
use Rattle.std.proofs.Math.Path.{ap}
use mathlib.Core.List.{List, [], ◌∷◌, map, append-nil}
use borrow.Author.Tests.{le-ltb, eq-eqb}
use Rattle.search.specs.Promise.{Gives}
use Rattle.search.specs.SearchLaws.{clash}
use Rattle.common.specs.Grammars.{house}
use Rattle.common.specs.Entry.{flatten, rows, over, wide}
use Rattle.common.specs.Lists.{build_answer}
use Rattle.common.specs.EntryLaws.{length-flatten, rows-flatten, holds-shaped}
use Rattle.common.specs.Refusals.{Outcome, given, refused, number_of, told}
use Rattle.common.specs.RefusalLaws.{number_some}
use Rattle.common.specs.declared.grammar.Grammar.{Grammar}
use Rattle.common.specs.declared.refusal.Refusal.{Refusal}
use Rattle.region.specs.Region.{row_of}
use Rattle.region.specs.Regions as region
use Rattle.context.specs.Build.{built_answer, built_list, Built}
use Rattle.region.specs.Ahead.{regions-few, regions-shaped}
use Rattle.cover.specs.Shape.{misshapen}
use Rattle.feed.specs.Items.{mark_items, numbered_items, merge}
use Rattle.sheet.specs.Sheet.{five, sheet_of, sheet_judged, sheet_answer, sheet_list, Sheeted}
use Rattle.sheet.specs.SheetLaws.{five-numbers}
use Rattle.sheet.specs.RunLaws.{items-few, outside-few}
use Rattle.common.specs.Sets.{house_markers, house_delims}
use Rattle.listing.specs.Listing.{house_rules, house_gram, house_regions, house_sheet}
use Rattle.listing.specs.Held.{RegionsIn, ItemsIn}

-- an answer that says given is no refusal, and its value is the given one
value_is : (n : ℕ) (l : List ℕ) → given (n ∷ []) ≡ given l → get_or l 0 0 ≡ n
value_is n l e = sym (ap (λ (o : Outcome). get_or o.values 0 0) e)

never : {A : Type 0} (x : Refusal) (l : List ℕ) → refused (number_of x) ≡ given l → A
never x l e = absurd (clash (eq-eqb (number_of x) 0 (ap (λ (o : Outcome). o.number) e)) (number_some x))

-- writing over the front of a run keeps its length
over-length : (l out : List ℕ) → length l ≤ length out → length (over l out) ≡ length out
over-length l out h = omega (arith, length-append l (drop (length l) out), length-drop (length l) out)

-- ---- regions
pub few-regions : (s : List ℕ) → length s ≤ 8192 → length (house_regions s) ≤ 4097
unfolding house_regions
few-regions s h = omega (arith, regions-few (house_gram) s)

module _ (s list list' : List ℕ) (g : Grammar) (a : Result ℕ Refusal) (e : Gives house g) (h : length s ≤ 8192) (size : length list ≡ wide * 4097) (w : Built g house_rules s list list' (told a)) where
  built_is : (told a ≡ given (length (house_regions s) ∷ [])) × (list' ≡ over (flatten row_of (house_regions s)) list)
  unfolding built_answer build_answer built_list house_regions
  built_is =
      let short = le-ltb 4294967295 (length s) (omega arith) in
      let roomy = le-ltb (length list / wide) (length (region.regions (house_gram) s)) (omega (arith, few-regions s h)) in
      (w.answer ∙ rw (e.answer, short, roomy), w.list ∙ rw (e.answer, short, roomy))

  pub regions_found : (n : ℕ) → a ≡ Ok n → RegionsIn s list' n
  regions_found n v =
      let b = built_is in
      let z : length (house_regions s) ≡ n = value_is n (length (house_regions s) ∷ []) (ap told (sym v) ∙ b.0) in
      record {
        same = rw (b.1, ← z) (rows-flatten row_of wide (λ r. refl) (house_regions s) (drop (length (flatten row_of (house_regions s))) list));
        few = omega (arith, few-regions s h);
        long = ap length b.1 ∙ over-length (flatten row_of (house_regions s)) list (omega (arith, few-regions s h, length-flatten row_of wide (λ r. refl) (house_regions s))) ∙ size;
      }

  pub regions-refused : (x : Refusal) (n : ℕ) → a ≡ Err x → RegionsIn s list' n
  regions-refused x n v = never x (length (house_regions s) ∷ []) (ap told (sym v) ∙ built_is.0)

-- ---- the list of a text's regions is in order
module _ {s list : List ℕ} {n : ℕ} (w : RegionsIn s list n) where
  held_shape : misshapen list n (length s) ≡ false
  unfolding misshapen house_regions
  held_shape =
      let fits = le-ltb (length list / wide) n (omega (arith, w.few, w.long)) in
      rw (fits, w.same, holds-shaped 0 (length s) (map row_of (house_regions s)) (regions-shaped (house_gram) s))

  held_sheet : sheet_of house house_markers house_delims list n s ≡ house_sheet s
  unfolding sheet_of house_sheet
  held_sheet =
      let x : rows wide (length (house_regions s)) (flatten row_of (house_regions s)) ≡ map row_of (house_regions s) = ap (rows wide (length (house_regions s))) (sym (append-nil (flatten row_of (house_regions s)))) ∙ rows-flatten row_of wide (λ r. refl) (house_regions s) [] in
      rw (w.same, x)

-- ---- the work sheet
pub few-shown : (s : List ℕ) → length (house_sheet s) ≤ length s
unfolding house_sheet sheet_of
few-shown s =
    omega (arith, outside-few (rows wide (length (house_regions s)) (flatten row_of (house_regions s))) (merge (mark_items house house_markers s) (numbered_items house house_delims s)), items-few house house_markers house_delims s)

module _ (s list items items' : List ℕ) (markers delims : List Bool) (count : ℕ) (g : Grammar) (a : Result ℕ Refusal) (e : Gives house g) (em : markers ≡ house_markers) (ed : delims ≡ house_delims) (h : length s ≤ 8192)
    (held : RegionsIn s list count) (space : length items ≡ 40965) (w : Sheeted g markers delims list count s items items' (told a)) where
  sheeted_is : (told a ≡ given (length (house_sheet s) ∷ [])) × (items' ≡ over (flatten five (house_sheet s)) items)
  unfolding sheet_judged sheet_answer sheet_list
  sheeted_is =
      let short = le-ltb 4294967295 (length s) (omega arith) in
      let roomy = le-ltb (length items / 5) (length (house_sheet s)) (omega (arith, few-shown s)) in
      (w.answer ∙ rw (e.answer, em, ed, short, held_shape held, held_sheet held, roomy), w.list ∙ rw (e.answer, em, ed, short, held_shape held, held_sheet held, roomy))

  pub items_found : (n : ℕ) → a ≡ Ok n → ItemsIn s items' n
  items_found n v =
      let b = sheeted_is in
      let z : length (house_sheet s) ≡ n = value_is n (length (house_sheet s) ∷ []) (ap told (sym v) ∙ b.0) in
      record {
        same = rw (b.1, ← z) (rows-flatten five 5 five-numbers (house_sheet s) (drop (length (flatten five (house_sheet s))) items));
        few = omega (arith, few-shown s);
        long = ap length b.1 ∙ over-length (flatten five (house_sheet s)) items (omega (arith, few-shown s, length-flatten five 5 five-numbers (house_sheet s))) ∙ space;
      }

  pub items_refused : (x : Refusal) (n : ℕ) → a ≡ Err x → ItemsIn s items' n
  items_refused x n v = never x (length (house_sheet s) ∷ []) (ap told (sym v) ∙ sheeted_is.0)

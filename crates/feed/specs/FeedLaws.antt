-- Laws of both scanners as one run of items: the ways out of the functions that move them on. Assumes nothing.
use Rattle.std.specs.Prelude.{◌≡◌, Bool, true, false, cond, ◌⊎◌, ℕ, ◌≤◌, ◌<◌, ltb, length, Option, Some, None, option_map, Result, Ok, Err}
use Rattle.std.proofs.Math.Path.{refl, sym, ap, subst}
use Rattle.std.proofs.Common.{◌∙◌, inl, inr, arith, lt-ltb, le-ltb}
use Rattle.std.specs.Result.{result_unwrap_or}
use mathlib.Core.List.{List, [], ◌∷◌, map}
use Rattle.search.specs.Promise.{Gives, Steps}
use Rattle.search.specs.SearchLaws.{decide}
use Rattle.common.specs.Refusals.{Outcome}
use Rattle.common.specs.Turn.{Step, yields, ends, then_drain}
use Rattle.common.specs.Turning.{Each}
use Rattle.common.specs.Items.{step_for}
use Rattle.common.specs.Scanning.{Scanner, answer, state, Keeps, items}
use Rattle.common.specs.ScanningLaws.{Lawful, step_items, step_inside}
use Rattle.common.specs.declared.grammar.Grammar.{Grammar}
use Rattle.common.specs.Kinds.{ItemReading, scanner_of, told_by}
use Rattle.common.specs.declared.scan.ItemIter.{ItemIter}
use Rattle.common.specs.declared.scan.Step as code
use Rattle.block_marker.specs.declared.Marker.{Marker}
use Rattle.block_numbered.specs.declared.Numbered.{Numbered}
use Rattle.block_marker.specs.Marker as marker
use Rattle.block_marker.specs.MarkerRun as marker_run
use Rattle.block_marker.specs.Marker.{BlockMarkerIter}
use Rattle.block_marker.specs.Marker.{MarkerStep}
use Rattle.block_numbered.specs.Numbered as numbered
use Rattle.block_numbered.specs.NumberedRun as numbered_run
use Rattle.block_numbered.specs.Numbered.{BlockNumberedIter}
use Rattle.block_numbered.specs.Numbered.{NumberedStep}
use Rattle.feed.specs.Items.{marked, counted, mark_items_from, numbered_items_from, mark_items, numbered_items, merge}
use Rattle.feed.specs.Feeds.{head_by, shown_head, after, marks_after, numbers_after, fresh_feed, picked, taken_by, taken}
use Rattle.feed.specs.Ahead.{headed, Within, ahead}
use Rattle.feed.specs.declared.item.SheetItem.{SheetItem}
use Rattle.feed.specs.declared.Pick.{Pick}
use Rattle.feed.specs.declared.Pick.TheVariants as pick
use Rattle.feed.specs.declared.ItemsAhead.{ItemsAhead}
use Rattle.feed.specs.declared.Feed.{Feed}
use Rattle.feed.specs.declared.Taken.{Taken}
use Rattle.common.specs.declared.refusal.Refusal.{Refusal}

-- ---- one scanner's next item
-- the ways out of the functions that move one scanner on: f is the step's answer, e what a `match` told that it is
scanner-moved : {F S R : Type 0} (told : F → Outcome) (head : List ℕ → Option SheetItem) (make : Option SheetItem → S → R) {o : Outcome} {g : S} (f e : F) (h : Option SheetItem) (n : S) → f ≡ e → Steps o g (told f) n → h ≡ head (told e).values
    → Gives (make (head o.values) g) (make h n)
scanner-moved {F} told head make {o} f e h n m kept x =
    let y : h ≡ head o.values = x ∙ ap (λ (f : F). head (told f).values) (sym m) ∙ ap (λ (o : Outcome). head o.values) kept.answer in
    record { answer = ap (λ (k : Option SheetItem). make k n) y ∙ ap (make (head o.values)) kept.next }

-- of all items the first, and the rest of them from a place of the text on
pub record HeadFirst (all : List SheetItem) (len : ℕ) (h : Option SheetItem) (rest : List SheetItem) (pos : ℕ) : Type 0 where
  pub same : all ≡ headed h rest
  pub inside : pos ≤ len

-- within a text that is not too long, what was before a state is the head of its step, and what is before the state after it
module _ {S A : Type 0} {c : Scanner S A} {Lies : ℕ → ℕ → A → Type 0} (w : Lawful c Lies) (shown : A → SheetItem) (set : List Bool) (s : List ℕ) (short : length s ≤ 4294967295) where
  yields_head : (v : List ℕ) (n : S) → map shown (then_drain (λ k. items c k set s) (step_for c.back v n)) ≡ headed (head_by (λ l. shown (c.back l)) v) (map shown (items c n set s))
  yields_head [] n = refl
  yields_head (x ∷ l) n = refl

  scanner-first : (g : S) → (c.fields g).pos ≤ length s
      → HeadFirst (map shown (items c g set s)) (length s) (head_by (λ l. shown (c.back l)) (answer c g set s).values) (map shown (items c (state c g set s) set s)) (c.fields (state c g set s)).pos
  scanner-first g l =
      let o = answer c g set s in
      let n = state c g set s in
      let kept : Keeps c g set s o n = record { answer = refl; next = refl } in
      record { same = ap (map shown) (step_items w set s short g o n l kept) ∙ yields_head o.values n; inside = step_inside w set s short g o n l kept }

-- what a step found, a refusal counted as nothing, makes the head that its values make
module _ (K : Type 0) {A : Type 0} (r : ItemReading A) (shown : A → SheetItem) (reads : (a : A) (n : ItemIter K) → step_for r.back (r.values a) n ≡ yields a n) (set : List Bool) (s : List ℕ) (g : ItemIter K) where
  step_head : Step A (ItemIter K) → Option SheetItem
  step_head (yields a n) = Some (shown a)
  step_head (ends n) = None

  by_step : (v : List ℕ) → shown_head K r shown v ≡ step_head (step_for r.back v g)
  unfolding step_head
  by_step [] = refl
  by_step (x ∷ l) = refl

  shown_found : (e : Result (Option A) Refusal) (o : Option A) → o ≡ result_unwrap_or e None → option_map shown o ≡ shown_head K r shown (told_by r.values e).values
  unfolding step_head
  shown_found (Ok (Some i)) o q = rw q (sym (by_step (r.values i) ∙ ap step_head (reads i g)))
  shown_found (Ok None) o q = rw q
  shown_found (Err r) o q = rw q

  pub item-moved : (t : code.Step A (ItemIter K)) (h : Option SheetItem) → Keeps (scanner_of K r) g set s (told_by r.values t.found) t.next → (o : Option A) → o ≡ result_unwrap_or t.found None → h ≡ option_map shown o
      → Gives (after K r shown set s g) (record { head = h; rest = t.next })
  unfolding after
  item-moved t h kept o q x =
      scanner-moved (told_by r.values) (shown_head K r shown) (λ h n. record { head = h; rest = n }) t.found t.found h t.next refl kept (x ∙ shown_found t.found o q)

module _ (set : List Bool) (s : List ℕ) where
  mark-first : length s ≤ 4294967295 → (g : BlockMarkerIter) → g.pos ≤ length s → HeadFirst (mark_items_from g set s) (length s) (marks_after set s g).head (mark_items_from (marks_after set s g).rest set s) (marks_after set s g).rest.pos
  unfolding mark_items_from after
  mark-first = scanner-first marker_run.lawful marked set s

  number_first : length s ≤ 4294967295 → (g : BlockNumberedIter) → g.pos ≤ length s
      → HeadFirst (numbered_items_from g set s) (length s) (numbers_after set s g).head (numbered_items_from (numbers_after set s g).rest set s) (numbers_after set s g).rest.pos
  unfolding numbered_items_from after
  number_first = scanner-first numbered_run.lawful counted set s

-- ---- which is next
module _ (a b : Option SheetItem) (x y : SheetItem) where
  pub pick_number : a ≡ Some x → b ≡ Some y → y.start < x.start → Some (pick.Number y) ≡ picked a b
  pick_number e f h = rw (e, f, lt-ltb y.start x.start h)

  pub pick-mark : a ≡ Some x → b ≡ Some y → x.start ≤ y.start → Some (pick.Mark x) ≡ picked a b
  pick-mark e f h = rw (e, f, le-ltb y.start x.start h)

module _ (a b : Option SheetItem) (x : SheetItem) where
  pub pick_only_mark : a ≡ Some x → b ≡ None → Some (pick.Mark x) ≡ picked a b
  pick_only_mark e f = rw (e, f)

  pub pick_only_number : a ≡ None → b ≡ Some x → Some (pick.Number x) ≡ picked a b
  pick_only_number e f = rw (e, f)

pub pick_neither : (a b : Option SheetItem) → a ≡ None → b ≡ None → None ≡ picked a b
pick_neither a b e f = rw (e, f)

pub ruleset pick_rules = (pick_number, pick-mark, pick_only_mark, pick_only_number, pick_neither)

-- ---- the next item of both
module _ (x y : SheetItem) (xs ys : List SheetItem) where
  pub merge_number : ltb y.start x.start ≡ true → merge (x ∷ xs) (y ∷ ys) ≡ y ∷ merge (x ∷ xs) ys
  unfolding merge
  merge_number e = rw (e, merge)

  pub merge-mark : ltb y.start x.start ≡ false → merge (x ∷ xs) (y ∷ ys) ≡ x ∷ merge xs (y ∷ ys)
  unfolding merge
  merge-mark e = rw (e, merge)

merge_none : (xs : List SheetItem) → merge xs [] ≡ xs
unfolding merge
merge_none [] = refl
merge_none (x ∷ xs) = refl

-- what the items of both scanners have, they have in one list
pub each_merge : (P : SheetItem → Type 0) (xs ys : List SheetItem) → Each P xs → Each P ys → Each P (merge xs ys)
unfolding merge
each_merge P [] ys v w = w
each_merge P (x ∷ xs) [] v w = v
each_merge P (x ∷ xs) (y ∷ ys) v w = by (each_merge P (x ∷ xs) ys v w.1) (each_merge P xs (y ∷ ys) v.1 w) (decide (ltb y.start x.start))
  where
    by : Each P (merge (x ∷ xs) ys) → Each P (merge xs (y ∷ ys)) → (ltb y.start x.start ≡ true) ⊎ (ltb y.start x.start ≡ false) → Each P (merge (x ∷ xs) (y ∷ ys))
    by f g (inl u) = rw (merge_number x y xs ys u) (w.0, f)
    by f g (inr u) = rw (merge-mark x y xs ys u) (v.0, g)

-- what is picked is the first of the merged items
picks : Option Pick → List SheetItem → List SheetItem → List SheetItem → List SheetItem → List SheetItem
picks (Some (pick.Mark x)) xs xxs ys yys = x ∷ merge xs yys
picks (Some (pick.Number y)) xs xxs ys yys = y ∷ merge xxs ys
picks None xs xxs ys yys = []

merge_picks : (a b : Option SheetItem) (xs ys : List SheetItem) → merge (headed a xs) (headed b ys) ≡ picks (picked a b) xs (headed a xs) ys (headed b ys)
unfolding picks merge
merge_picks (Some x) (Some y) xs ys = by (decide (ltb y.start x.start))
  where
    by : (ltb y.start x.start ≡ true) ⊎ (ltb y.start x.start ≡ false) → merge (x ∷ xs) (y ∷ ys) ≡ picks (cond (ltb y.start x.start) (Some (pick.Number y)) (Some (pick.Mark x))) xs (x ∷ xs) ys (y ∷ ys)
    by (inl u) = merge_number x y xs ys u ∙ sym (rw u)
    by (inr u) = merge-mark x y xs ys u ∙ sym (rw u)
merge_picks (Some x) None xs ys = ap (λ (k : List SheetItem). x ∷ k) (sym (merge_none xs))
merge_picks None (Some y) xs ys = refl
merge_picks None None xs ys = refl

-- what is taken: the next of the items ahead, and the others
pub record Took (markers delims : List Bool) (s : List ℕ) (f : Feed) (t : Taken) : Type 0 where
  pub same : ahead markers delims s f ≡ headed t.head (ahead markers delims s t.rest)
  pub within : Within t.rest (length s)

module _ (markers delims : List Bool) (s : List ℕ) (f : Feed) where
  -- the ways out of the function that takes it
  pub take-mark : (p : Option Pick) (x : SheetItem) (m : ItemsAhead Marker) → p ≡ Some (pick.Mark x) → Gives (picked f.marks.head f.numbers.head) p → Gives (marks_after markers s f.marks.rest) m
      → Gives (taken markers delims s f) (record { head = Some x; rest = record { marks = m; numbers = f.numbers } })
  unfolding taken
  take-mark p x m e g w =
      let u : picked f.marks.head f.numbers.head ≡ Some (pick.Mark x) = sym g.answer ∙ e in
      record { answer = rw (u, w.answer) }

  pub take_number : (p : Option Pick) (y : SheetItem) (m : ItemsAhead Numbered) → p ≡ Some (pick.Number y) → Gives (picked f.marks.head f.numbers.head) p → Gives (numbers_after delims s f.numbers.rest) m
      → Gives (taken markers delims s f) (record { head = Some y; rest = record { marks = f.marks; numbers = m } })
  unfolding taken
  take_number p y m e g w =
      let u : picked f.marks.head f.numbers.head ≡ Some (pick.Number y) = sym g.answer ∙ e in
      record { answer = rw (u, w.answer) }

  pub take_none : (p : Option Pick) → p ≡ None → Gives (picked f.marks.head f.numbers.head) p → Gives (taken markers delims s f) (record { head = None; rest = f })
  unfolding taken
  take_none p e g =
      let u : picked f.marks.head f.numbers.head ≡ None = sym g.answer ∙ e in
      record { answer = rw u }

  -- by the head that is next: what both have before them
  by_pick : (p : Option Pick) → picked f.marks.head f.numbers.head ≡ p
      → ahead markers delims s f ≡ picks p (mark_items_from f.marks.rest markers s) (headed f.marks.head (mark_items_from f.marks.rest markers s)) (numbered_items_from f.numbers.rest delims s) (headed f.numbers.head (numbered_items_from f.numbers.rest delims s))
  unfolding ahead
  by_pick p e =
      let xs = mark_items_from f.marks.rest markers s in
      let ys = numbered_items_from f.numbers.rest delims s in
      merge_picks f.marks.head f.numbers.head xs ys ∙ ap (λ (k : Option Pick). picks k xs (headed f.marks.head xs) ys (headed f.numbers.head ys)) e

  took_by : (p : Option Pick) → picked f.marks.head f.numbers.head ≡ p → Within f (length s) → Took markers delims s f (taken_by markers delims s p f)
  unfolding ahead picks
  took_by (Some (pick.Mark x)) e w =
      let l = mark-first markers s w.short f.marks.rest w.marks in
      record {
        same = by_pick (Some (pick.Mark x)) e ∙ ap (λ (k : List SheetItem). x ∷ merge k (headed f.numbers.head (numbered_items_from f.numbers.rest delims s))) l.same;
        within = record { marks = l.inside; numbers = w.numbers; short = w.short };
      }
  took_by (Some (pick.Number y)) e w =
      let l = number_first delims s w.short f.numbers.rest w.numbers in
      record {
        same = by_pick (Some (pick.Number y)) e ∙ ap (λ (k : List SheetItem). y ∷ merge (headed f.marks.head (mark_items_from f.marks.rest markers s)) k) l.same;
        within = record { marks = w.marks; numbers = l.inside; short = w.short };
      }
  took_by None e w = record { same = by_pick None e; within = w }

  -- what is taken is the first of the items ahead
  pub took : (t : Taken) → Gives (taken markers delims s f) t → Within f (length s) → Took markers delims s f t
  unfolding taken
  took t g w = subst (Took markers delims s f) (sym g.answer) (took_by (picked f.marks.head f.numbers.head) refl w)

-- ---- the beginning
pub start_told : (g : Grammar) (markers delims : List Bool) (s : List ℕ) (a : BlockMarkerIter) (b : BlockNumberedIter) (m : ItemsAhead Marker) (n : ItemsAhead Numbered) → Gives (marker.fresh g.eol g.sep g.tab markers) a
    → Gives (numbered.fresh g.eol g.sep g.tab delims) b → Gives (marks_after markers s a) m → Gives (numbers_after delims s b) n → Gives (fresh_feed g markers delims s) (record { marks = m; numbers = n })
unfolding fresh_feed
start_told g markers delims s a b m n ga gb gm gn = record { answer = rw (gm.answer, gn.answer, ga.answer, gb.answer) }

-- all items are ahead
pub record Started (g : Grammar) (markers delims : List Bool) (s : List ℕ) (f : Feed) : Type 0 where
  pub same : ahead markers delims s f ≡ merge (mark_items g markers s) (numbered_items g delims s)
  pub within : Within f (length s)

pub started : (g : Grammar) (markers delims : List Bool) (s : List ℕ) (f : Feed) → length s ≤ 4294967295 → Gives (fresh_feed g markers delims s) f → Started g markers delims s f
unfolding fresh_feed ahead
started g markers delims s f short w =
    let a = mark-first markers s short (marker.fresh g.eol g.sep g.tab markers) (omega arith) in
    let b = number_first delims s short (numbered.fresh g.eol g.sep g.tab delims) (omega arith) in
    subst (Started g markers delims s) (sym w.answer)
    (record {
      same = ap (λ (k : List SheetItem). merge k (headed (fresh_feed g markers delims s).numbers.head (numbered_items_from (fresh_feed g markers delims s).numbers.rest delims s))) (sym a.same) ∙ ap (merge (mark_items g markers s)) (sym b.same);
      within = record { marks = a.inside; numbers = b.inside; short = short };
    })

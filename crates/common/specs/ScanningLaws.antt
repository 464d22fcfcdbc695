-- Laws of scanners of items that lead a line: the ways out of a scanner's functions, a step unfolded, and that stepping a state until none comes yields all items. Assumes nothing.
use Rattle.std.specs.Prelude.{◌≡◌, Bool, true, false, ◌⊎◌, ltb, leb, take}
use Rattle.std.proofs.Math.Path.{refl, sym, ap}
use Rattle.std.proofs.Common.{◌∙◌, inl, inr, arith, Fits, take_all, leb-true, le-leb, ltb-true, ltb-false}
use Rattle.std.proofs.Math.Bool.{cond}
use mathlib.Core.List.{List, [], ◌∷◌}
use Prim.Native.Nat.{ℕ, suc, ◌≤◌, ◌<◌}
use Rattle.std.specs.Int.{w32}
use Rattle.std.proofs.Math.ListN.{length}
use Rattle.search.specs.Promise.{Gives, Steps}
use Rattle.search.specs.Search.{find, after_line}
use Rattle.search.specs.SearchLaws.{decide}
use Rattle.common.specs.Sets.{probe, accepted}
use Rattle.common.specs.Refusals.{Outcome, given, refused, too_long, past}
use Rattle.common.specs.RefusalLaws.{told_unique}
use Rattle.common.specs.Turn.{Turn, stop, found, then_scan, then_collect, first_turn, all_found, step_of, then_drain, drain, yields}
use Rattle.common.specs.Turning.{Adv, Leads, OnFound, Finds}
use Rattle.common.specs.TurnLaws.{by_turn, by_last, last_fits, scan-turn, collect-scan, scan_ends, drain-answers, answers-take}
use Rattle.common.specs.Later.{Unled, Looked}
use Rattle.common.specs.Items.{ItemGrammar, grammar, has, line_bytes, line_found, read_turn, hit_turn, said, place_of, step_for}
use Rattle.common.specs.ItemLaws.{both, of_cond, needle_set, step_long, step_past, step_served, step_seen, step_taken}
use Rattle.common.specs.Scanning.{Fields, moved, unflagged, probed, by_needles, by_set, Scanner, fresh, at, flag_off, turn_by, turn, first, answer, state, Keeps, KeepsFrom, items, result, on_from, of_line, of_turn}
use Rattle.common.specs.declared.sets.Probe.{Probe}

-- ---- what the laws ask of a scanner; `Lies q n a` is what holds of an item a found between q and n
pub record Lawful {S A : Type 0} (c : Scanner S A) (Lies : ℕ → ℕ → A → Type 0) : Type 0 where
  pub of_made : (f : Fields) → c.fields (c.made f) ≡ f
  pub made_of : (g : S) → c.made (c.fields g) ≡ g
  pub reads : (a : A) (n : S) → step_for c.back (c.values a) n ≡ yields a n
  pub streams_on : (g : ItemGrammar) (s : List ℕ) → Adv Lies (c.streams g s) (length s)
  pub lines_on : (g : ItemGrammar) (s : List ℕ) → Adv Lies (c.lines g s) (length s)

-- ---- the ways out of `new`, `turn`, `first` and `next`
module _ {S A : Type 0} (c : Scanner S A) where
  pub fresh-told : (eol sep tab : ℕ) (set : List Bool) (p : Probe) → Gives (probe set) p → Gives (fresh c eol sep tab set) (c.made (probed eol sep tab p))
  fresh-told eol sep tab set p g = record { answer = ap (λ (p : Probe). c.made (probed eol sep tab p)) g.answer }

  module _ (g : S) (set : List Bool) (s : List ℕ) where
    module _ (q : ℕ) (t : Turn A) (eol sep tab lost : ℕ) where
      pub turn_stream : (c.fields g).streaming ≡ true → Looked eol sep tab s (c.streams (by_needles (c.fields g)) s q) t lost → Looked eol sep tab s (turn c g set s q) t lost
      unfolding turn
      turn_stream e w = record { turn = record { answer = rw e w.turn.answer }; left = w.left }

      pub turn-line : (c.fields g).streaming ≡ false → Unled eol sep tab s lost → Gives (c.lines (by_set (c.fields g) set) s q) t → Looked eol sep tab s (turn c g set s q) t lost
      unfolding turn
      turn-line e u w = record { turn = record { answer = rw e w.answer }; left = u }

    pub next_long : 4294967295 < length s → Keeps c g set s (refused 1) g
    unfolding answer state
    next_long h = step_long c.values (at c) g s (c.fields g).pos (first c g set s) h

    pub next_past : length s < (c.fields g).pos → length s ≤ 4294967295 → Keeps c g set s (refused 2) g
    unfolding answer state
    next_past l h = step_past c.values (at c) g s (c.fields g).pos (first c g set s) l h

  -- by what a `match` told of the code's value d of the scan's answer; `view` says which answer such a value stands for
  pub next-told : {D : Type 0} (view : D → Turn A) (g : S) (set : List Bool) (s : List ℕ) → (c.fields g).pos ≤ length s → length s ≤ 4294967295
      → (d e : D) (o : Outcome) (n : S) → d ≡ e → Gives (first c g set s) (view d) → o ≡ said c.values (view e) → Gives (at c g (place_of (view e))) n → Keeps c g set s o n
  unfolding answer state
  next-told view g set s l h = step_seen c.values (at c) g s (c.fields g).pos (first c g set s) l h view

  -- by the first turn that does not only go on
  module _ (g : S) (set : List Bool) (s : List ℕ) (l : (c.fields g).pos ≤ length s) (h : length s ≤ 4294967295) where
    served_by : (t : Turn A) (n : S) → t ≡ first_turn (turn c g set s) (length s) (c.fields g).pos → Gives (at c g (place_of t)) n → Keeps c g set s (said c.values t) n
    unfolding first
    served_by t n e = next-told (λ (t : Turn A). t) g set s l h t t (said c.values t) n refl (record { answer = e }) refl

    pub served_stop : (v : ℕ) (n : S) → stop v ≡ first_turn (turn c g set s) (length s) (c.fields g).pos → Gives (at c g v) n → Keeps c g set s (given []) n
    served_stop v = served_by (stop v)

    pub served_found : (a b : A) (m : ℕ) (n : S) → found a m ≡ first_turn (turn c g set s) (length s) (c.fields g).pos → b ≡ a → Gives (at c g m) n → Keeps c g set s (given (c.values b)) n
    served_found a b m n e f = served_by (found b m) n (ap (λ (a : A). found a m) f ∙ e)

-- ---- what a turn at q makes of a step: one that looks for the next accepted byte, and one that reads a line
module _ {S A : Type 0} (c : Scanner S A) (g : S) (set : List Bool) (s : List ℕ) where
  pub hit_unfolded : (r : ItemGrammar) (hit : ℕ → Turn A) (q : ℕ) {x : Outcome × S} → of_turn c g set s (hit (find r.accepts s q)) ≡ x
      → of_turn c g set s (hit_turn r hit s q) ≡ cond (ltb (find r.accepts s q) (length s)) x (given [], at c g q)
  hit_unfolded r hit q e = of_cond (of_turn c g set s) (ltb (find r.accepts s q) (length s)) _ _ ∙ rw e

  pub read-unfolded : (r : ItemGrammar) (line : ℕ → List ℕ → List A) (q : ℕ)
      → of_turn c g set s (read_turn r line s q) ≡ cond (ltb q (length s)) (of_line c g set s (line q (line_bytes r s q)) (after_line r.eol s q)) (given [], at c g q)
  unfolding read_turn
  read-unfolded r line q = of_cond (of_turn c g set s) (ltb q (length s)) _ _ ∙ rw (by (line q (line_bytes r s q)) (after_line r.eol s q))
    where
      by : (l : List A) (n : ℕ) → of_turn c g set s (line_found l n) ≡ of_line c g set s l n
      by [] n = refl
      by (a ∷ l) n = refl

-- what the turns of both scans find by every grammar, the turn finds that the state chooses
pub turn_finds : {S A : Type 0} (c : Scanner S A) (P : A → Type 0) (s : List ℕ) (q : ℕ) → ((r : ItemGrammar) → OnFound P (c.streams r s q)) → ((r : ItemGrammar) → OnFound P (c.lines r s q))
    → (g : S) (set : List Bool) → OnFound P (turn c g set s q)
unfolding turn
turn_finds {A = A} c P s q v w g set = both (λ (t : ℕ → Turn A). OnFound P (t q)) (c.fields g).streaming _ _ (λ u. v (by_needles (c.fields g))) (λ u. w (by_set (c.fields g) set))

-- two results that keep one promise of a step are equal, where `back` reads an answer back from what it says, and `make` makes a result
pub step_unique : {F S R : Type 0} (told : F → Outcome) (back : Outcome → F) → ((f : F) → back (told f) ≡ f) → (make : F → S → R) → {o : Outcome} {g : S} {f f' : F} {n n' : S}
    → Steps o g (told f) n → Steps o g (told f') n' → make f n ≡ make f' n'
step_unique {F} told back same make {o} {g} {f} {f'} {n} {n'} w w' =
    let x : f ≡ f' = told_unique told back same (record { answer = w.answer }) (record { answer = w'.answer }) in
    let y : n ≡ n' = w.next ∙ sym w'.next in
    ap (λ (f : F). make f n) x ∙ ap (make f') y

module _ {S A : Type 0} {c : Scanner S A} {Lies : ℕ → ℕ → A → Type 0} (w : Lawful c Lies) where
  -- ---- every turn moves on within the text
  pub turn_adv : (g : S) (set : List Bool) (s : List ℕ) → Adv Lies (turn c g set s) (length s)
  unfolding turn
  turn_adv g set s =
      both (λ t. Adv Lies t (length s)) (c.fields g).streaming _ _ (λ e. w.streams_on (by_needles (c.fields g)) s) (λ e. w.lines_on (by_set (c.fields g) set) s)

  -- so a value of what is found that lies there fits 32 bits
  pub found_fits : {D : Type 0} (view : D → Turn A) (value : A → ℕ) → ((q n : ℕ) (a : A) → Lies q n a → value a ≤ n) → (g : S) (set : List Bool) (s : List ℕ) (d e : D) (x : ℕ)
      → d ≡ e → Gives (first c g set s) (view d) → (c.fields g).pos ≤ length s → length s ≤ 4294967295 → Finds (λ a n. value a ≡ x) (view e) → Fits w32 x
  unfolding first
  found_fits view value lies g set s d e x f u h l m = last_fits Lies view value u.answer f m (turn_adv g set s) lies h l

  -- ---- a fresh state stands at the text's start, and a state at another place has but that place changed
  pub fresh_place : (eol sep tab : ℕ) (set : List Bool) → (c.fields (fresh c eol sep tab set)).pos ≡ 0
  fresh_place eol sep tab set = ap (λ (f : Fields). f.pos) (w.of_made (probed eol sep tab (probe set)))

  of_at : (g : S) (q : ℕ) → c.fields (at c g q) ≡ moved (c.fields g) q
  of_at g q = w.of_made (moved (c.fields g) q)

  at_at : (g : S) (q : ℕ) → at c (at c g q) ≡ at c g
  at_at g q = ap (λ (f : Fields). λ (n : ℕ). c.made (moved f n)) (of_at g q)

  module _ (set : List Bool) (s : List ℕ) where
    first-at : (g : S) (q : ℕ) → first c (at c g q) set s ≡ first_turn (turn c g set s) (length s) q
    unfolding first turn
    first-at g q = ap (λ (f : Fields). first_turn (turn_by c set s f) (length s) f.pos) (of_at g q)

    items_at : (g : S) (q : ℕ) → items c (at c g q) set s ≡ all_found (turn c g set s) (length s) q
    unfolding turn
    items_at g q = ap (λ (f : Fields). all_found (turn_by c set s f) (length s) f.pos) (of_at g q)

  -- ---- a step, by what its answer says and the state after it
  as_pair : (g : S) (set : List Bool) (s : List ℕ) {o : Outcome} {n : S} → Keeps c g set s o n → result c g set s ≡ (o, n)
  as_pair g set s {o} {n} kept = ap (λ (o : Outcome). (o, state c g set s)) (sym kept.answer) ∙ ap (λ (n : S). (o, n)) (sym kept.next)

  module _ (set : List Bool) (s : List ℕ) (short : length s ≤ 4294967295) where
    served : (g : S) (o : Outcome) (n : S) → (c.fields g).pos ≤ length s → Keeps c g set s o n → (o ≡ said c.values (first c g set s)) × (n ≡ at c g (place_of (first c g set s)))
    unfolding answer state
    served g o n h kept = step_served c.values (at c) g s (c.fields g).pos (first c g set s) h short kept

    step : (g : S) (o : Outcome) (n : S) → (c.fields g).pos ≤ length s → Keeps c g set s o n → step_for c.back o.values n ≡ step_of (at c g) (first c g set s)
    unfolding answer state
    step g o n h = step_taken c.values c.back w.reads (at c) g s (c.fields g).pos (first c g set s) h short o n

    -- what a step answers and leaves where it is served, by its scan's answer
    abbrev by_scan : S → Turn A → Outcome × S
    by_scan g t = (said c.values t, at c g (place_of t))

    serves : (g : S) → (c.fields g).pos ≤ length s → result c g set s ≡ by_scan g (first c g set s)
    serves g h =
        let v = served g (answer c g set s) (state c g set s) h (record { answer = refl; next = refl }) in
        as_pair g set s (record { answer = sym v.0; next = sym v.1 })

    -- and by the turn at the state's place
    serves_turn : (g : S) → (c.fields g).pos ≤ length s → result c g set s ≡ of_turn c g set s (turn c g set s (c.fields g).pos)
    unfolding first
    serves_turn g h =
        serves g h
        ∙ ap (by_scan g) (scan-turn (turn_adv g set s) (c.fields g).pos h)
        ∙ by_turn (turn_adv g set s) (λ t. by_scan g (then_scan (first_turn (turn c g set s) (length s)) t) ≡ of_turn c g set s t) (c.fields g).pos h (λ n m i. sym (onward n i)) (λ v m i. refl) (λ a n m i l. refl)
      where
        onward : (n : ℕ) → n ≤ length s → on_from c g set s n ≡ by_scan g (first_turn (turn c g set s) (length s) n)
        onward n i =
            serves (at c g n) (rw (of_at g n) i)
            ∙ ap (by_scan (at c g n)) (first-at set s g n)
            ∙ ap (λ (a : ℕ → S). (said c.values (first_turn (turn c g set s) (length s) n), a (place_of (first_turn (turn c g set s) (length s) n)))) (at_at g n)

    -- the items that a state's scan has before it are what a step yields, and those that the state after it has
    pub step_items : (g : S) (o : Outcome) (n : S) → (c.fields g).pos ≤ length s → Keeps c g set s o n → items c g set s ≡ then_drain (λ k. items c k set s) (step_for c.back o.values n)
    unfolding first
    step_items g o n h kept =
        let adv = turn_adv g set s in
        collect-scan adv (suc (length s)) (c.fields g).pos h (omega arith)
        ∙ by_last adv (λ t. then_collect (all_found (turn c g set s) (length s)) t ≡ then_drain (λ k. items c k set s) (step_of (at c g) t)) (c.fields g).pos h (λ v. refl)
        (λ a m i. ap (λ (l : List A). a ∷ l) (sym (items_at set s g m)))
        ∙ sym (ap (then_drain (λ k. items c k set s)) (step g o n h kept))

    -- and that state stands within the text
    pub step_inside : (g : S) (o : Outcome) (n : S) → (c.fields g).pos ≤ length s → Keeps c g set s o n → (c.fields n).pos ≤ length s
    unfolding first
    step_inside g o n h kept =
        rw ((served g o n h kept).1, of_at g (place_of (first c g set s)))
        (scan_ends (turn c g set s) (λ q. q ≤ length s) (λ t. place_of t ≤ length s)
        (λ q i. by_turn (turn_adv g set s) (Leads (λ q. q ≤ length s) (λ t. place_of t ≤ length s)) q i (λ n m j. j) (λ v m j. j) (λ a n m j w. j)) (λ q i. i) (suc (length s)) (c.fields g).pos h)

    -- ---- the run, of every function that keeps the promise of a step: `says` is what its answer says, `next` the state after it
    module _ (g : S) (says : S → Outcome) (next : S → S) (keeps : KeepsFrom c g set s says next) where
      -- the first n steps yield the first n of the items that the state's scan has before it
      pub run : (n : ℕ) → (c.fields g).pos ≤ length s → drain (λ k. step_for c.back (says k).values (next k)) n g ≡ take n (items c g set s)
      run n h =
          let adv = turn_adv g set s in
          ap (drain (λ k. step_for c.back (says k).values (next k)) n) (sym (w.made_of g))
          ∙ drain-answers adv (λ k. step_for c.back (says k).values (next k)) (at c g) each n (c.fields g).pos h
          ∙ answers-take adv n (c.fields g).pos h
        where
          each : (q : ℕ) → q ≤ length s → step_for c.back (says (at c g q)).values (next (at c g q)) ≡ step_of (at c g) (first_turn (turn c g set s) (length s) q)
          each q i =
              step (at c g q) (says (at c g q)) (next (at c g q)) (rw (of_at g q) i) (keeps q i)
              ∙ ap (λ (a : ℕ → S). step_of a (first c (at c g q) set s)) (at_at g q)
              ∙ ap (step_of (at c g)) (first-at set s g q)

      -- enough steps yield them all
      pub run_all : (n : ℕ) → (c.fields g).pos ≤ length s → length (items c g set s) ≤ n → drain (λ k. step_for c.back (says k).values (next k)) n g ≡ items c g set s
      run_all n h l = run n h ∙ take_all n (items c g set s) l

  -- ---- a step in one place: "For a scanner: 1, 2."; else, as the flag decides, what the turn of a scan at the state's place makes of it
  module _ (g : S) (set : List Bool) (s : List ℕ) where
    pub step_unfolded : {x y : Outcome × S} → of_turn c g set s (c.streams (by_needles (c.fields g)) s (c.fields g).pos) ≡ x → of_turn c g set s (c.lines (by_set (c.fields g) set) s (c.fields g).pos) ≡ y
        → result c g set s ≡ cond (too_long s) (refused 1, g) (cond (past s (c.fields g).pos) (refused 2, g) (cond (c.fields g).streaming x y))
    unfolding turn
    step_unfolded {x} {y} e f =
        by (decide (too_long s)) (decide (past s (c.fields g).pos))
        ∙ ap (λ (r : Outcome × S). cond (too_long s) (refused 1, g) (cond (past s (c.fields g).pos) (refused 2, g) r))
        (of_cond (λ (t : ℕ → Turn A). of_turn c g set s (t (c.fields g).pos)) (c.fields g).streaming _ _ ∙ rw (e, f))
      where
        by : (too_long s ≡ true) ⊎ (too_long s ≡ false) → (past s (c.fields g).pos ≡ true) ⊎ (past s (c.fields g).pos ≡ false)
            → result c g set s ≡ cond (too_long s) (refused 1, g) (cond (past s (c.fields g).pos) (refused 2, g) (of_turn c g set s (turn c g set s (c.fields g).pos)))
        by (inl u) v = as_pair g set s (next_long c g set s (ltb-true 4294967295 (length s) u)) ∙ simp u
        by (inr u) (inl v) = as_pair g set s (next_past c g set s (ltb-true (length s) (c.fields g).pos v) (ltb-false 4294967295 (length s) u)) ∙ simp (u, v)
        by (inr u) (inr v) = serves_turn set s (ltb-false 4294967295 (length s) u) g (ltb-false (length s) (c.fields g).pos v) ∙ simp (u, v)

  -- ---- a fresh state, by what both scans find from place 0
  -- "With up to three accepted bytes the streaming scan is used"
  pub fresh_streams : (eol sep tab : ℕ) (set : List Bool) → length (accepted set) ≤ 3 → (c.fields (fresh c eol sep tab set)).streaming ≡ true
  fresh_streams eol sep tab set h = ap (λ (f : Fields). f.streaming) (w.of_made (probed eol sep tab (probe set))) ∙ le-leb (length (accepted set)) 3 h

  module _ (set : List Bool) (s : List ℕ) (eol sep tab : ℕ) (size : length set ≡ 256) (all : List A)
      (streamed : length (accepted set) ≤ 3 → all_found (c.streams (grammar eol sep tab (has set)) s) (length s) 0 ≡ all)
      (lined : all_found (c.lines (grammar eol sep tab (has set)) s) (length s) 0 ≡ all) where
    -- by the needles of at most three accepted bytes
    by_needles_lem : length (accepted set) ≤ 3 → all_found (c.streams (by_needles (probed eol sep tab (probe set))) s) (length s) 0 ≡ all
    by_needles_lem h = ap (λ (t : ℕ → Bool). all_found (c.streams (grammar eol sep tab t) s) (length s) 0) (needle_set set (omega arith) h) ∙ streamed h

    pub fresh-items : items c (fresh c eol sep tab set) set s ≡ all
    unfolding turn
    fresh-items =
        ap (λ (f : Fields). all_found (turn_by c set s f) (length s) f.pos) (w.of_made (probed eol sep tab (probe set)))
        ∙ both (λ t. all_found t (length s) 0 ≡ all) (leb (length (accepted set)) 3) _ _ (λ e. by_needles_lem (leb-true (length (accepted set)) 3 e)) (λ e. lined)

    -- with its flag off it has the same
    off_fields : c.fields (flag_off c (fresh c eol sep tab set)) ≡ unflagged (probed eol sep tab (probe set))
    off_fields = w.of_made (unflagged (c.fields (fresh c eol sep tab set))) ∙ ap unflagged (w.of_made (probed eol sep tab (probe set)))

    off_items : items c (flag_off c (fresh c eol sep tab set)) set s ≡ all
    unfolding turn
    off_items = ap (λ (f : Fields). all_found (turn_by c set s f) (length s) f.pos) off_fields ∙ lined

    -- so every function that keeps the promise of a step yields them one by one, and none when there is none left
    module _ (short : length s ≤ 4294967295) (says : S → Outcome) (next : S → S) where
      pub fresh_run : KeepsFrom c (fresh c eol sep tab set) set s says next → (n : ℕ) → drain (λ k. step_for c.back (says k).values (next k)) n (fresh c eol sep tab set) ≡ take n all
      fresh_run keeps n = run set s short (fresh c eol sep tab set) says next keeps n (omega (arith, fresh_place eol sep tab set)) ∙ ap (take n) fresh-items

      off_run : KeepsFrom c (flag_off c (fresh c eol sep tab set)) set s says next → (n : ℕ) → drain (λ k. step_for c.back (says k).values (next k)) n (flag_off c (fresh c eol sep tab set)) ≡ take n all
      off_run keeps n = run set s short (flag_off c (fresh c eol sep tab set)) says next keeps n (omega (arith, ap (λ (f : Fields). f.pos) off_fields)) ∙ ap (take n) off_items

      -- "the streaming and line scans are proved to yield the same items in the same order"
      pub same_run : KeepsFrom c (fresh c eol sep tab set) set s says next → KeepsFrom c (flag_off c (fresh c eol sep tab set)) set s says next
          → (n : ℕ) → drain (λ k. step_for c.back (says k).values (next k)) n (fresh c eol sep tab set) ≡ drain (λ k. step_for c.back (says k).values (next k)) n (flag_off c (fresh c eol sep tab set))
      same_run keeps keeps' n = fresh_run keeps n ∙ sym (off_run keeps' n)

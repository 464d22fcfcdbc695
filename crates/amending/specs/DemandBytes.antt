-- Mission demand 3 in bytes: a list amended in bytes is the one that building the edited text in bytes leaves. Assumes nothing.
-- The mission: "Replacing the stretch between two joints of a text, the kept regions, the new bytes' own and the moved ones are exactly those
-- of the edited text built afresh."
use Rattle.std.specs.Prelude.{◌≡◌, refl, not, List, [], ◌∷◌, ℕ, ◌+◌, ◌*◌, ◌/◌, ◌≤◌, length, Ok}
use Rattle.std.proofs.Math.Path.{sym, ap}
use Rattle.std.proofs.Common.{subst, ◌∙◌, arith}
use Rattle.std.proofs.Math.Bool.{false}
use Rattle.std.proofs.Math.Dec.{ltb}
use Rattle.std.proofs.lemmas.List.{length-map}
use borrow.Author.Tests.{le-ltb, eq-eqb, eqb-true, not-false}
use Rattle.search.specs.SearchLaws.{neither}
use Rattle.common.specs.Entry.{flatten, over, wide}
use Rattle.common.specs.EntryLaws.{flatten-map}
use Rattle.common.specs.Lists.{crowded, build_answer}
use Rattle.common.specs.Refusals.{Outcome, given, told, differ}
use Rattle.common.specs.declared.grammar.Grammar.{Grammar}
use Rattle.region.specs.Region.{Caused, Listed, as_listed}
use Rattle.region.specs.Regions.{built_by}
use Rattle.rules.specs.Columns.{unequal, gram_of}
use Rattle.context.specs.Build.{built_answer, built_list, Built}
use Rattle.cells.specs.Bytes.{cells, fourfold, row_bytes}
use Rattle.cells.specs.CellLaws.{length-cells}
use Rattle.rules.specs.ByteRules.{ColumnRuns, uneven_columns, columns_in}
use Rattle.cells.specs.Reply.{written, fitted, answered}
use Rattle.cells.specs.ReplyLaws.{enough}
use Rattle.cells.specs.BackLaws.{reply_served}
use Rattle.cells.specs.Poured.{ListRuns, Poured}
use Rattle.pour.specs.Building.{region_bytes, BuiltBytes}
use Rattle.pour.specs.BackLaws.{room_back, built_passed, built_back}
use Rattle.amend.specs.Amend.{Edit}
use Rattle.amend.specs.Amended.{list_regions, regions_in, edited, amended_list, amend_answer}
use Rattle.amend.specs.RowLaws.{listed_length}
use Rattle.amend.specs.AmendedLaws.{amended_regions-few}
use Rattle.amend.specs.Theorem.{HoldsRegions, built_holds, Accepted, accepted_by, counted_by, same}
use Rattle.amend.specs.DemandThree.{Conditions, region_count}
use Rattle.amend.specs.Serves.{amend_serves_by}
use Rattle.amending.specs.Amending.{listed_bytes, AmendedBytes}

-- ---- of a list that holds the old text's regions
-- the regions of the edited text
abbrev afresh : Grammar → ColumnRuns → List ℕ → Edit → List Caused
afresh g c old e = built_by g (columns_in c) (edited e old)

module _ (g : Grammar) (c : ColumnRuns) (old l : List ℕ) (n : ℕ) (e : Edit) (before after : ListRuns) (holds : HoldsRegions g (columns_in c) old (cells l) n) (w : AmendedBytes g c old l n e before after 0) where
  counted : given (length (amended_list g (columns_in c) old (cells l) n e) ∷ []) ≡ amend_answer g (columns_in c) old (cells l) n e row_bytes (uneven_columns c) before.list
  counted =
      let o = amend_answer g (columns_in c) old (cells l) n e row_bytes (uneven_columns c) before.list in
      counted_by row_bytes (uneven_columns c) g (columns_in c) old (cells l) n e before.list (reply_served o before.answer (sym w.reply.number)).1

  tested : Accepted row_bytes (uneven_columns c) g (columns_in c) old (cells l) n e before.list (length (amended_list g (columns_in c) old (cells l) n e))
  tested = accepted_by row_bytes (uneven_columns c) g (columns_in c) old (cells l) n e before.list _ counted

  alike : amended_list g (columns_in c) old (cells l) n e ≡ list_regions (gram_of g (columns_in c)) (edited e old)
  alike = same g (columns_in c) old (cells l) n e tested.meets holds

  size : length (amended_list g (columns_in c) old (cells l) n e) ≡ length (afresh g c old e)
  size = ap length alike ∙ length-map (afresh g c old e) as_listed

  bytes : flatten listed_bytes (amended_list g (columns_in c) old (cells l) n e) ≡ flatten region_bytes (afresh g c old e)
  bytes = ap (flatten listed_bytes) alike ∙ flatten-map listed_bytes as_listed (afresh g c old e)

  built : build_answer row_bytes (uneven_columns c) (afresh g c old e) (edited e old) before.list ≡ given (length (afresh g c old e) ∷ [])
  unfolding build_answer
  built =
      let fits : crowded row_bytes (afresh g c old e) before.list ≡ false = ap (ltb (length before.list / row_bytes)) (sym size) ∙ tested.fits in
      simp (tested.short, tested.equal, fits)

  -- the promise with its answer and its list told
  served : Poured (given (length (afresh g c old e) ∷ [])) (flatten region_bytes (afresh g c old e)) before after 0
  served =
      subst (λ (x : Outcome). Poured x (flatten region_bytes (afresh g c old e)) before after 0) (sym counted ∙ ap (λ (k : ℕ). given (k ∷ [])) size)
      (subst (λ (z : List ℕ). Poured (amend_answer g (columns_in c) old (cells l) n e row_bytes (uneven_columns c) before.list) z before after 0) bytes w)

  -- an amendment that returns 0 has kept the promise of building the edited text
  pub amend_builds : BuiltBytes g c (edited e old) before after 0
  amend_builds = subst (λ (x : Outcome). Poured x (flatten region_bytes (afresh g c old e)) before after 0) (sym built) served

  -- it has left the bytes of the edited text's regions over the front of the list
  pub amended_list_lem : after.list ≡ over (flatten region_bytes (built_by g (columns_in c) (edited e old))) before.list
  amended_list_lem = served.left ∙ rw (reply_served (given (length (afresh g c old e) ∷ [])) before.answer (sym served.reply.number)).0

  -- and their count in the answer run
  pub amended_count : after.answer ≡ over (written (length (built_by g (columns_in c) (edited e old)) ∷ [])) before.answer
  unfolding answered
  amended_count = served.reply.list ∙ rw (reply_served (given (length (afresh g c old e) ∷ [])) before.answer (sym served.reply.number)).0

-- ---- of a list that building left
-- columns that are even in bytes are equal in numbers
even_equal : (c : ColumnRuns) → uneven_columns c ≡ false → unequal (columns_in c) ≡ false
unfolding columns_in
even_equal c h =
    let i = c.inline in
    let a = neither (differ c.fence_bytes c.fence_mins) _ h in
    let b = neither (not (fourfold i.sym_counts i.sym_bytes)) _ a.1 in
    let d = neither (differ i.openers i.closers) _ b.1 in
    let x = eqb-true (length i.sym_counts) (length i.sym_bytes * 4) (not-false _ b.0) in
    let y = eqb-true (length i.open_counts) (length i.openers * 4) (not-false _ d.1) in
    rw (
      a.0,
      eq-eqb (length i.sym_bytes) (length (cells i.sym_counts)) (omega (arith, x, length-cells i.sym_counts)),
      d.0,
      eq-eqb (length i.openers) (length (cells i.open_counts)) (omega (arith, y, length-cells i.open_counts)),
    )

module _ (g : Grammar) (c : ColumnRuns) (s : List ℕ) (before after : ListRuns) (w : BuiltBytes g c s before after 0) where
  -- building in bytes that returns 0 has, read as numbers, kept the promise of building
  pub built_numbers : Built g (columns_in c) s (cells before.list) (cells after.list) (told (Ok (length (built_by g (columns_in c) s))))
  unfolding built_answer built_list build_answer
  built_numbers =
      let p = built_passed (built_by g (columns_in c) s) (uneven_columns c) s before after w in
      let short = le-ltb 4294967295 (length s) p.0 in
      let even = even_equal c p.1 in
      let fits : crowded wide (built_by g (columns_in c) s) (cells before.list) ≡ false = ap (λ (k : ℕ). ltb k (length (built_by g (columns_in c) s))) (sym (room_back before.list)) ∙ p.2 in
      record { answer = sym (simp (short, even, fits)); list = built_back (gram_of g (columns_in c)) (uneven_columns c) s before after w ∙ simp (short, even, fits) }

-- build the old text in bytes, and amend the list that was left: where this returns 0, it has kept the promise of building the edited text
pub built_amended : (g : Grammar) (c : ColumnRuns) (old : List ℕ) (e : Edit) (blank built before after : ListRuns) → BuiltBytes g c old blank built 0
    → AmendedBytes g c old built.list (region_count g (columns_in c) old) e before after 0 → BuiltBytes g c (edited e old) before after 0
built_amended g c old e blank built before after b w = amend_builds g c old built.list (region_count g (columns_in c) old) e before after (built_holds (built_numbers g c old blank built b)) w

-- The same with no acceptance assumed: where the edit meets the conditions with the old text's regions, and there is room for the edited text's and
-- for the count, the amendment returns 0.
pub demand_three_bytes : (g : Grammar) (c : ColumnRuns) (old : List ℕ) (e : Edit) (blank built before after : ListRuns) (r : ℕ) → BuiltBytes g c old blank built 0
    → Conditions g (columns_in c) old (list_regions (gram_of g (columns_in c)) old) e
    → region_count g (columns_in c) (edited e old) ≤ length before.list / row_bytes
    → 8 ≤ length before.answer
    → AmendedBytes g c old built.list (region_count g (columns_in c) old) e before after r
    → (r ≡ 0) × BuiltBytes g c (edited e old) before after 0
unfolding fitted
demand_three_bytes g c old e blank built before after r b w room long a =
    let n = region_count g (columns_in c) old in
    let k = region_count g (columns_in c) (edited e old) in
    let o = amend_answer g (columns_in c) old (cells built.list) n e row_bytes (uneven_columns c) before.list in
    let h = built_numbers g c old blank built b in
    let w' : Conditions g (columns_in c) old (regions_in n (cells built.list)) e = subst (λ (x : List Listed). Conditions g (columns_in c) old x e) (sym (built_holds h)) w in
    let served : o ≡ given (k ∷ []) = amend_serves_by h w' row_bytes (uneven_columns c) before.list (built_passed (built_by g (columns_in c) old) (uneven_columns c) old blank built b).1 room in
    let zero : r ≡ 0 = a.reply.number ∙ simp (served, enough (k ∷ []) before.answer (length before.answer / 4) (record { answer = refl }) (omega arith)) in
    (zero, built_amended g c old e blank built before after b (subst (λ (x : ℕ). AmendedBytes g c old built.list n e before after x) zero a))

-- ---- how many regions
-- an amended list has at most the old list's n regions and the replacement's own
pub amended_few : (g : Grammar) (c : ColumnRuns) (s l : List ℕ) (n : ℕ) (e : Edit) → e.first ≤ e.second → length (amended_list g (columns_in c) s (cells l) n e) ≤ n + region_count g (columns_in c) e.text
amended_few g c s l n e h =
    let build = list_regions (gram_of g (columns_in c)) in
    omega (arith, amended_regions-few build (length s) e (regions_in n (cells l)) h, listed_length n (cells l), length-map (built_by g (columns_in c) e.text) as_listed)

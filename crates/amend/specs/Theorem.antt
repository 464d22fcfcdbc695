-- Mission demand 3, of the promises that the code keeps: where a list holds the regions of the old text and an amendment accepts, it leaves the list that building the edited text afresh leaves. Assumes nothing.
-- The page: "mission demand 3 adds that the old list was built from the old text, by the grammar and rules the amendment is given".
use Rattle.std.specs.Prelude.{◌≡◌, refl, Bool, true, ◌&&◌, ◌⊎◌, ℕ, ◌+◌, ◌-◌, ◌*◌, ◌≤◌, ◌<◌, ltb, drop, Ok, Result}
use Rattle.std.proofs.Math.Path.{sym, ap, subst}
use Rattle.std.proofs.Common.{◌∙◌, inl, inr, length-drop}
use Rattle.std.proofs.Math.Bool.{false, not}
use mathlib.Core.List.{List, [], ◌∷◌, ◌++◌, map}
use native.Mathlib.Omega.{arith}
use Rattle.std.proofs.Math.ListN.{length, get_or, length-append, get_or-append}
use Rattle.std.proofs.lemmas.List.{length-map}
use borrow.Author.Tests.{le-ltb, ltb-false, not-false}
use Rattle.search.specs.SearchLaws.{decide, neither}
use Rattle.common.specs.Entry.{flatten, rows, room, over, wide, overfull}
use Rattle.common.specs.EntryLaws.{length-flatten, rows-flatten, fits_room, holds-shaped, flatten-map}
use Rattle.common.specs.Refusals.{Outcome, given, refuse, too_long, past, told}
use Rattle.common.specs.RefusalLaws.{answer_unique}
use Rattle.common.specs.declared.grammar.Grammar.{Grammar}
use Rattle.region.specs.Region.{Caused, up, keep_before, InOrder, Listed, tag_of, as_listed, row, unrow, row_of}
use Rattle.region.specs.Regions.{regions}
use Rattle.rules.specs.Columns.{Columns, gram_of}
use Rattle.region.specs.Ahead.{regions_in_order, regions-shaped}
use Rattle.rules.specs.Columns.{unequal}
use Rattle.context.specs.Build.{built_answer, built_list, Built}
use Rattle.amend.specs.Amend.{Edit, joint}
use Rattle.amend.specs.Several.{Fits, none, last, next}
use Rattle.cover.specs.Shape.{misshapen}
use Rattle.common.specs.Lists.{crowded, build_answer}
use Rattle.amend.specs.Amended.{regions_in, list_regions, edited, amended_regions, uses_line_end, off_joint, left_open, amended_list, settled_answer, amend_answer, amended_answer, Amended}
use Rattle.amend.specs.Starts.{unless_end}
use Rattle.amend.specs.Edits.{relist_one}
use Rattle.amend.specs.JudgeLaws.{number_given, refuse_pass}
use Rattle.amend.specs.AmendedLaws.{judged-passed}
use Rattle.region.specs.LoopLaws.{row-wide}
use Rattle.amend.specs.Lists.{retag_order}
use Rattle.amend.specs.Demand.{demand_columns}
use Rattle.common.specs.declared.refusal.Refusal.{Refusal}

-- a list whose first n regions are those of a text, by a grammar and rules
abbrev pub HoldsRegions : Grammar → Columns → List ℕ → List ℕ → ℕ → Type 0
HoldsRegions g c s l n = regions_in n l ≡ list_regions (gram_of g c) s

-- ---- what building leaves
row_says : (l : List Caused) → map unrow (map row_of l) ≡ map as_listed l
row_says [] = refl
row_says (r ∷ l) = ap (λ (z : List Listed). as_listed r ∷ z) (row_says l)

pub listed_flatten : (l : List Caused) (rest : List ℕ) → regions_in (length l) (flatten row_of l ++ rest) ≡ map as_listed l
unfolding regions_in
listed_flatten l rest = ap (map unrow) (rows-flatten row_of wide row-wide l rest) ∙ row_says l

-- what building has tested and left where it answered a count
pub record BuiltLeft (g : Grammar) (c : Columns) (s out l : List ℕ) (n : ℕ) : Type 0 where
  pub short : too_long s ≡ false
  pub equal : unequal c ≡ false
  pub fits : n ≤ room wide out
  pub count : length (regions (gram_of g c) s) ≡ n
  pub left : l ≡ over (flatten row_of (regions (gram_of g c) s)) out

module _ {g : Grammar} {c : Columns} {s out l : List ℕ} {n : ℕ} (b : Built g c s out l (told (Ok n))) where
  pub built_told : BuiltLeft g c s out l n
  unfolding built_answer build_answer built_list
  built_told =
      let R = regions (gram_of g c) s in
      let p = refuse_pass 0 (too_long s) (refuse 6 (unequal c) (refuse 3 (crowded wide R out) (given (length R ∷ [])))) (n ∷ []) (sym b.answer) in
      let q = refuse_pass 5 (unequal c) (refuse 3 (crowded wide R out) (given (length R ∷ []))) (n ∷ []) p.1 in
      let w = refuse_pass 2 (crowded wide R out) (given (length R ∷ [])) (n ∷ []) q.1 in
      let size : length R ≡ n = ap (λ (o : Outcome). get_or o.values 0 0) w.1 in
      record {
        short = p.0;
        equal = q.0;
        fits = omega (arith, size, ltb-false (room wide out) (length R) w.0);
        count = size;
        left = b.list ∙ simp (p.0, q.0, w.0);
      }

  -- the list that building leaves holds the regions of its text
  pub built_holds : HoldsRegions g c s l n
  built_holds =
      let R = regions (gram_of g c) s in
      let w = built_told in
      ap (λ (m : ℕ). regions_in m l) (sym w.count) ∙ ap (regions_in (length R)) w.left ∙ listed_flatten R (drop (length (flatten row_of R)) out)

  -- it has room for them, and they are in order within the text
  pub built_shaped : misshapen l n (length s) ≡ false
  unfolding misshapen
  built_shaped =
      let R = regions (gram_of g c) s in
      let w = built_told in
      let size : length (flatten row_of R) ≡ length R * wide = length-flatten row_of wide row-wide R in
      let long : length l ≡ length (flatten row_of R) + (length out - length (flatten row_of R)) = ap length w.left ∙ length-append (flatten row_of R) (drop (length (flatten row_of R)) out) ∙ ap (λ (m : ℕ). length (flatten row_of R) + m) (length-drop (length (flatten row_of R)) out) in
      let fits : overfull wide l n ≡ false = le-ltb (room wide l) n (fits_room wide n l (omega arith) (omega (arith, size, long, w.count))) in
      let same : rows wide n l ≡ map row_of R = ap (λ (m : ℕ). rows wide m l) (sym w.count) ∙ ap (rows wide (length R)) w.left ∙ rows-flatten row_of wide row-wide R (drop (length (flatten row_of R)) out) in
      rw (fits, same, holds-shaped 0 (length s) (map row_of R) (regions-shaped (gram_of g c) s))

-- ---- what an amendment that accepts has tested
-- the cuts, the marks and the replacement's end
pub record Admitted (g : Grammar) (c : Columns) (s l : List ℕ) (n : ℕ) (e : Edit) : Type 0 where
  pub cuts : (e.first ≤ e.second) × (e.second ≤ length s)
  pub free : uses_line_end g c ≡ false
  pub joints : off_joint g.eol s (regions_in n l) e.first e.second ≡ false
  pub shut : left_open g.eol (list_regions (gram_of g c)) (length s) e ≡ false

-- all of it, where a region has w numbers of the list that is left, and columns may differ
pub record Accepted (w : ℕ) (differing : Bool) (g : Grammar) (c : Columns) (s l : List ℕ) (n : ℕ) (e : Edit) (out : List ℕ) (k : ℕ) : Type 0 where
  pub equal : differing ≡ false
  pub short : too_long (edited e s) ≡ false
  pub meets : Admitted g c s l n e
  pub fits : crowded w (amended_list g c s l n e) out ≡ false
  pub count : k ≡ length (amended_list g c s l n e)

pub accepted_by : (w : ℕ) (differing : Bool) (g : Grammar) (c : Columns) (s l : List ℕ) (n : ℕ) (e : Edit) (out : List ℕ) (k : ℕ) → given (k ∷ []) ≡ amend_answer g c s l n e w differing out
    → Accepted w differing g c s l n e out k
unfolding amend_answer settled_answer
accepted_by w differing g c s l n e out k served =
    let v = k ∷ [] in
    let p = judged-passed g.eol s l n e differing (uses_line_end g c) _ v (sym served) in
    let p8 = refuse_pass 7 (left_open g.eol (list_regions (gram_of g c)) (length s) e) _ v p.7 in
    let p3 = refuse_pass 2 (crowded w (amended_list g c s l n e) out) _ v p8.1 in
    let m = neither (ltb e.second e.first) (past s e.second) p.2 in
    record {
      equal = p.1;
      short = p.3;
      meets = record { cuts = (ltb-false e.second e.first m.0, ltb-false (length s) e.second m.1); free = p.5; joints = p.6; shut = p8.0 };
      fits = p3.0;
      count = ap (λ (o : Outcome). get_or o.values 0 0) (sym p3.1);
    }

-- an amendment that is served answers the count
pub counted_by : (w : ℕ) (differing : Bool) (g : Grammar) (c : Columns) (s l : List ℕ) (n : ℕ) (e : Edit) (out : List ℕ) → (amend_answer g c s l n e w differing out).number ≡ 0
    → given (length (amended_list g c s l n e) ∷ []) ≡ amend_answer g c s l n e w differing out
unfolding amend_answer settled_answer
counted_by w differing g c s l n e out h =
    let o = amend_answer g c s l n e w differing out in
    let z : o ≡ given o.values = number_given o h in
    let p = judged-passed g.eol s l n e differing (uses_line_end g c) _ o.values z in
    let p8 = refuse_pass 7 (left_open g.eol (list_regions (gram_of g c)) (length s) e) _ o.values p.7 in
    let p3 = refuse_pass 2 (crowded w (amended_list g c s l n e) out) _ o.values p8.1 in
    p3.1 ∙ sym z

pub accepted-told : (g : Grammar) (c : Columns) (s l : List ℕ) (n : ℕ) (e : Edit) (out : List ℕ) (k : ℕ) → given (k ∷ []) ≡ amended_answer g c s l n e out → Accepted wide (unequal c) g c s l n e out k
unfolding amended_answer
accepted-told g c s l n e out k served = accepted_by wide (unequal c) g c s l n e out k served

-- ---- so the edit fits the joint theorem
module _ (g : Grammar) (c : Columns) (s l : List ℕ) (n : ℕ) (e : Edit) (a : Admitted g c s l n e) (holds : HoldsRegions g c s l n) where
  both : (joint g.eol s (list_regions (gram_of g c) s) e.first ≡ true) × ((ltb e.second (length s) && not (joint g.eol s (list_regions (gram_of g c) s) e.second)) ≡ false)
  unfolding off_joint
  both =
      let w = neither (not (joint g.eol s (regions_in n l) e.first)) _ a.joints in
      (subst (λ (z : List Listed). joint g.eol s z e.first ≡ true) holds (not-false _ w.0), subst (λ (z : List Listed). (ltb e.second (length s) && not (joint g.eol s z e.second)) ≡ false) holds w.1)

  fitting : Fits g.eol (list_regions (gram_of g c)) s 0 (e ∷ [])
  unfolding left_open joint
  fitting = by (decide (ltb e.second (length s)))
    where
      by : (ltb e.second (length s) ≡ true) ⊎ (ltb e.second (length s) ≡ false) → Fits g.eol (list_regions (gram_of g c)) s 0 (e ∷ [])
      by (inl u) = next {q = 0} e [] (omega arith) both.0 a.cuts.0 (not-false _ (rw u at both.1)) (not-false _ (rw u at a.shut)) none
      by (inr u) = last {q = 0} e (omega arith) both.0 (omega (arith, ltb-false e.second (length s) u, a.cuts.1))

  ordered : InOrder 0 (length s) (list_regions (gram_of g c) s)
  ordered = retag_order tag_of 0 (length s) (regions (gram_of g c) s) (regions_in_order (gram_of g c) s)

  -- the regions asked for are those of the edited text
  pub same : amended_list g c s l n e ≡ list_regions (gram_of g c) (edited e s)
  unfolding amended_regions
  same =
      let build = list_regions (gram_of g c) in
      let y : e.first - 0 ≡ e.first = omega arith in
      ap (amended_regions build (length s) e) holds
      ∙ ap (λ (z : List Listed). keep_before e.first (build s) ++ (up e.first (build e.text) ++ z)) (sym (unless_end (λ x. x + (e.first + length e.text) - e.second) e.second (length s) 0 (build s) a.cuts.1 ordered))
      ∙ sym (relist_one build e (build s))
      ∙ (rw y at (demand_columns g c a.free tag_of s (e ∷ []) fitting))

-- ---- the theorem
-- an amendment has left k regions in `out'`, which was `out`; building afresh over `blank` has answered a and left `fresh`. Where there is
-- room for k regions, the counts are equal, and so are the two lists at every place of a region; over the same run all of it is equal
pub record Rebuilt (k : ℕ) (out out' blank fresh : List ℕ) (a : Result ℕ Refusal) : Type 0 where
  pub count : k ≤ room wide blank → a ≡ Ok k
  pub places : k ≤ room wide blank → (i : ℕ) → i < k * wide → get_or fresh i 0 ≡ get_or out' i 0
  pub whole : blank ≡ out → (a ≡ Ok k) × (fresh ≡ out')

module _ (g : Grammar) (c : Columns) (s l : List ℕ) (n : ℕ) (e : Edit) (out out' : List ℕ) (k : ℕ) (holds : HoldsRegions g c s l n) (m : Amended g c s l n e out out' (told (Ok k))) where
  tested : Accepted wide (unequal c) g c s l n e out k
  tested = accepted-told g c s l n e out k m.answer

  -- the regions of the edited text
  afresh : List Caused
  afresh = regions (gram_of g c) (edited e s)

  alike : amended_list g c s l n e ≡ map as_listed afresh
  unfolding afresh
  alike = same g c s l n e tested.meets holds

  size : k ≡ length afresh
  size = tested.count ∙ ap length alike ∙ length-map afresh as_listed

  roomy : k ≤ room wide out
  roomy = omega (arith, tested.count, ltb-false (room wide out) (length (amended_list g c s l n e)) tested.fits)

  left : out' ≡ over (flatten row_of afresh) out
  left = m.list ∙ rw (← m.answer) (ap (λ (x : List ℕ). over x out) (ap (flatten row) alike ∙ flatten-map row as_listed afresh))

  module _ (blank fresh : List ℕ) (a : Result ℕ Refusal) (b : Built g c (edited e s) blank fresh (told a)) (h : k ≤ room wide blank) where
    free : crowded wide afresh blank ≡ false
    free = le-ltb (room wide blank) (length afresh) (omega (arith, size))

    answered : a ≡ Ok k
    unfolding built_answer build_answer afresh
    answered =
        let x : told a ≡ given (length afresh ∷ []) = b.answer ∙ simp (tested.short, tested.equal, free) in
        let y : told (Ok k) ≡ given (length afresh ∷ []) = ap (λ (j : ℕ). given (j ∷ [])) size in
        answer_unique {o = given (length afresh ∷ [])} (record { answer = x }) (record { answer = y })

    built : fresh ≡ over (flatten row_of afresh) blank
    unfolding built_answer build_answer built_list afresh
    built = b.list ∙ simp (tested.short, tested.equal, free)

    at_each : (i : ℕ) → i < k * wide → get_or fresh i 0 ≡ get_or out' i 0
    at_each i j =
        let x : i < length (flatten row_of afresh) = omega (arith, size, length-flatten row_of wide row-wide afresh) in
        ap (λ (z : List ℕ). get_or z i 0) built
        ∙ get_or-append (flatten row_of afresh) (drop (length (flatten row_of afresh)) blank) 0 i x
        ∙ sym (ap (λ (z : List ℕ). get_or z i 0) left ∙ get_or-append (flatten row_of afresh) (drop (length (flatten row_of afresh)) out) 0 i x)

-- where a list holds the regions of the old text and an amendment accepts, building the edited text afresh gives the same list
pub amend_is_rebuild_held : {g : Grammar} {c : Columns} {old l : List ℕ} {n : ℕ} {e : Edit} {out out' blank fresh : List ℕ} {k : ℕ} {a : Result ℕ Refusal}
    → HoldsRegions g c old l n
    → Amended g c old l n e out out' (told (Ok k))
    → Built g c (edited e old) blank fresh (told a)
    → Rebuilt k out out' blank fresh a
amend_is_rebuild_held {g} {c} {old} {l} {n} {e} {out} {out'} {blank} {fresh} {k} {a} holds m b =
    record {
      count = answered g c old l n e out out' k holds m blank fresh a b;
      places = at_each g c old l n e out out' k holds m blank fresh a b;
      whole = λ z.
          let h : k ≤ room wide blank = subst (λ (x : List ℕ). k ≤ room wide x) (sym z) (roomy g c old l n e out out' k holds m) in
          (answered g c old l n e out out' k holds m blank fresh a b h, built g c old l n e out out' k holds m blank fresh a b h ∙ rw z (sym (left g c old l n e out out' k holds m)));
    }

-- Mission demand 3, of the promises that `build` and `amend` keep. Build the old text; amend its list, by the same grammar and rules, for
-- the text that an edit makes; build that text afresh: two equal lists.
pub amend_is_rebuild : {g : Grammar} {c : Columns} {old run l : List ℕ} {n : ℕ} {e : Edit} {out out' blank fresh : List ℕ} {k : ℕ} {a : Result ℕ Refusal}
    → Built g c old run l (told (Ok n))
    → Amended g c old l n e out out' (told (Ok k))
    → Built g c (edited e old) blank fresh (told a)
    → Rebuilt k out out' blank fresh a
amend_is_rebuild b = amend_is_rebuild_held (built_holds b)

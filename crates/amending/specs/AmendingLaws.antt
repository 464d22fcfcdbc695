-- Laws of the amendment in bytes: the ways out of its functions, and that its promise leaves one result. Assumes nothing.
use Rattle.std.specs.Prelude.{◌≡◌, refl, Bool, true, false, List, [], ◌∷◌, ℕ, ◌+◌, ◌-◌, ◌*◌, ◌/◌, ◌^◌, ◌≤◌, ◌<◌, ltb, length, Err, Ok, Result}
use Rattle.std.proofs.Common.{sym, ap, subst, ◌∙◌, arith, Fits, le-leb}
use Rattle.std.specs.Int.{w64}
use Rattle.std.proofs.lemmas.Bool.{lt-leb}
use Rattle.search.specs.Promise.{Gives}
use Rattle.common.specs.Entry.{flatten}
use Rattle.common.specs.Lists.{Wrote}
use Rattle.common.specs.Refusals.{Outcome, given, refused, number_of}
use Rattle.common.specs.RefusalLaws.{number_some}
use Rattle.common.specs.declared.grammar.Grammar.{Grammar}
use Rattle.common.specs.declared.refusal.Refusal.{Refusal}
use Rattle.region.specs.Region.{Listed, keep_before}
use Rattle.rules.specs.Grammar.{Gram}
use Rattle.rules.specs.Columns.{gram_of}
use Rattle.rules.specs.Tables.{gram_in, TablesOf}
use Rattle.rules.specs.TableLaws.{grammar_told}
use Rattle.rules.specs.declared.tables.Tables.{Tables}
use Rattle.joint.specs.Joint.{open_end, line_end_is_mark}
use Rattle.cells.specs.Bytes.{cells, row_bytes}
use Rattle.cells.specs.CellLaws.{length-cells}
use Rattle.rules.specs.RuleLaws.{gram_folded}
use Rattle.rules.specs.ByteRules.{ColumnRuns, inline_in, uneven_columns, columns_in}
use Rattle.cells.specs.Reply.{Replied}
use Rattle.cells.specs.Poured.{ListRuns, Poured, PouredAs}
use Rattle.cells.specs.PouredLaws.{poured_unique, poured_off, pour_full, pour_done}
use Rattle.amend.specs.Amend.{Edit}
use Rattle.amend.specs.Amended.{regions_in, list_regions, edit, amended_regions, amended_list, judged, settled_answer, amend_answer}
use Rattle.amend.specs.Parts.{surveyed, told_verdict, Judged, CutsReady, parts, Roomy}
use Rattle.amend.specs.SettleLaws.{split, answer_open, answer-shut, parts_same, total_told, two_fit, three_fit, roomy}
use Rattle.amend.specs.AmendedLaws.{judged_stop, judged_on}
use Rattle.amend.specs.declared.Cuts.{Cuts}
use Rattle.amend.specs.declared.Split.{Split}
use Rattle.amend.specs.declared.own.Counted.{Counted}
use Rattle.amending.specs.Amending.{listed_bytes, AmendedBytes}
use Rattle.amending.specs.ByteParts.{Planned, SettledBytes}

-- ---- pouring the three parts
module _ (g : Gram) (l : List ℕ) (cut : Split) (cuts : Cuts) (r : List ℕ) (total : ℕ) (p : Planned g l cut cuts r total) where
  pub parts_roomy : (out : List ℕ) → total ≤ length out / row_bytes → Roomy row_bytes g l cut cuts r out
  parts_roomy = p.roomy

  pub parts_full : (lent : ListRuns) → length lent.list / row_bytes < total → PouredAs listed_bytes row_bytes (parts g l cut cuts r) lent lent 3
  parts_full lent h = pour_full listed_bytes row_bytes (parts g l cut cuts r) lent false (record { answer = sym (lt-leb (length (parts g l cut cuts r)) (length lent.list / row_bytes) (omega (arith, p.count))) }) refl

  pub parts_done : (lent left : ListRuns) (m k q : ℕ) → total ≤ length lent.list / row_bytes → 1 < m → Gives (length lent.answer / 4) m → Wrote listed_bytes (parts g l cut cuts r) lent.list left.list k
      → Replied (given (k ∷ [])) lent.answer left.answer q → PouredAs listed_bytes row_bytes (parts g l cut cuts r) lent left q
  parts_done lent left m k q h i room w d =
      let fits = le-leb (length (parts g l cut cuts r)) (length lent.list / row_bytes) (omega (arith, p.count)) in
      pour_done listed_bytes row_bytes (parts g l cut cuts r) lent true (record { answer = sym fits }) left m k q refl i room w d

-- ---- settling
module _ (eol : ℕ) (g : Gram) (len first second : ℕ) (r : List ℕ) (own : Counted) (y : Bool) (c : Gives (surveyed g r) own) (h : Gives (open_end eol (ltb second len) r own.reaching) y) where
  pub bytes_open : (l : List Listed) (lent : ListRuns) → y ≡ true → SettledBytes eol len (list_regions g) l (edit first second r) lent lent 8
  bytes_open l lent e =
      let L = flatten listed_bytes (amended_regions (list_regions g) len (edit first second r) l) in
      subst (λ (o : Outcome). Poured o L lent lent 8) (sym (answer_open eol g len first second r own y c h row_bytes l lent.list e)) (poured_off 8 L lent refl)

-- where the cuts may be made, and the rows before and from `after` on are counted
module _ (g : Gram) (list : List ℕ) (n : ℕ) (cuts : Cuts) (r : List ℕ) (ready : CutsReady (cells list) n cuts r) (before after : ℕ)
    (hb : Gives (length (keep_before cuts.first (regions_in n (cells list)))) before) (ha : Gives (length (keep_before cuts.second (regions_in n (cells list)))) after)
    (own : Counted) (c : Gives (surveyed g r) own) where
  -- the sums that the room is compared with fit
  module _ (held : length list * 1 < 2 ^ 63) where
    pub two_fit_bytes : Fits w64 (before + own.count)
    two_fit_bytes = two_fit g (cells list) n cuts r ready before after hb ha own c (omega (arith, length-cells list))

    pub three_fit_bytes : Fits w64 (before + own.count + (n - after))
    three_fit_bytes = three_fit g (cells list) n cuts r ready before after hb ha own c (omega (arith, length-cells list))

  pub planned : Planned g (cells list) (split before after n) cuts r (before + own.count + (n - after))
  planned =
      record {
        count = ap length (parts_same g (cells list) n cuts r ready before after hb ha) ∙ total_told g (cells list) n cuts r ready before after hb ha own c;
        roomy = λ out h. roomy g (cells list) n cuts r ready before after hb ha own c out row_bytes h;
      }

  -- a replacement that is shut leaves the room to decide
  pub bytes_poured : (lent left : ListRuns) (eol q : ℕ) (y : Bool) → y ≡ false → Gives (open_end eol (ltb cuts.second cuts.len) r own.reaching) y
      → PouredAs listed_bytes row_bytes (parts g (cells list) (split before after n) cuts r) lent left q
      → SettledBytes eol cuts.len (list_regions g) (regions_in n (cells list)) (edit cuts.first cuts.second r) lent left q
  bytes_poured lent left eol q y e o w =
      let asked = amended_regions (list_regions g) cuts.len (edit cuts.first cuts.second r) (regions_in n (cells list)) in
      subst (λ (x : Outcome). Poured x (flatten listed_bytes asked) lent left q) (sym (answer-shut g (cells list) n cuts r ready before after hb ha own c lent.list eol y e o row_bytes))
      (subst (λ (z : List Listed). PouredAs listed_bytes row_bytes z lent left q) (parts_same g (cells list) n cuts r ready before after hb ha) w)

-- by the rules, folded
pub settled_columns : (g : Grammar) (c : ColumnRuns) (len : ℕ) (l : List Listed) (e : Edit) (before after : ListRuns) (t : Tables) (r : ℕ) → TablesOf g (record { fence_bytes = c.fence_bytes; fence_mins = c.fence_mins; inline = inline_in c.inline }) t
    → SettledBytes t.alphabet.grammar.eol len (list_regions (gram_in t)) l e before after r → SettledBytes g.eol len (list_regions (gram_of g (columns_in c))) l e before after r
settled_columns g c len l e before after t r w v =
    subst (λ (z : Gram). SettledBytes g.eol len (list_regions z) l e before after r) (gram_folded c w)
    (subst (λ (x : Grammar). SettledBytes x.eol len (list_regions (gram_in t)) l e before after r) (grammar_told w) v)

-- ---- the ways out of the entry
module _ (g : Grammar) (c : ColumnRuns) (s l : List ℕ) (n : ℕ) (e : Edit) (u m : Bool) (v : Result Unit Refusal) (lent : ListRuns)
    (hv : Judged g.eol s (cells l) n e u m v) (hu : Gives (uneven_columns c) u) (hm : Gives (line_end_is_mark g.eol g.escape c.inline.sym_bytes c.inline.openers) m) where
  as_told : amend_answer g (columns_in c) s (cells l) n e row_bytes (uneven_columns c) lent.list
      ≡ judged g.eol s (cells l) n e u m (settled_answer row_bytes g.eol (length s) (list_regions (gram_of g (columns_in c))) (regions_in n (cells l)) e lent.list)
  unfolding amend_answer columns_in
  as_told = rw (← hu.answer, ← hm.answer)

  stopped : (q : Refusal) (k : ℕ) → v ≡ Err q → Gives (number_of q) k → AmendedBytes g c s l n e lent lent k
  stopped q k d h =
      let L = flatten listed_bytes (amended_list g (columns_in c) s (cells l) n e) in
      let a : amend_answer g (columns_in c) s (cells l) n e row_bytes (uneven_columns c) lent.list ≡ refused (number_of q) = as_told ∙ judged_stop g.eol s (cells l) n e u m q _ (sym hv.answer ∙ ap told_verdict d) in
      subst (λ (o : Outcome). Poured o L lent lent k) (sym a) (rw h.answer (poured_off (number_of q) L lent (number_some q)))

  went_on : (after : ListRuns) (k : ℕ) → v ≡ (Ok tt) → SettledBytes g.eol (length s) (list_regions (gram_of g (columns_in c))) (regions_in n (cells l)) e lent after k → AmendedBytes g c s l n e lent after k
  went_on after k d w =
      let L = flatten listed_bytes (amended_list g (columns_in c) s (cells l) n e) in
      subst (λ (o : Outcome). Poured o L lent after k) (sym (as_told ∙ judged_on g.eol s (cells l) n e u m (sym hv.answer ∙ ap told_verdict d) _)) w

module _ (g : Grammar) (c : ColumnRuns) (s l : List ℕ) (n first second : ℕ) (r : List ℕ) (u m : Bool) (v : Result Unit Refusal) (lent : ListRuns) where
  pub bytes_refused : (q : Refusal) (k : ℕ) → v ≡ Err q → Judged g.eol s (cells l) n (edit first second r) u m v → Gives (uneven_columns c) u
      → Gives (line_end_is_mark g.eol g.escape c.inline.sym_bytes c.inline.openers) m → Gives (number_of q) k → AmendedBytes g c s l n (edit first second r) lent lent k
  bytes_refused q k d hv hu hm h = stopped g c s l n (edit first second r) u m v lent hv hu hm q k d h

  pub bytes_settled : (after : ListRuns) (k : ℕ) → v ≡ (Ok tt) → Judged g.eol s (cells l) n (edit first second r) u m v → Gives (uneven_columns c) u
      → Gives (line_end_is_mark g.eol g.escape c.inline.sym_bytes c.inline.openers) m
      → SettledBytes g.eol (length s) (list_regions (gram_of g (columns_in c))) (regions_in n (cells l)) (edit first second r) lent after k → AmendedBytes g c s l n (edit first second r) lent after k
  bytes_settled after k d hv hu hm w = went_on g c s l n (edit first second r) u m v lent hv hu hm after k d w

-- ---- one result
-- two results for the same arguments are one: the number, the answer run and the list that are left
pub amended_bytes_unique : (g : Grammar) (c : ColumnRuns) (s l : List ℕ) (n : ℕ) (e : Edit) {before after after' : ListRuns} {r r' : ℕ}
    → AmendedBytes g c s l n e before after r → AmendedBytes g c s l n e before after' r' → (r ≡ r') × (after.answer ≡ after'.answer) × (after.list ≡ after'.list)
amended_bytes_unique g c s l n e a b = poured_unique a b

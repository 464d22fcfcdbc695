-- Laws of the amendment: the ways out of the entry, that its promise leaves one answer and one list, and that it sees little of the old text. Assumes nothing.
use Rattle.std.specs.Prelude.{◌≡◌, Bool, true, false, cond, ◌||◌, ◌⊎◌, ℕ, ◌+◌, ◌-◌, ◌≤◌, ◌<◌, ltb, leb, get_or, Err, Ok, Result}
use Rattle.std.proofs.Common.{sym, ap, subst, ◌∙◌, inl, inr, arith, length-append, ltb-false, leb-true}
use mathlib.Core.List.{List, [], ◌++◌}
use Rattle.std.proofs.Math.ListN.{length, length-take, length-drop}
use Rattle.std.proofs.lemmas.List.{length-map}
use Rattle.search.specs.Promise.{Gives}
use Rattle.search.specs.Search.{holds}
use Rattle.search.specs.SearchLaws.{decide, neither}
use Rattle.common.specs.Entry.{wide}
use Rattle.common.specs.Refusals.{Outcome, given, refused, too_long, past, number_of, told}
use Rattle.common.specs.RefusalLaws.{number_some, answer_unique}
use Rattle.common.specs.declared.grammar.Grammar.{Grammar}
use Rattle.common.specs.declared.refusal.Refusal.{Refusal}
use Rattle.region.specs.Region.{Region, move, up, keep_before, keep_from}
use Rattle.rules.specs.Grammar.{Gram}
use Rattle.rules.specs.Columns.{Columns, unequal, gram_of}
use Rattle.rules.specs.Tables.{gram_in, TablesOf}
use Rattle.rules.specs.TableLaws.{gram_told, grammar_told}
use Rattle.rules.specs.declared.tables.Tables.{Tables}
use Rattle.joint.specs.Joint.{after_empty_line}
use Rattle.amend.specs.Amend.{Edit, moved_by, joint}
use Rattle.cover.specs.Shape.{misshapen}
use Rattle.amend.specs.Amended.{regions_in, list_regions, edit, edited, follows, amended_regions, miscut, uses_line_end, off_joint, judged_edit, judged, settled_answer, amend_answer, amended_answer, Amended}
use Rattle.amend.specs.Parts.{told_verdict, Judged, CutsReady, Settled}
use Rattle.amend.specs.Starts.{apart_few}
use Rattle.amend.specs.RowLaws.{orderly_told}
use Rattle.amend.specs.JudgeLaws.{not_given, refuse-same, refuse_pass, edited-length, edit-same, edit-passed}

-- ---- cuts that are judged
module _ (eol : ℕ) (s l : List ℕ) (n : ℕ) (e : Edit) (u m : Bool) where
  pub judged_stop : (q : Refusal) (o : Outcome) → judged eol s l n e u m (given []) ≡ refused (number_of q) → judged eol s l n e u m o ≡ refused (number_of q)
  unfolding judged
  judged_stop q o =
      let k = refused (number_of q) in
      let t5 = misshapen l n (length s) in
      let t7 = off_joint eol s (regions_in n l) e.first e.second in
      edit-same s e u k _ _ (refuse-same k 5 t5 _ _ (refuse-same k 9 m _ _ (refuse-same k 7 t7 (given []) o (λ z. absurd (not_given q (sym z))))))

  -- what is known where all seven are passed
  pub judged-passed : (o : Outcome) (v : List ℕ) → judged eol s l n e u m o ≡ given v → ((too_long s || too_long e.text) ≡ false) × (u ≡ false) × (miscut s e ≡ false) × (too_long (edited e s) ≡ false) × (misshapen l n (length s) ≡ false) × (m ≡ false)
      × (off_joint eol s (regions_in n l) e.first e.second ≡ false) × (o ≡ given v)
  unfolding judged
  judged-passed o v z =
      let a = edit-passed s e u _ v z in
      let f = refuse_pass 4 (misshapen l n (length s)) _ v a.4 in
      let g = refuse_pass 8 m _ v f.1 in
      let h = refuse_pass 6 (off_joint eol s (regions_in n l) e.first e.second) o v g.1 in
      (a.0, a.1, a.2, a.3, f.0, g.0, h.0, h.1)

  pub judged_on : judged eol s l n e u m (given []) ≡ given [] → (o : Outcome) → judged eol s l n e u m o ≡ o
  unfolding judged judged_edit
  judged_on fine o = let p = judged-passed (given []) [] fine in simp (p.0, p.1, p.2, p.3, p.4, p.5, p.6)

pub ready_told : (eol : ℕ) (s l : List ℕ) (n first second : ℕ) (r : List ℕ) (u m : Bool) (v : Result Unit Refusal) → v ≡ (Ok tt) → Judged eol s l n (edit first second r) u m v
    → CutsReady l n (record { first = first; second = second; len = length s }) r
ready_told eol s l n first second r u m v e g =
    let p = judged-passed eol s l n (edit first second r) u m (given []) [] (sym g.answer ∙ ap told_verdict e) in
    let a = neither (too_long s) (too_long r) p.0 in
    let b = neither (ltb second first) (past s second) p.2 in
    let cuts : first ≤ second = ltb-false second first b.0 in
    let inside : second ≤ length s = ltb-false (length s) second b.1 in
    record {
      orderly = orderly_told l n (length s) p.4;
      rising = cuts;
      inside = inside;
      short = ltb-false 4294967295 (length s) a.0;
      small = omega (arith, edited-length s first second r cuts inside, ltb-false 4294967295 (length (edited (edit first second r) s)) p.3);
    }

-- ---- the ways out of the entry
module _ (g : Grammar) (c : Columns) (s l : List ℕ) (n : ℕ) (e : Edit) (out : List ℕ) where
  module _ (u m : Bool) (v : Result Unit Refusal) (hv : Judged g.eol s l n e u m v) (hu : Gives (unequal c) u) (hm : Gives (uses_line_end g c) m) where
    as_told : amended_answer g c s l n e out ≡ judged g.eol s l n e u m (settled_answer wide g.eol (length s) (list_regions (gram_of g c)) (regions_in n l) e out)
    unfolding amended_answer amend_answer
    as_told = rw (← hu.answer, ← hm.answer)

    amended_stop : (q : Refusal) → v ≡ Err q → Amended g c s l n e out out (refused (number_of q))
    amended_stop q d =
        let a : amended_answer g c s l n e out ≡ refused (number_of q) = as_told ∙ judged_stop g.eol s l n e u m q _ (sym hv.answer ∙ ap told_verdict d) in
        record { answer = sym a; list = rw (a, number_some q) }

    amended_on : (out' : List ℕ) (o : Outcome) → v ≡ (Ok tt) → Settled g.eol (length s) (list_regions (gram_of g c)) (regions_in n l) e out out' o → Amended g c s l n e out out' o
    amended_on out' o d w =
        let a : amended_answer g c s l n e out ≡ settled_answer wide g.eol (length s) (list_regions (gram_of g c)) (regions_in n l) e out = as_told ∙ judged_on g.eol s l n e u m (sym hv.answer ∙ ap told_verdict d) _ in
        record { answer = w.answer ∙ sym a; list = w.list ∙ rw a }

module _ (g : Grammar) (c : Columns) (s l : List ℕ) (n first second : ℕ) (r out : List ℕ) (u w : Bool) (v : Result Unit Refusal) where
  pub amended_refused : (q : Refusal) → v ≡ Err q → Judged g.eol s l n (edit first second r) u w v → Gives (unequal c) u → Gives (uses_line_end g c) w
      → Amended g c s l n (edit first second r) out out (refused (number_of q))
  amended_refused q d hv hu hw = amended_stop g c s l n (edit first second r) out u w v hv hu hw q d

  pub amended_settled : (t : Tables) (out' : List ℕ) (a : Outcome) → v ≡ (Ok tt) → Judged g.eol s l n (edit first second r) u w v → Gives (unequal c) u → Gives (uses_line_end g c) w → TablesOf g c t
      → Settled t.alphabet.grammar.eol (length s) (list_regions (gram_in t)) (regions_in n l) (edit first second r) out out' a → Amended g c s l n (edit first second r) out out' a
  amended_settled t out' a d hv hu hw ht z =
      amended_on g c s l n (edit first second r) out u w v hv hu hw out' a d
      (subst (λ (x : Gram). Settled g.eol (length s) (list_regions x) (regions_in n l) (edit first second r) out out' a) (gram_told ht)
      (subst (λ (x : Grammar). Settled x.eol (length s) (list_regions (gram_in t)) (regions_in n l) (edit first second r) out out' a) (grammar_told ht) z))

-- ---- how many regions
-- an amended list has at most the old list's regions and the replacement's own
pub amended_regions-few : {T : Type 0} (build : List ℕ → List (Region T)) (len : ℕ) (e : Edit) (l : List (Region T)) → e.first ≤ e.second → length (amended_regions build len e l) ≤ length l + length (build e.text)
unfolding amended_regions
amended_regions-few {T} build len e l h = by (decide (follows len e.second))
  where
    few : (rest : List (Region T)) → length rest ≤ length (keep_from e.second l) → length (keep_before e.first l ++ (up e.first (build e.text) ++ rest)) ≤ length l + length (build e.text)
    few rest k =
        omega (arith, apart_few e.first e.second h l, length-append (keep_before e.first l) (up e.first (build e.text) ++ rest), length-append (up e.first (build e.text)) rest, length-map (build e.text) (move (λ x. e.first + x)))

    by : (follows len e.second ≡ true) ⊎ (follows len e.second ≡ false) → length (keep_before e.first l ++ (up e.first (build e.text) ++ cond (follows len e.second) (moved_by e.second (e.first + length e.text) (keep_from e.second l)) [])) ≤ length l + length (build e.text)
    by (inl u) = rw u (few (moved_by e.second (e.first + length e.text) (keep_from e.second l)) (omega (arith, length-map (keep_from e.second l) (move (λ x. x + (e.first + length e.text) - e.second)))))
    by (inr u) = rw u (few [] (omega arith))

-- ---- one answer, one list
-- two results of an amendment for the same arguments are one: the answer, and the list that is left
pub amended_unique : {g : Grammar} {c : Columns} {s l : List ℕ} {n : ℕ} {e : Edit} {out out' out'' : List ℕ} {r r' : Result ℕ Refusal}
    → Amended g c s l n e out out' (told r) → Amended g c s l n e out out'' (told r') → (r ≡ r') × (out' ≡ out'')
amended_unique {g} {c} {s} {l} {n} {e} {out} a b =
    (answer_unique {o = amended_answer g c s l n e out} (record { answer = a.answer }) (record { answer = b.answer }), a.list ∙ sym b.list)

-- ---- the old text: its length and the two bytes before each cut
-- two texts of one length with the same bytes there
pub record Alike (s s' : List ℕ) (e : Edit) : Type 0 where
  pub long : length s ≡ length s'
  pub first : (k : ℕ) → k < e.first → e.first ≤ k + 2 → get_or s k 0 ≡ get_or s' k 0
  pub second : (k : ℕ) → k < e.second → e.second ≤ k + 2 → get_or s k 0 ≡ get_or s' k 0

line_alike : (eol : ℕ) (s s' : List ℕ) (k : ℕ) → length s ≡ length s' → ((j : ℕ) → j < k → k ≤ j + 2 → get_or s j 0 ≡ get_or s' j 0) → after_empty_line eol s k ≡ after_empty_line eol s' k
unfolding holds
line_alike eol s s' k long same = by (decide (leb 2 k))
  where
    by : (leb 2 k ≡ true) ⊎ (leb 2 k ≡ false) → after_empty_line eol s k ≡ after_empty_line eol s' k
    by (inl u) =
        let h = leb-true 2 k u in
        let a : get_or s (k - 1) 0 ≡ get_or s' (k - 1) 0 = same (k - 1) (omega arith) (omega arith) in
        let b : get_or s (k - 2) 0 ≡ get_or s' (k - 2) 0 = same (k - 2) (omega arith) (omega arith) in
        rw (long, a, b)
    by (inr u) = rw u

module _ (g : Grammar) (c : Columns) (l : List ℕ) (n : ℕ) (e : Edit) (out : List ℕ) where
  answer_alike : (s s' : List ℕ) → Alike s s' e → amended_answer g c s l n e out ≡ amended_answer g c s' l n e out
  unfolding amended_answer amend_answer judged judged_edit off_joint joint
  answer_alike s s' w =
      let size : length (edited e s) ≡ length (edited e s') = simp (length-append, length-take, length-drop, w.long) in
      rw (w.long, size, line_alike g.eol s s' e.first w.long w.first, line_alike g.eol s s' e.second w.long w.second)

-- "Of the old text only its length and the two bytes before each cut are read": another old text that is alike there gives the same answer
-- and leaves the same list
pub amended_alike : {g : Grammar} {c : Columns} {s s' l : List ℕ} {n : ℕ} {e : Edit} {out out' out'' : List ℕ} {r r' : Result ℕ Refusal}
    → Alike s s' e → Amended g c s l n e out out' (told r) → Amended g c s' l n e out out'' (told r') → (r ≡ r') × (out' ≡ out'')
amended_alike {g} {c} {s} {s'} {l} {n} {e} {out} w a b =
    let same : amended_answer g c s l n e out ≡ amended_answer g c s' l n e out = answer_alike g c l n e out s s' w in
    (answer_unique {o = amended_answer g c s' l n e out} (record { answer = a.answer ∙ same }) (record { answer = b.answer }), a.list ∙ rw (same, w.long) (sym b.list))

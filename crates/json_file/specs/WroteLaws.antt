-- The ways out of writing records, of a list of numbers and of one in bytes. Assumes nothing.
use Rattle.std.specs.Prelude.{◌≡◌, Bool, true, false, List, [], ◌∷◌, ◌⊎◌, ℕ, ◌/◌, ◌≤◌, ◌<◌, eqb, leb, length}
use Rattle.std.proofs.Math.Path.{refl, sym}
use Rattle.std.proofs.Common.{ap, subst, ◌∙◌, inl, inr}
use borrow.Author.Tests.{lt-ltb, le-ltb, leb-true, leb-false}
use Rattle.search.specs.Promise.{Gives}
use Rattle.search.specs.SearchLaws.{decide}
use Rattle.common.specs.EntryLaws.{put_over}
use Rattle.common.specs.Lists.{filled_by}
use Rattle.common.specs.Refusals.{Outcome, given, refused}
use Rattle.cover.specs.Shape.{misshapen}
use Rattle.cells.specs.Bytes.{cells}
use Rattle.cells.specs.Reply.{fitted, Replied}
use Rattle.cells.specs.Poured.{ListRuns, Poured}
use Rattle.cells.specs.ReplyLaws.{reply_short, too_short, enough}
use Rattle.cells.specs.PouredLaws.{poured_off}
use Rattle.put.specs.Put.{Put}
use Rattle.json_file.specs.Layout.{layout}
use Rattle.json_file.specs.Grammar.{greatest}
use Rattle.json_file.specs.Records.{regions_of, write_answer, WroteRecords}
use Rattle.json_file.specs.ByteRecords.{halves, in_halves, WroteBytes}

-- ---- the answer: y says whether the list is misshapen, z whether the run has room for the layout
module _ (l : List ℕ) (n : ℕ) (out : List ℕ) (y : Bool) (g : Gives (misshapen l n greatest) y) where
  answer-misshapen : y ≡ true → write_answer l n out ≡ refused 5
  unfolding write_answer
  answer-misshapen e = simp (sym g.answer ∙ e)

  module _ (e : y ≡ false) where
    answer_full : leb (length (layout (regions_of n l))) (length out) ≡ false → write_answer l n out ≡ refused 3
    unfolding write_answer
    answer_full f = simp (sym g.answer ∙ e, lt-ltb (length out) (length (layout (regions_of n l))) (leb-false (length (layout (regions_of n l))) (length out) f))

    answer-given : leb (length (layout (regions_of n l))) (length out) ≡ true → write_answer l n out ≡ given (length (layout (regions_of n l)) ∷ [])
    unfolding write_answer
    answer-given f = simp (sym g.answer ∙ e, le-ltb (length out) (length (layout (regions_of n l))) (leb-true (length (layout (regions_of n l))) (length out) f))

-- what is put where there is room is what a success leaves
put_filled : (b out out' : List ℕ) (r : ℕ) → leb (length b) (length out) ≡ true → Put b 0 out out' r → out' ≡ filled_by (given (length b ∷ [])) b out
put_filled b out out' r f p = p.list ∙ put_over b out (leb-true (length b) (length out) f)

-- ---- a list of numbers
module _ (l : List ℕ) (n : ℕ) (y : Bool) where
  pub wrote_shaped : y ≡ false → Gives (misshapen l n greatest) y → misshapen l n greatest ≡ false
  wrote_shaped e g = sym g.answer ∙ e

  module _ (out : List ℕ) where
    left : (o : Outcome) (out' : List ℕ) → write_answer l n out ≡ o → out' ≡ filled_by o (layout (regions_of n l)) out → WroteRecords l n out out' o
    left o out' x w = record { answer = sym x; list = w ∙ ap (λ (a : Outcome). filled_by a (layout (regions_of n l)) out) (sym x) }

    pub wrote_misshapen : y ≡ true → Gives (misshapen l n greatest) y → WroteRecords l n out out (refused 5)
    wrote_misshapen e g = left (refused 5) out (answer-misshapen l n out y g e) refl

    module _ (z : Bool) where
      pub wrote_full : z ≡ false → y ≡ false → Gives (misshapen l n greatest) y → Gives (leb (length (layout (regions_of n l))) (length out)) z → WroteRecords l n out out (refused 3)
      wrote_full d e g f = left (refused 3) out (answer_full l n out y g e (sym f.answer ∙ d)) refl

      pub wrote_all : (out' : List ℕ) (r : ℕ) → z ≡ true → y ≡ false → Gives (misshapen l n greatest) y → Gives (leb (length (layout (regions_of n l))) (length out)) z → Put (layout (regions_of n l)) 0 out out' r
          → WroteRecords l n out out' (given (r ∷ []))
      wrote_all out' r d e g f p =
          let h = sym f.answer ∙ d in
          rw p.size (left (given (length (layout (regions_of n l)) ∷ [])) out' (answer-given l n out y g e h) (put_filled (layout (regions_of n l)) out out' r h p))

-- ---- a list in bytes: m is how many numbers the answer run has room for
module _ (l : List ℕ) (n : ℕ) (y : Bool) (lent : ListRuns) where
  poured : (o : Outcome) (after : ListRuns) (k : ℕ) → write_answer (cells l) n lent.list ≡ o → Poured (in_halves o) (layout (regions_of n (cells l))) lent after k → WroteBytes l n lent after k
  poured o after k x w = subst (λ (a : Outcome). Poured (in_halves a) (layout (regions_of n (cells l))) lent after k) (sym x) w

  off : (k : ℕ) → eqb k 0 ≡ false → write_answer (cells l) n lent.list ≡ refused k → WroteBytes l n lent lent k
  off k e x = poured (refused k) lent k x (poured_off k (layout (regions_of n (cells l))) lent e)

  pub bytes_wrong : y ≡ true → Gives (misshapen (cells l) n greatest) y → WroteBytes l n lent lent 5
  bytes_wrong e g = off 5 refl (answer-misshapen (cells l) n lent.list y g e)

  -- the answer run is too short: then it is 3, whatever the room for the layout
  pub bytes_short : (m : ℕ) → m ≤ 2 → y ≡ false → Gives (misshapen (cells l) n greatest) y → Gives (length lent.answer / 4) m → WroteBytes l n lent lent 3
  unfolding fitted
  bytes_short m q e g room = by (decide (leb (length (layout (regions_of n (cells l)))) (length lent.list)))
    where
      by : (leb (length (layout (regions_of n (cells l)))) (length lent.list) ≡ true) ⊎ (leb (length (layout (regions_of n (cells l)))) (length lent.list) ≡ false) → WroteBytes l n lent lent 3
      by (inl u) =
          poured (given (length (layout (regions_of n (cells l))) ∷ [])) lent 3 (answer-given (cells l) n lent.list y g e u)
          (record { reply = reply_short (halves (length (layout (regions_of n (cells l))))) lent.answer m room q; left = simp (too_short (halves (length (layout (regions_of n (cells l))))) lent.answer m room q) })
      by (inr u) = off 3 refl (answer_full (cells l) n lent.list y g e u)

  module _ (z : Bool) where
    pub bytes_crowded : z ≡ false → y ≡ false → Gives (misshapen (cells l) n greatest) y → Gives (leb (length (layout (regions_of n (cells l)))) (length lent.list)) z → WroteBytes l n lent lent 3
    bytes_crowded d e g f = off 3 refl (answer_full (cells l) n lent.list y g e (sym f.answer ∙ d))

    pub bytes_written : (after : ListRuns) (m k r : ℕ) → 2 < m → z ≡ true → y ≡ false → Gives (misshapen (cells l) n greatest) y → Gives (leb (length (layout (regions_of n (cells l)))) (length lent.list)) z → Gives (length lent.answer / 4) m
        → Put (layout (regions_of n (cells l))) 0 lent.list after.list k → Replied (given (halves k)) lent.answer after.answer r → WroteBytes l n lent after r
    unfolding fitted
    bytes_written after m k r q d e g f room p w =
        let h = sym f.answer ∙ d in
        let b = layout (regions_of n (cells l)) in
        poured (given (length b ∷ [])) after r (answer-given (cells l) n lent.list y g e h)
        (record { reply = rw p.size at w; left = put_filled b lent.list after.list k h p ∙ simp (enough (halves (length b)) lent.answer m room q) })

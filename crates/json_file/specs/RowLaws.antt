-- The second pass over a file: each region written to its row, in numbers or in bytes. Assumes nothing.
use Rattle.std.specs.Prelude.{◌≡◌, refl, true, List, [], ◌∷◌, ◌++◌, ℕ, ◌+◌, ◌*◌, ◌≤◌, length, drop}
use Rattle.std.proofs.Common.{sym, ap, subst, ◌∙◌, true≢false, append_assoc, append-nil, arith, length-append}
use Rattle.common.specs.Entry.{flatten, put_at, room, wide}
use Rattle.common.specs.EntryLaws.{Written, length-flatten, room_fits, rows_next, written_none, written_put, written_all, written-room}
use Rattle.common.specs.Lists.{RowPut, Wrote}
use Rattle.common.specs.Refusals.{span_values}
use Rattle.common.specs.declared.span.Span.{Span}
use Rattle.cells.specs.Bytes.{row_bytes}
use Rattle.json_file.specs.Form.{upto, outset, span, phase_move, move_on, follow, is_whole, regions_read}
use Rattle.json_file.specs.Records.{records_in}
use Rattle.json_file.specs.ByteRecords.{span_bytes}
use Rattle.json_file.specs.FormLaws.{follow_off}
use Rattle.json_file.specs.Walk.{Reached, WalkedTo, Walks}
use Rattle.json_file.specs.WalkLaws.{reached_first}
use Rattle.json_file.specs.declared.phase.Phase.{Phase}
use Rattle.json_file.specs.declared.phase.Phase.TheVariants as phase
use Rattle.json_file.specs.declared.phase.Move.{Move}
use Rattle.json_file.specs.declared.phase.Move.TheVariants.{On, Shut, Bad}
use Rattle.json_file.specs.declared.objects.NextObject.{NextObject}
use Rattle.json_file.specs.declared.objects.NextObject.TheVariants as next

-- ---- a row
pub span-wide : (r : Span) → length (span_values r) ≡ wide
span-wide r = refl

pub span_bytes_lem : (r : Span) → length (span_bytes r) ≡ row_bytes
span_bytes_lem r = refl

-- ---- the regions behind are the first ones of a file that ends whole
pub record FirstOf (l all : List Span) : Type 0 where
  pub rest : List Span
  pub same : all ≡ l ++ rest

front-move : (s : List ℕ) → ((l : List Span) (g : Phase) → is_whole (follow (upto l g) s) ≡ true → FirstOf l (regions_read (follow (upto l g) s))) → (l : List Span) (m : Move) → is_whole (follow (move_on l m) s) ≡ true → FirstOf l (regions_read (follow (move_on l m) s))
front-move s ih l (On g) e = ih l g e
front-move s ih l (Shut a b) e =
    let f = ih (l ++ (span a b ∷ [])) phase.Closed e in
    record { rest = span a b ∷ f.rest; same = f.same ∙ append_assoc l (span a b ∷ []) f.rest }
front-move s ih l Bad e = absurd (true≢false (sym e ∙ ap is_whole (follow_off s)))

pub first_read : (s : List ℕ) (l : List Span) (g : Phase) → is_whole (follow (upto l g) s) ≡ true → FirstOf l (regions_read (follow (upto l g) s))
unfolding follow
first_read [] l g e = record { rest = []; same = sym (append-nil l) }
first_read (x ∷ s) l g e = front-move s (first_read s) l (phase_move g x) e

-- of the file's regions
pub first_reached : (s : List ℕ) (i : ℕ) (g : Phase) (l : List Span) → Reached s i g l → is_whole (follow outset s) ≡ true → FirstOf l (records_in s)
first_reached s i g l w e =
    let f = first_read (drop i s) l g (ap is_whole (sym w.same) ∙ e) in
    record { rest = f.rest; same = ap regions_read w.same ∙ f.same }

-- ---- the pass
-- it has read the first i bytes of s, and each of the n regions behind it is w numbers of `out`, which was `out₀`
pub record Entered (flat : Span → List ℕ) (w : ℕ) (s out₀ out : List ℕ) (i : ℕ) (g : Phase) (n : ℕ) : Type 0 where
  pub size : (r : Span) → length (flat r) ≡ w
  pub whole : is_whole (follow outset s) ≡ true
  pub behind : List Span
  pub reached : Reached s i g behind
  pub count : length behind ≡ n
  pub within : i ≤ length s
  pub wrote : (rest : List Span) → records_in s ≡ behind ++ rest → Written (flatten flat (records_in s)) (flatten flat rest) out₀ out (n * w)

pub entered_first : (flat : Span → List ℕ) (w : ℕ) (s out : List ℕ) → ((r : Span) → length (flat r) ≡ w) → is_whole (follow outset s) ≡ true → length (records_in s) ≤ room w out → Entered flat w s out out 0 phase.Begin 0
entered_first flat w s out size whole h =
    let k : 0 * w ≡ 0 = omega arith in
    record {
      size = size;
      whole = whole;
      behind = [];
      reached = reached_first s;
      count = refl;
      within = omega arith;
      wrote = λ rest e. rw (← e, k) (written_none (omega (arith, room_fits w (length (records_in s)) out h, length-flatten flat w size (records_in s))));
    }

module _ (flat : Span → List ℕ) (w : ℕ) (s out₀ out : List ℕ) (i : ℕ) (g : Phase) (n : ℕ) (x : Entered flat w s out₀ out i g n) where
  pub entered_within : i ≤ length s
  entered_within = x.within

  module _ (r : NextObject) (v : Walks s i g r) where
    module _ (a b k : ℕ) (e : r ≡ next.Region a b k) where
      walked : WalkedTo s i g (next.Region a b k)
      walked = subst (WalkedTo s i g) e v.to

      next-written : (rest : List Span) → records_in s ≡ (x.behind ++ (span a b ∷ [])) ++ rest → Written (flatten flat (records_in s)) (flat (span a b) ++ flatten flat rest) out₀ out (n * w)
      next-written rest q = x.wrote (span a b ∷ rest) (q ∙ append_assoc x.behind (span a b ∷ []) rest)

      -- there is room for the region
      pub entered_room : n * w + w ≤ length out
      entered_room =
          let f = first_reached s k phase.Closed (x.behind ++ (span a b ∷ [])) (walked.2 x.behind x.reached) x.whole in
          omega (arith, written-room (next-written f.rest f.same), length-append (flat (span a b)) (flatten flat f.rest), x.size (span a b))

      pub entered_region : (out' : List ℕ) (n' : ℕ) → RowPut (flat (span a b)) n out out' n' → Entered flat w s out₀ out' k phase.Closed n'
      entered_region out' n' p =
          let y : (n + 1) * w ≡ n * w + length (flat (span a b)) = omega (arith, rows_next n w, x.size (span a b)) in
          let z : out' ≡ put_at (n * w) (flat (span a b)) out = p.list ∙ ap (λ (j : ℕ). put_at (n * j) (flat (span a b)) out) (x.size (span a b)) in
          record {
            size = x.size;
            whole = x.whole;
            behind = x.behind ++ (span a b ∷ []);
            reached = walked.2 x.behind x.reached;
            count = length-append x.behind (span a b ∷ []) ∙ omega (arith, x.count, p.next);
            within = walked.1;
            wrote = λ rest q. rw (p.next, y, z) (written_put (flat (span a b)) (next-written rest q));
          }

    -- in a whole file no byte can't continue
    pub entered_bad : (p : ℕ) → r ≡ next.Bad p → Wrote flat (records_in s) out₀ out n
    entered_bad p e = absurd (true≢false (sym x.whole ∙ ap is_whole (subst (WalkedTo s i g) e v.to x.behind x.reached).0))

    pub entered_over : (k : Phase) → r ≡ next.Over k → Wrote flat (records_in s) out₀ out n
    entered_over k e =
        let q : records_in s ≡ x.behind = ap regions_read (subst (WalkedTo s i g) e v.to x.behind x.reached).0 in
        record { count = sym (ap length q ∙ x.count); list = written_all (x.wrote [] (q ∙ sym (append-nil x.behind))) }

pub entered_same : {flat : Span → List ℕ} {w : ℕ} {s out₀ out : List ℕ} {i : ℕ} {g : Phase} {n : ℕ} → Entered flat w s out₀ out i g n → length out ≡ length out₀
entered_same {s = s} {i = i} {g = g} x =
    let f = first_reached s i g x.behind x.reached x.whole in
    (x.wrote f.rest f.same).long

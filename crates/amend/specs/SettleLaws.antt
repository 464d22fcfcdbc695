-- Laws of settling an amendment whose cuts are judged: what is written in three parts is the list asked for, and the ways out. Assumes nothing.
use Rattle.std.specs.Prelude.{◌≡◌, refl, Bool, true, false, ℕ, ◌+◌, ◌-◌, ◌*◌, ◌/◌, ◌^◌, ◌≤◌, ◌<◌, ltb, take, drop}
use Rattle.std.proofs.Math.Path.{sym, ap}
use Rattle.std.proofs.Common.{subst, ◌∙◌, arith, Fits, lt-ltb, le-ltb}
use mathlib.Core.List.{List, [], ◌∷◌, ◌++◌, map}
use Rattle.std.proofs.Math.Nat.{add-mul}
use Rattle.std.specs.Int.{w64}
use Rattle.std.proofs.Math.ListN.{length, length-append, length-map}
use Rattle.search.specs.Promise.{Gives}
use Rattle.common.specs.Refusals.{given, refused}
use Rattle.common.specs.Entry.{flatten, over, put_at, wide}
use Rattle.common.specs.EntryLaws.{length-flatten, flatten-append, length_put, put_append, put_over, room_fits}
use Rattle.region.specs.Region.{move, up, reaches, keep_before, keep_from, InOrder, Listed, tag_of, as_listed, row}
use Rattle.rules.specs.Grammar.{Gram}
use Rattle.region.specs.Regions.{regions}
use Rattle.region.specs.Ahead.{regions-few}
use Rattle.joint.specs.Joint.{open_end}
use Rattle.amend.specs.Amend.{moved_by}
use Rattle.common.specs.Lists.{crowded, filled_answer, Wrote}
use Rattle.amend.specs.Amended.{regions_in, list_regions, edit, amended_regions, left_open, settled_answer}
use Rattle.amend.specs.Parts.{Orderly, regions_between, PutRows, Copies, Owns, surveyed, CutsReady, Settled, parts, Roomy}
use Rattle.amend.specs.Lists.{stay, retag-reaches}
use Rattle.amend.specs.Starts.{order_longer, order_take, before_take, from_drop, order_from, before_few, unless_end}
use Rattle.amend.specs.RowLaws.{orderly_longer, listed_length, listed_take, listed_drop, between_zero}
use Rattle.amend.specs.declared.Cuts.{Cuts}
use Rattle.amend.specs.declared.Split.{Split}
use Rattle.amend.specs.declared.own.Counted.{Counted}

-- ---- a list's split, by its numbers
abbrev pub split : ℕ → ℕ → ℕ → Split
split before after n = record { before = before; after = after; count = n }

-- ---- regions written
pub row_long : (r : Listed) → length (row r) ≡ wide
row_long r = refl

module _ {flat : Listed → List ℕ} {width : ℕ} where
  put_rows_long : {l : List Listed} {n : ℕ} {out out' : List ℕ} {m : ℕ} → PutRows flat width l n out out' m → length out' ≡ length out
  put_rows_long {l} {n} {out} w = ap length w.list ∙ length_put (n * width) (flatten flat l) out

  module _ (size : (r : Listed) → length (flat r) ≡ width) where
    -- the place after them
    put_rows_place : {l : List Listed} {n : ℕ} {out out' : List ℕ} {m : ℕ} → PutRows flat width l n out out' m → m * width ≡ n * width + length (flatten flat l)
    put_rows_place {l} {n} w = ap (λ (k : ℕ). k * width) w.next ∙ add-mul n (length l) width ∙ ap (λ (k : ℕ). n * width + k) (sym (length-flatten flat width size l))

    -- one list behind the other
    put_rows_both : {a b : List Listed} {n m k : ℕ} {out out' out'' : List ℕ} → PutRows flat width a n out out' m → PutRows flat width b m out' out'' k → PutRows flat width (a ++ b) n out out'' k
    put_rows_both {a = a} {b = b} {n = n} {m = m} {out = out} v w =
        record {
          next = omega (arith, v.next, w.next, length-append a b);
          list =
              w.list ∙ ap (put_at (m * width) (flatten flat b)) v.list
              ∙ ap (λ (k : ℕ). put_at k (flatten flat b) (put_at (n * width) (flatten flat a) out)) (put_rows_place v)
              ∙ sym (put_append (n * width) (flatten flat a) (flatten flat b) out)
              ∙ ap (λ (z : List ℕ). put_at (n * width) z out) (sym (flatten-append flat a b));
        }

    put_rows-over : {l : List Listed} {out out' : List ℕ} {m : ℕ} → PutRows flat width l 0 out out' m → length l * width ≤ length out → out' ≡ over (flatten flat l) out
    put_rows-over {l = l} {out = out} w h =
        let z : 0 * width ≡ 0 = omega arith in
        w.list ∙ ap (λ (k : ℕ). put_at k (flatten flat l) out) z ∙ put_over (flatten flat l) out (omega (arith, length-flatten flat width size l))

-- ---- the three parts
module _ {width : ℕ} {g : Gram} {l : List ℕ} {split : Split} {cuts : Cuts} {r out : List ℕ} (w : Roomy width g l split cuts r out) where
  rows-kept : length (map (move (λ x. x + 0 - 0)) (regions_between 0 split.before l)) ≡ split.before
  rows-kept = length-map (regions_between 0 split.before l) (move (λ x. x + 0 - 0)) ∙ omega (arith, listed_length (split.before - 0) (drop (0 * wide) l))

  rows-own : length (up cuts.first (list_regions g r)) ≡ length (regions g r)
  rows-own = length-map (list_regions g r) (move (λ x. cuts.first + x)) ∙ length-map (regions g r) as_listed

  rows-moved : length (map (move (λ x. x + (cuts.first + length r) - cuts.second)) (regions_between split.after split.count l)) ≡ split.count - split.after
  rows-moved = length-map (regions_between split.after split.count l) (move (λ x. x + (cuts.first + length r) - cuts.second)) ∙ listed_length (split.count - split.after) (drop (split.after * wide) l)

  module _ {flat : Listed → List ℕ} {kept : ℕ} {out' : List ℕ} (a : PutRows flat width (moved_by 0 0 (regions_between 0 split.before l)) 0 out out' kept) where
    first-row : kept * width ≡ split.before * width
    first-row = ap (λ (k : ℕ). k * width) (omega (arith, a.next, rows-kept))

    pub own_asks : Owns width (regions g r) r cuts.first out' kept
    own_asks = record { fits = w.own.fits; room = omega (arith, w.own.room, first-row, put_rows_long a) }

    module _ {own : ℕ} {out'' : List ℕ} (b : PutRows flat width (up cuts.first (list_regions g r)) kept out' out'' own) where
      own_row : own * width ≡ (split.before + length (regions g r)) * width
      own_row = ap (λ (k : ℕ). k * width) (omega (arith, a.next, b.next, rows-kept, rows-own))

      pub moved_asks : Copies width l split.after split.count cuts.second (cuts.first + length r) out'' own
      moved_asks =
          let long : length out ≡ length out'' = sym (put_rows_long b ∙ put_rows_long a) in
          record {
            ahead = w.moved.ahead;
            inside = w.moved.inside;
            order = w.moved.order;
            room = subst (λ (k : ℕ). own * width + (split.count - split.after) * width ≤ k) long (subst (λ (k : ℕ). k + (split.count - split.after) * width ≤ length out) (sym own_row) w.moved.room);
          }

      pub all-written : {k : ℕ} {out''' : List ℕ} → ((r : Listed) → length (flat r) ≡ width) → PutRows flat width (moved_by cuts.second (cuts.first + length r) (regions_between split.after split.count l)) own out'' out''' k → Wrote flat (parts g l split cuts r) out out''' k
      unfolding parts
      all-written {k} {out'''} row-size c =
          let A = map (move (λ x. x + 0 - 0)) (regions_between 0 split.before l) in
          let B = up cuts.first (list_regions g r) in
          let C = map (move (λ x. x + (cuts.first + length r) - cuts.second)) (regions_between split.after split.count l) in
          let all : PutRows flat width (A ++ (B ++ C)) 0 out out''' k = put_rows_both row-size a (put_rows_both row-size b c) in
          let size : length (A ++ (B ++ C)) ≡ split.before + length (regions g r) + (split.count - split.after) = omega (arith, all.next, a.next, b.next, c.next, rows-kept, rows-own, rows-moved) in
          let many : length (A ++ (B ++ C)) * width ≡ (split.before + length (regions g r)) * width + (split.count - split.after) * width = ap (λ (k : ℕ). k * width) size ∙ add-mul (split.before + length (regions g r)) (split.count - split.after) width in
          record { count = omega (arith, all.next); list = put_rows-over row-size all (subst (λ (k : ℕ). k ≤ length out) (sym many) w.moved.room) }

-- ---- a replacement's end
open_same : (eol : ℕ) (g : Gram) (len first second : ℕ) (r : List ℕ) → left_open eol (list_regions g) len (edit first second r) ≡ open_end eol (ltb second len) r (reaches (length r) (regions g r))
unfolding left_open
open_same eol g len first second r = ap (open_end eol (ltb second len) r) (retag-reaches tag_of (length r) (regions g r))

module _ (eol : ℕ) (g : Gram) (len first second : ℕ) (r : List ℕ) (own : Counted) (y : Bool) (c : Gives (surveyed g r) own) (h : Gives (open_end eol (ltb second len) r own.reaching) y) where
  open_told : left_open eol (list_regions g) len (edit first second r) ≡ y
  open_told = open_same eol g len first second r ∙ ap (λ (w : Counted). open_end eol (ltb second len) r w.reaching) (sym c.answer) ∙ sym h.answer

  pub answer_open : (w : ℕ) (l : List Listed) (out : List ℕ) → y ≡ true → settled_answer w eol len (list_regions g) l (edit first second r) out ≡ refused 8
  unfolding settled_answer
  answer_open w l out e = simp (open_told, e)

  pub settled_open : (l : List Listed) (out : List ℕ) → y ≡ true → Settled eol len (list_regions g) l (edit first second r) out out (refused 8)
  settled_open l out e = let a = answer_open wide l out e in record { answer = sym a; list = rw a }

-- ---- cuts that may be made
pub ready_orderly : {l : List ℕ} {n : ℕ} {cuts : Cuts} {r : List ℕ} → CutsReady l n cuts r → Orderly l n 4294967295
ready_orderly {l} {n} {cuts} w = orderly_longer l n cuts.len 4294967295 w.short w.orderly

pub starts_few : (l : List ℕ) (n k a : ℕ) → Gives (length (keep_before k (regions_in n l))) a → a ≤ n
starts_few l n k a g = omega (arith, g.answer, before_few k (regions_in n l), listed_length n l)

-- the rows before, and the rows from `after` on
module _ (g : Gram) (l : List ℕ) (n : ℕ) (cuts : Cuts) (r : List ℕ) (ready : CutsReady l n cuts r) (before after : ℕ)
    (hb : Gives (length (keep_before cuts.first (regions_in n l))) before) (ha : Gives (length (keep_before cuts.second (regions_in n l))) after) where
  few_before : before ≤ n
  few_before = starts_few l n cuts.first before hb

  few_after : after ≤ n
  few_after = starts_few l n cuts.second after ha

  front : regions_between 0 before l ≡ keep_before cuts.first (regions_in n l)
  front =
      between_zero before l ∙ sym (listed_take n before l few_before) ∙ ap (λ (k : ℕ). take k (regions_in n l)) hb.answer
      ∙ sym (before_take cuts.first 0 cuts.len (regions_in n l) ready.orderly.order)

  rest : regions_between after n l ≡ keep_from cuts.second (regions_in n l)
  rest =
      sym (listed_drop n after l few_after) ∙ ap (λ (k : ℕ). drop k (regions_in n l)) ha.answer
      ∙ sym (from_drop cuts.second 0 cuts.len (regions_in n l) ready.orderly.order)

  -- what is written in three parts is the list asked for
  pub parts_same : parts g l (split before after n) cuts r ≡ amended_regions (list_regions g) cuts.len (edit cuts.first cuts.second r) (regions_in n l)
  unfolding parts amended_regions
  parts_same =
      ap (λ (z : List Listed). z ++ (up cuts.first (list_regions g r) ++ map (move (λ x. x + (cuts.first + length r) - cuts.second)) (regions_between after n l))) (stay (regions_between 0 before l) ∙ front)
      ∙ ap (λ (z : List Listed). keep_before cuts.first (regions_in n l) ++ (up cuts.first (list_regions g r) ++ z)) (ap (map (move (λ x. x + (cuts.first + length r) - cuts.second))) rest ∙ unless_end (λ x. x + (cuts.first + length r) - cuts.second) cuts.second cuts.len 0 (regions_in n l) ready.inside ready.orderly.order)

  total : length (amended_regions (list_regions g) cuts.len (edit cuts.first cuts.second r) (regions_in n l)) ≡ before + length (regions g r) + (n - after)
  unfolding parts
  total =
      let A = map (move (λ x. x + 0 - 0)) (regions_between 0 before l) in
      let B = up cuts.first (list_regions g r) in
      let C = map (move (λ x. x + (cuts.first + length r) - cuts.second)) (regions_between after n l) in
      let a = length-map (regions_between 0 before l) (move (λ x. x + 0 - 0)) ∙ listed_length (before - 0) (drop (0 * wide) l) in
      let b = length-map (list_regions g r) (move (λ x. cuts.first + x)) ∙ length-map (regions g r) as_listed in
      let c = length-map (regions_between after n l) (move (λ x. x + (cuts.first + length r) - cuts.second)) ∙ listed_length (n - after) (drop (after * wide) l) in
      sym (ap length parts_same) ∙ omega (arith, length-append A (B ++ C), length-append B C, a, b, c)

  module _ (own : Counted) (c : Gives (surveyed g r) own) where
    counted : own.count ≡ length (regions g r)
    counted = ap (λ (w : Counted). w.count) c.answer

    -- the sums that the room is compared with fit
    module _ (held : length l * 4 < 2 ^ 63) where
      pub two_fit : Fits w64 (before + own.count)
      two_fit = record { fits = omega (arith, counted, few_before, ready.orderly.roomy, ready.small, regions-few g r) }

      pub three_fit : Fits w64 (before + own.count + (n - after))
      three_fit = record { fits = omega (arith, counted, few_before, ready.orderly.roomy, ready.small, regions-few g r) }

    -- how many regions are asked for, as counted
    pub total_told : length (amended_regions (list_regions g) cuts.len (edit cuts.first cuts.second r) (regions_in n l)) ≡ before + own.count + (n - after)
    total_told = omega (arith, total, counted)

    module _ (out : List ℕ) (width : ℕ) where
      -- rows behind others that have room together
      room_two : (a b : ℕ) → a + b ≤ length out / width → a * width + b * width ≤ length out
      room_two a b h = subst (λ (k : ℕ). k ≤ length out) (add-mul a b width) (room_fits width (a + b) out h)

      pub roomy : before + own.count + (n - after) ≤ length out / width → Roomy width g l (split before after n) cuts r out
      roomy h =
          record {
            kept =
                record {
                  ahead = omega arith;
                  inside = omega (arith, few_before, ready.orderly.roomy);
                  order = subst (InOrder 0 (4294967295 + 0 - 0)) (listed_take n before l few_before ∙ sym (between_zero before l)) (order_take 0 4294967295 before (regions_in n l) (order_longer 0 cuts.len 4294967295 (regions_in n l) ready.short ready.orderly.order));
                  room = room_two 0 (before - 0) (omega arith);
                };
            own = record { fits = omega (arith, ready.small, ready.rising, ready.inside); room = room_two before (length (regions g r)) (omega (arith, counted)) };
            moved =
                record {
                  ahead = few_after;
                  inside = ready.orderly.roomy;
                  order =
                      subst (InOrder cuts.second (4294967295 + cuts.second - (cuts.first + length r))) (sym rest)
                      (order_longer cuts.second cuts.len (4294967295 + cuts.second - (cuts.first + length r)) (keep_from cuts.second (regions_in n l)) (omega (arith, ready.small, ready.rising, ready.inside)) (order_from cuts.second 0 cuts.len (regions_in n l) ready.orderly.order));
                  room = room_two (before + length (regions g r)) (n - after) (omega (arith, counted));
                };
          }

    module _ (out : List ℕ) (eol : ℕ) (y : Bool) (e : y ≡ false) (o : Gives (open_end eol (ltb cuts.second cuts.len) r own.reaching) y) where
      -- a replacement that is shut leaves the room to decide
      pub answer-shut : (width : ℕ) → settled_answer width eol cuts.len (list_regions g) (regions_in n l) (edit cuts.first cuts.second r) out ≡ filled_answer width (amended_regions (list_regions g) cuts.len (edit cuts.first cuts.second r) (regions_in n l)) out
      unfolding settled_answer
      answer-shut width = simp (open_told eol g cuts.len cuts.first cuts.second r own y c o, e)

      pub settled_full : length out / wide < before + own.count + (n - after) → Settled eol cuts.len (list_regions g) (regions_in n l) (edit cuts.first cuts.second r) out out (refused 3)
      settled_full h =
          let f : crowded wide (amended_regions (list_regions g) cuts.len (edit cuts.first cuts.second r) (regions_in n l)) out ≡ true = lt-ltb (length out / wide) (length (amended_regions (list_regions g) cuts.len (edit cuts.first cuts.second r) (regions_in n l))) (omega (arith, total_told)) in
          record { answer = sym (answer-shut wide ∙ simp f); list = simp (answer-shut wide, f) }

      pub settled_done : (out' : List ℕ) (k : ℕ) → before + own.count + (n - after) ≤ length out / wide → Wrote row (parts g l (split before after n) cuts r) out out' k
          → Settled eol cuts.len (list_regions g) (regions_in n l) (edit cuts.first cuts.second r) out out' (given (k ∷ []))
      settled_done out' k h w =
          let f : crowded wide (amended_regions (list_regions g) cuts.len (edit cuts.first cuts.second r) (regions_in n l)) out ≡ false = le-ltb (length out / wide) (length (amended_regions (list_regions g) cuts.len (edit cuts.first cuts.second r) (regions_in n l))) (omega (arith, total_told)) in
          record {
            answer = ap (λ (m : ℕ). given (m ∷ [])) (w.count ∙ ap length parts_same) ∙ sym (answer-shut wide ∙ simp f);
            list = w.list ∙ ap (λ (z : List Listed). over (flatten row z) out) parts_same ∙ simp (answer-shut wide, f);
          }

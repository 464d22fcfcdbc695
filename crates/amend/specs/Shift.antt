-- Behind whole lines a text's regions are its own, moved up; over any fence reader that goes by lines. Assumes nothing.
-- The page: "regions starting at or after it moved by the change in length".
use Rattle.std.specs.Prelude.{◌≡◌, Bool, List, ◌++◌, ℕ, ◌+◌, ◌≤◌, ◌<◌, get_or}
use Rattle.std.proofs.Math.Path.{refl, ap}
use Rattle.std.proofs.Common.{sym as inv, ◌∙◌, add-zero, arith, ltb-true}
use Rattle.std.proofs.Math.Bool.{true, false}
use Rattle.std.proofs.Math.Nat.{add_assoc}
use Rattle.std.proofs.Math.Dec.{ltb}
use Rattle.std.proofs.Math.ListN.{length, length-append}
use Rattle.std.proofs.Math.Seq.{get_or-append-add}
use Rattle.search.specs.Search.{find, is, other, back, first_place, after_line}
use Rattle.search.specs.SearchLaws.{holds_shift, first-move, find_le, find_shift, back_shift, Ends}
use Rattle.lines.specs.Paragraph.{ends_at, paragraph_end, hit_at, next_in}
use Rattle.common.specs.Turn.{Turn, go, stop, found, all_found, move_t}
use Rattle.common.specs.Turning.{Adv}
use Rattle.common.specs.ItemLaws.{of_cond}
use Rattle.common.specs.TurnLaws.{first_turn-move, all_found-move}
use Rattle.lines.specs.declared.fence_tests.Hit.{Hit}
use Rattle.lines.specs.declared.fence_tests.Hit.TheVariants.{At, End}
use Rattle.region.specs.declared.Cause.{Cause}
use Rattle.region.specs.declared.Cause.TheVariants.{Symmetric, Asymmetric}
use Rattle.region.specs.Region.{Caused, move, up}
use Rattle.rules.specs.Grammar.{Rule, plain, sym, asym, Gram}
use Rattle.region.specs.Regions.{shut_place, fenced_to, fenced, odd_before, escaped, next_of, sym_after, sym_turn, asym_after, asym_turn, pair_of, open_pair, inline, region_at, region_from, region_turn, regions_from, regions}
use Rattle.region.specs.Ahead.{Meets, sym_turn-ahead, asym_turn-ahead, region_turn-ahead}
use Rattle.amend.specs.Local.{Linewise}
use Rattle.amend.specs.Places.{ltb_up, leb_up, sub_up, min-up}

-- a hit k places further on
abbrev pub move_hit : ℕ → Hit → Hit
move_hit k (At q) = At (k + q)
move_hit k (End u) = End (k + u)

hit_if : (k : ℕ) (t : Bool) (q u : ℕ) → hit_at t (k + q) (k + u) ≡ move_hit k (hit_at t q u)
hit_if k true q u = refl
hit_if k false q u = refl

-- a ends in a line end, and no run of escapes reaches past its end
module _ (g : Gram) (lines : Linewise g.eol g.fences) (a b : List ℕ) (ends : Ends g.eol a) (free : back (is g.escape) a (length a) ≡ 0) where
  -- a turn that finds a place, and one that finds a region
  place_behind : Turn ℕ → Turn ℕ
  place_behind t = move_t (λ e. length a + e) (length a) t

  region_behind : Turn Caused → Turn Caused
  region_behind t = move_t (move (λ x. length a + x)) (length a) t

  -- ---- fences
  shut_shift : (p : ℕ) → shut_place g (a ++ b) (length a + p) ≡ length a + shut_place g b p
  unfolding shut_place
  shut_shift p =
      let t = g.fences.shuts (get_or b p 0) (g.fences.size b p) in
      simp (get_or-append-add, lines.size.behind a b ends, find_shift, length-append, add_assoc, min-up)
      (first-move (t b) (t (a ++ b)) (length a) (after_line g.eol b p) (length b) (λ j h l. (lines.shuts (get_or b p 0) (g.fences.size b p)).behind a b ends j))

  fenced_to_shift : (p : ℕ) (t : Bool) (q : ℕ) → fenced_to g (a ++ b) (length a + p) t (length a + q) ≡ region_behind (fenced_to g b p t q)
  unfolding region_behind
  fenced_to_shift p true q = simp (get_or-append-add, find_shift, length-append, add_assoc, min-up)
  fenced_to_shift p false q = simp (get_or-append-add, length-append)

  fenced_shift : (p : ℕ) → fenced g (a ++ b) (length a + p) ≡ region_behind (fenced g b p)
  fenced_shift p = simp (shut_shift, length-append, ltb_up) (fenced_to_shift p (ltb (shut_place g b p) (length b)) (shut_place g b p))

  -- ---- pairs
  escaped_shift : (p : ℕ) → escaped g (a ++ b) (length a + p) ≡ escaped g b p
  unfolding odd_before
  escaped_shift p = simp (back_shift (is g.escape) a b free)

  ends_shift : (q : ℕ) → ends_at g.eol (g.fences.enters (a ++ b)) (a ++ b) (length a + q) ≡ ends_at g.eol (g.fences.enters b) b q
  unfolding ends_at
  ends_shift q = simp (add_assoc, holds_shift, length-append, leb_up, lines.enters.behind a b ends)

  next_of_shift : (x j : ℕ) → next_of g (a ++ b) x (length a + j) ≡ move_hit (length a) (next_of g b x j)
  unfolding next_in paragraph_end
  next_of_shift x j =
      let u : first_place (ends_at g.eol (g.fences.enters (a ++ b)) (a ++ b)) (length a + j) (length a + length b) ≡ length a + first_place (ends_at g.eol (g.fences.enters b) b) j (length b) =
      first-move (ends_at g.eol (g.fences.enters b) b) (ends_at g.eol (g.fences.enters (a ++ b)) (a ++ b)) (length a) j (length b) (λ k h l. ends_shift k) in
      simp (length-append, u, find_shift, ltb_up, hit_if)

  sym_after_shift : (c count : ℕ) (t : Hit) → sym_after g (a ++ b) c count (move_hit (length a) t) ≡ place_behind (sym_after g b c count t)
  unfolding place_behind
  sym_after_shift c count (At q) = simp (escaped_shift, find_shift, sub_up, add_assoc, of_cond place_behind)
  sym_after_shift c count (End u) = refl

  sym_turn_shift : (c count j : ℕ) → sym_turn g (a ++ b) c count (length a + j) ≡ place_behind (sym_turn g b c count j)
  unfolding sym_turn
  sym_turn_shift c count j = ap (sym_after g (a ++ b) c count) (next_of_shift c j) ∙ sym_after_shift c count (next_of g b c j)

  asym_after_shift : (t : Hit) → asym_after g (a ++ b) (move_hit (length a) t) ≡ place_behind (asym_after g b t)
  unfolding place_behind
  asym_after_shift (At q) = simp (escaped_shift, add_assoc, of_cond place_behind)
  asym_after_shift (End u) = refl

  asym_turn_shift : (c j : ℕ) → asym_turn g (a ++ b) c (length a + j) ≡ place_behind (asym_turn g b c j)
  unfolding asym_turn
  asym_turn_shift c j = ap (asym_after g (a ++ b)) (next_of_shift c j) ∙ asym_after_shift (next_of g b c j)

  pair_of_shift : (k : Cause) (i p r : ℕ) (t : Turn ℕ) → pair_of k i (length a + p) (length a + r) (place_behind t) ≡ region_behind (pair_of k i p r t)
  unfolding place_behind region_behind
  pair_of_shift k i p r (go n) = refl
  pair_of_shift k i p r (stop u) = refl
  pair_of_shift k i p r (found e n) = refl

  open_pair_shift : (p count : ℕ) (k : Cause) (i : ℕ) (close close' : ℕ → Turn ℕ) (r : ℕ) → Adv Meets close (length b) → ((j : ℕ) → close' (length a + j) ≡ place_behind (close j)) → r ≤ length b
      → open_pair g (a ++ b) (length a + p) count k i close' (length a + r) ≡ region_behind (open_pair g b p count k i close r)
  unfolding place_behind region_behind
  open_pair_shift p count k i close close' r adv same h =
      simp (escaped_shift, sub_up, first_turn-move adv (λ e. length a + e) close' (length a) (λ q l. same q) (length (a ++ b)) r (omega (arith, length-append a b)) h, pair_of_shift, of_cond region_behind, add_assoc)

  inline_shift : (p c : ℕ) (u : Rule) → p < length b → inline g (a ++ b) (length a + p) c u ≡ region_behind (inline g b p c u)
  unfolding inline region_behind
  inline_shift p c plain h = simp add_assoc
  inline_shift p c (sym i count) h =
      rw (find_shift (other (is c)) a b p)
      (open_pair_shift p count Symmetric i (sym_turn g b c count) (sym_turn g (a ++ b) c count) (find (other (is c)) b p) (sym_turn-ahead g b c count) (sym_turn_shift c count) (find_le (other (is c)) b p (omega arith)))
  inline_shift p c (asym i d count) h =
      rw (find_shift (other (is c)) a b p)
      (open_pair_shift p count Asymmetric i (asym_turn g b d) (asym_turn g (a ++ b) d) (find (other (is c)) b p) (asym_turn-ahead g b d) (asym_turn_shift d) (find_le (other (is c)) b p (omega arith)))

  -- ---- regions
  region_at_shift : (p : ℕ) → p < length b → region_at g (a ++ b) (length a + p) ≡ region_behind (region_at g b p)
  unfolding region_behind
  region_at_shift p h =
      simp (lines.opens.behind a b ends, fenced_shift, get_or-append-add, inline_shift p (get_or b p 0) (g.rule (get_or b p 0)) h, of_cond region_behind)

  region_turn_shift : (q : ℕ) → q ≤ length b → region_turn g (a ++ b) (length a + q) ≡ region_behind (region_turn g b q)
  unfolding region_turn region_behind
  region_turn_shift q h = by (ltb (find g.trigger b q) (length b)) refl
    where
      test : (p : ℕ) → ltb (length a + p) (length (a ++ b)) ≡ ltb p (length b)
      test p = simp (length-append, ltb_up)

      by : (t : Bool) → ltb (find g.trigger b q) (length b) ≡ t → region_from g (a ++ b) (length a + q) (find g.trigger (a ++ b) (length a + q)) ≡ region_behind (region_from g b q (find g.trigger b q))
      by true u = simp (find_shift, test, u) (region_at_shift (find g.trigger b q) (ltb-true (find g.trigger b q) (length b) u))
      by false u = simp (find_shift, test, u)

  -- the regions from the end of a on
  pub regions_shift : regions_from g (a ++ b) (length a) ≡ up (length a) (regions g b)
  unfolding regions regions_from region_behind
  regions_shift =
      ap (all_found (region_turn g (a ++ b)) (length (a ++ b))) (inv (add-zero (length a)))
      ∙ all_found-move (region_turn-ahead g b) (move (λ x. length a + x)) (region_turn g (a ++ b)) (length a) region_turn_shift (length (a ++ b)) 0 (omega (arith, length-append a b)) (omega arith)

-- Laws of a line and of a search within it; the fences of edition 1 go by lines. Assumes nothing.
use Rattle.std.specs.Prelude.{◌≡◌, Bool, true, false, List, ◌++◌, ◌⊎◌, ℕ, ◌-◌, ◌≤◌, ◌<◌, min, ltb, leb, length}
use Rattle.std.proofs.Common.{◌∙◌, inl, inr, arith, get_or-append-add, ltb-true, ltb-false, le-leb}
use Rattle.std.proofs.Math.ListN.{get_or, get_or-append}
use Rattle.search.specs.Search.{find, is, other, either, line_end}
use Rattle.search.specs.SearchLaws.{decide, holds_true, holds_prefix, holds_shift, find_ge, find_le, find_hit, find_prefix, find_past, find_shift, Ends, start_prefix, start_shift, last_byte}
use Rattle.lines.specs.Fences.{run_end, opens_line, closes_to, closing}
use Rattle.common.specs.declared.grammar.Grammar.{Grammar}
use Rattle.lines.specs.Reader.{shuts, edition_one, reader}
use Rattle.amend.specs.Local.{Local, Linewise}
use Rattle.amend.specs.Places.{ltb_up, leb_up, sub_up, min-up}

-- ---- a search in a text, with another text behind it
module _ (t : ℕ → Bool) (a b : List ℕ) (i : ℕ) (h : i ≤ length a) where
  -- it ends alike, or behind the first text
  pub find-either : (find t (a ++ b) i ≡ find t a i) ⊎ ((find t a i ≡ length a) × (length a ≤ find t (a ++ b) i))
  find-either = by (decide (ltb (find t a i) (length a)))
    where
      by : (ltb (find t a i) (length a) ≡ true) ⊎ (ltb (find t a i) (length a) ≡ false) → (find t (a ++ b) i ≡ find t a i) ⊎ ((find t a i ≡ length a) × (length a ≤ find t (a ++ b) i))
      by (inl u) = inl (find_prefix t a b i (ltb-true (find t a i) (length a) u))
      by (inr u) =
          let l = ltb-false (find t a i) (length a) u in
          inr (omega (arith, find_le t a i h), omega (arith, find_past t a b i h l, find_ge t (a ++ b) (length a)))

  -- up to a place of the first text it goes the same way
  module _ (e : ℕ) (l : e ≤ length a) where
    pub find-min : min (find t (a ++ b) i) e ≡ min (find t a i) e
    find-min = by find-either
      where
        by : (find t (a ++ b) i ≡ find t a i) ⊎ ((find t a i ≡ length a) × (length a ≤ find t (a ++ b) i)) → min (find t (a ++ b) i) e ≡ min (find t a i) e
        by (inl u) = omega arith
        by (inr u) = omega arith

    pub find_leb : leb e (find t (a ++ b) i) ≡ leb e (find t a i)
    find_leb = by find-either
      where
        by : (find t (a ++ b) i ≡ find t a i) ⊎ ((find t a i ≡ length a) × (length a ≤ find t (a ++ b) i)) → leb e (find t (a ++ b) i) ≡ leb e (find t a i)
        by (inl u) = rw u
        by (inr u) = le-leb e (find t (a ++ b) i) (omega arith) ∙ rw (le-leb e (find t a i) (omega arith))

-- ---- a line of whole lines
module _ (eol : ℕ) (a b : List ℕ) (ends : Ends eol a) (p : ℕ) (h : p < length a) where
  pub line_in : line_end eol a p < length a
  line_in =
      let w = holds_true (is eol) a (length a - 1) (last_byte eol a ends (omega arith)) in
      omega (arith, find_hit (is eol) a p (length a - 1) (omega arith) w.0 w.1)

  pub line_same : line_end eol (a ++ b) p ≡ line_end eol a p
  line_same = find_prefix (is eol) a b p line_in

  -- the run of c that begins at p, within its line
  pub run_same : (c : ℕ) → run_end c (a ++ b) p (line_end eol a p) ≡ run_end c a p (line_end eol a p)
  run_same c = let l = line_in in find-min (other (is c)) a b p (omega arith) (line_end eol a p) (omega arith)

  -- the rest of that line
  pub rest-same : (t : ℕ → Bool) (j : ℕ) → j ≤ line_end eol a p → leb (line_end eol a p) (find t (a ++ b) j) ≡ leb (line_end eol a p) (find t a j)
  rest-same t j m = let l = line_in in find_leb t a b j (omega arith) (line_end eol a p) (omega arith)

-- ---- edition 1
module _ (g : Grammar) (has : ℕ → Bool) (least : ℕ → ℕ) where
  opens_line_local : Local g.eol (opens_line g.eol has least)
  unfolding opens_line
  opens_line_local = record {
    behind = λ a b ends p. simp (get_or-append-add, find_shift, min-up, sub_up, ltb_up, leb_up);
    within = λ a b ends p h.
        let c = get_or a p 0 in
        simp (get_or-append a b 0 p h, line_same g.eol a b ends p h, run_same g.eol a b ends p h c, rest-same g.eol a b ends p h (is c) (run_end c a p (line_end g.eol a p)) (omega arith));
  }

  closing_local : (c n : ℕ) → Local g.eol (shuts g c n)
  unfolding shuts closing closes_to
  closing_local c n = record {
    behind = λ a b ends p. simp (start_shift g.eol a b ends, holds_shift, find_shift, min-up, sub_up, leb_up);
    within = λ a b ends p h.
        simp (start_prefix g.eol a b p (omega arith), holds_prefix (is c) a b p h, line_same g.eol a b ends p h, run_same g.eol a b ends p h c, rest-same g.eol a b ends p h (other (either g.sep g.tab)) (run_end c a p (line_end g.eol a p)) (omega arith));
  }

  edition_linewise : Linewise g.eol (edition_one g has least)
  edition_linewise = record {
    opens = record {
      behind = λ a b ends p. simp (start_shift g.eol a b ends, opens_line_local.behind a b ends);
      within = λ a b ends p h. simp (start_prefix g.eol a b p (omega arith), opens_line_local.within a b ends p h);
    };
    enters = opens_line_local;
    size = record {
      behind = λ a b ends p. simp (get_or-append-add, find_shift, min-up, sub_up);
      within = λ a b ends p h. simp (get_or-append a b 0 p h, line_same g.eol a b ends p h, run_same g.eol a b ends p h (get_or a p 0));
    };
    shuts = closing_local;
  }

  -- so does the reader of every grammar
  pub reader_linewise : Linewise g.eol (reader g has least)
  unfolding reader
  reader_linewise = edition_linewise

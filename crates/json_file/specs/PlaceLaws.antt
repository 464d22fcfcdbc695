-- The place of refusal 10 in the words of the grammar: the bytes before it begin a file, and with the byte there they begin none. Assumes nothing.
-- Request 4: "the place of the first byte that can't continue a file of this form, list shape aside, or the length of a file that breaks off".
use Rattle.std.specs.Prelude.{◌≡◌, true, false, List, [], ◌++◌, ◌⊎◌, ℕ, suc, ◌<◌, ◌≤◌, ltb, length, take, drop}
use Rattle.std.proofs.Common.{sym, ap, subst, ◌∙◌, append_assoc, append-nil, inl, inr, arith, take-append-drop, take_all, take-take, ltb-true, ltb-false}
use Rattle.search.specs.SearchLaws.{decide, clash}
use Rattle.common.specs.declared.span.Span.{Span}
use Rattle.json_file.specs.Form.{outset, is_whole, broken_at}
use Rattle.json_file.specs.Grammar.{File, BeginsFile}
use Rattle.json_file.specs.FormLaws.{broken_most, begins_whole, begins_none}
use Rattle.json_file.specs.GrammarBack.{whole_file, file_whole}

-- a file does, with nothing behind it
pub file_begins : {l : List Span} {s : List ℕ} → File l s → BeginsFile s
file_begins {l} {s} f = record { behind = []; list = l; made = subst (File l) (sym (append-nil s)) f }

-- then so does a part from its start
pub begins-front : (n : ℕ) (s : List ℕ) → BeginsFile s → BeginsFile (take n s)
begins-front n s b =
    let e : s ++ b.behind ≡ take n s ++ (drop n s ++ b.behind) = ap (λ (r : List ℕ). r ++ b.behind) (sym (take-append-drop n s)) ∙ append_assoc (take n s) (drop n s) b.behind in
    record { behind = drop n s ++ b.behind; list = b.list; made = subst (File b.list) e b.made }

module _ (s : List ℕ) where
  -- the bytes before the place begin a file
  pub place_before : BeginsFile (take (broken_at outset s) s)
  place_before = let w = begins_whole s in record { behind = w.0; list = _; made = whole_file (take (broken_at outset s) s ++ w.0) w.1 }

  -- with the byte there they begin none
  pub place_there : broken_at outset s < length s → BeginsFile (take (suc (broken_at outset s)) s) → ⊥
  place_there h b = clash (file_whole b.made) (ap is_whole (begins_none s h b.behind))

  -- it is in the text or its length
  pub place_within : broken_at outset s ≤ length s
  place_within = broken_most outset s

  -- "or the length of a file that breaks off"
  pub place_length : BeginsFile s → broken_at outset s ≡ length s
  place_length b = by (decide (ltb (broken_at outset s) (length s)))
    where
      by : (ltb (broken_at outset s) (length s) ≡ true) ⊎ (ltb (broken_at outset s) (length s) ≡ false) → broken_at outset s ≡ length s
      by (inl e) = absurd (place_there (ltb-true (broken_at outset s) (length s) e) (begins-front (suc (broken_at outset s)) s b))
      by (inr e) = omega (arith, ltb-false (broken_at outset s) (length s) e, place_within)

  -- a text whose place is its length begins a file
  pub length-begins : length s ≤ broken_at outset s → BeginsFile s
  length-begins h = subst BeginsFile (take_all (broken_at outset s) s h) place_before

  -- no other place is so
  pub place_only : (p : ℕ) → p ≤ length s → BeginsFile (take p s) → (p < length s → BeginsFile (take (suc p) s) → ⊥) → p ≡ broken_at outset s
  place_only p h b n = by (decide (ltb p (broken_at outset s))) (decide (ltb (broken_at outset s) p))
    where
      earlier : p < broken_at outset s → ⊥
      earlier k = n (omega (arith, place_within)) (subst BeginsFile (take-take (suc p) (broken_at outset s) s k) (begins-front (suc p) (take (broken_at outset s) s) place_before))

      later : broken_at outset s < p → ⊥
      later k = place_there (omega arith) (subst BeginsFile (take-take (suc (broken_at outset s)) p s k) (begins-front (suc (broken_at outset s)) (take p s) b))

      by : (ltb p (broken_at outset s) ≡ true) ⊎ (ltb p (broken_at outset s) ≡ false) → (ltb (broken_at outset s) p ≡ true) ⊎ (ltb (broken_at outset s) p ≡ false) → p ≡ broken_at outset s
      by (inl e) f = absurd (earlier (ltb-true p (broken_at outset s) e))
      by (inr e) (inl f) = absurd (later (ltb-true (broken_at outset s) p f))
      by (inr e) (inr f) = omega (arith, ltb-false p (broken_at outset s) e, ltb-false (broken_at outset s) p f)

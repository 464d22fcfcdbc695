-- What a cursor tells of a list as built. Assumes nothing.
use Rattle.std.specs.Prelude.{◌≡◌, true, false, List, [], ◌∷◌, map, ◌⊎◌, ℕ, ◌≤◌, length, get_or, drop}
use Rattle.std.proofs.Common.{ap, ◌∙◌, inl, inr, arith, length-append}
use Rattle.search.specs.SearchLaws.{decide}
use Rattle.common.specs.Refusals.{Outcome, given, refused, too_long}
use Rattle.common.specs.Entry.{flatten, rows, room, over, wide}
use Rattle.common.specs.EntryLaws.{rows-flatten, length-flatten, fits_room}
use Rattle.common.specs.declared.grammar.Grammar.{Grammar}
use Rattle.rules.specs.Columns.{Columns, gram_of, unequal}
use Rattle.region.specs.Region.{Caused, row_of}
use Rattle.region.specs.Regions.{regions}
use Rattle.common.specs.Lists.{crowded, Filled, build_answer}
use Rattle.region.specs.Ahead.{regions-shaped}
use Rattle.cover.specs.Cursor.{coverage, cover_run, Rising}
use Rattle.cover.proofs.CursorLaws.{fresh_plain}
use Rattle.context.specs.Build.{Built, built_answer, built_list}
use Rattle.region.specs.LoopLaws.{row-wide}

not_refused : (n k : ℕ) → given (n ∷ []) ≡ refused k → ⊥
not_refused n k e = let z : ◌≡◌ {A = ℕ} 1 0 = ap (λ (o : Outcome). length o.values) e in omega arith

-- what building gives was not refused
built_fits : (g : Grammar) (c : Columns) (s out out' : List ℕ) (n : ℕ) → Built g c s out out' (given (n ∷ [])) → Filled row_of wide (regions (gram_of g c) s) out out' (given (n ∷ []))
unfolding built_answer build_answer built_list
built_fits g c s out out' n b = by (decide (too_long s)) (decide (unequal c))
  where
    by : (too_long s ≡ true) ⊎ (too_long s ≡ false) → (unequal c ≡ true) ⊎ (unequal c ≡ false) → Filled row_of wide (regions (gram_of g c) s) out out' (given (n ∷ []))
    by (inl u) v = absurd (not_refused n 1 (b.answer ∙ simp u))
    by (inr u) (inl v) = absurd (not_refused n 6 (b.answer ∙ simp (u, v)))
    by (inr u) (inr v) = record { answer = b.answer ∙ simp (u, v); list = b.list ∙ simp (u, v) }

-- "With a list as built, a fresh cursor and places that never fall, that is plain coverage."
pub built_plain : (g : Grammar) (c : Columns) (s out out' : List ℕ) (n low : ℕ) (ps : List ℕ) → Built g c s out out' (given (n ∷ [])) → Rising low ps
    → cover_run wide out' n 0 ps ≡ map (λ p. given (coverage p (map row_of (regions (gram_of g c) s)))) ps
built_plain g c s out out' n low ps b up = by (decide (crowded wide l out))
  where
    l : List Caused
    l = regions (gram_of g c) s

    f : Filled row_of wide (regions (gram_of g c) s) out out' (given (n ∷ []))
    f = built_fits g c s out out' n b

    by : (crowded wide l out ≡ true) ⊎ (crowded wide l out ≡ false) → cover_run wide out' n 0 ps ≡ map (λ p. given (coverage p (map row_of l))) ps
    by (inl u) = absurd (not_refused n 3 (f.answer ∙ simp u))
    by (inr u) =
        let y : given (n ∷ []) ≡ given (length l ∷ []) = f.answer ∙ simp u in
        let e : n ≡ length l = ap (λ (o : Outcome). get_or o.values 0 0) y in
        let z : out' ≡ over (flatten row_of l) out = f.list ∙ simp u in
        let r : rows wide n out' ≡ map row_of l = rw (e, z) (rows-flatten row_of wide row-wide l (drop (length (flatten row_of l)) out)) in
        let k : n ≤ room wide out' = fits_room wide n out' (omega arith) (omega (arith, ap length z, length-append (flatten row_of l) (drop (length (flatten row_of l)) out), length-flatten row_of wide row-wide l)) in
        fresh_plain wide (omega arith) out' n 0 (length s) (rw r (regions-shaped (gram_of g c) s)) k low ps up ∙ rw r

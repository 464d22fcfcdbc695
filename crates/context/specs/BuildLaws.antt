-- Laws of building: what the loops need, and the ways out of the entry. Assumes nothing.
use Rattle.std.specs.Prelude.{◌≡◌, Bool, List, [], ◌∷◌, ℕ, ◌/◌, ◌≤◌, ◌<◌, length, Option, Result, Some}
use Rattle.std.proofs.Math.Path.{sym}
use Rattle.std.proofs.Common.{subst, ◌∙◌, lt-ltb, le-ltb, arith}
use Rattle.std.proofs.Math.Bool.{true, false}
use Rattle.search.specs.Promise.{Gives}
use Rattle.common.specs.Refusals.{Outcome, given, refused, told}
use Rattle.common.specs.RefusalLaws.{answer_unique}
use Rattle.common.specs.declared.grammar.Grammar.{Grammar}
use Rattle.common.specs.Entry.{room, wide}
use Rattle.rules.specs.Grammar.{Gram}
use Rattle.rules.specs.Columns.{Columns, unequal, gram_of}
use Rattle.rules.specs.Tables.{gram_in, TablesOf}
use Rattle.rules.specs.TableLaws.{gram_told}
use Rattle.rules.specs.declared.tables.Tables.{Tables}
use Rattle.region.specs.Region.{row_of}
use Rattle.region.specs.Regions.{regions}
use Rattle.common.specs.Lists.{Wrote, Filled, build_answer}
use Rattle.common.specs.ListLaws.{fill_done}
use Rattle.region.specs.Room.{RowFits}
use Rattle.region.specs.Ahead.{regions-few}
use Rattle.region.specs.NextLaws.{next-ahead}
use Rattle.region.specs.Memory.{KeptNext}
use Rattle.region.specs.LoopLaws.{Pouring, counting-told, pouring_room}
use Rattle.region.specs.declared.Region.{Region as Told}
use Rattle.context.specs.Build.{built_answer, built_list, Built}
use Rattle.common.specs.declared.refusal.Refusal.{Refusal}
use Rattle.region.specs.declared.Region.{Region}

-- ---- the loop that writes: a region has room and fits
pub region_fits : (g : Gram) (s m out₀ out : List ℕ) (n q : ℕ) (d : Option (Region × ℕ)) (m' : List ℕ) → Pouring row_of wide g s m out₀ out n q → KeptNext g s m q d m' → (r : Told) (k : ℕ) → d ≡ Some (r, k) → length s ≤ 4294967295
    → RowFits n r.start r.end out
region_fits g s m out₀ out n q d m' i kept r k e h =
    let w = next-ahead g s q i.counting.here d (counting-told g s m n q d m' i.counting kept) r k e in
    record { room = pouring_room row_of wide g s m out₀ out n q d m' i kept r k e; low = omega (arith, w.1, w.2); high = omega (arith, w.1, w.2) }

-- ---- the ways out of filling: `most` is the room
pub fill_roomy : (g : Gram) (s out out' : List ℕ) (most n : ℕ) → most ≡ length out / wide → length s / 2 < most → Wrote row_of (regions g s) out out' n → Filled row_of wide (regions g s) out out' (given (n ∷ []))
fill_roomy g s out out' most n hm h w = fill_done row_of wide (regions g s) out most hm out' n (omega (arith, regions-few g s)) w

-- there is room
pub room_roomy : (g : Gram) (s out : List ℕ) (most : ℕ) → most ≡ length out / wide → length s / 2 < most → length (regions g s) ≤ room wide out
room_roomy g s out most hm h = omega (arith, regions-few g s)

-- ---- the ways out of building: b says whether columns differ
module _ (g : Grammar) (c : Columns) (s out : List ℕ) where
  pub built_long : 4294967295 < length s → Built g c s out out (refused 1)
  unfolding built_answer build_answer built_list
  built_long h = record { answer = simp (lt-ltb 4294967295 (length s) h); list = simp (lt-ltb 4294967295 (length s) h) }

  module _ (b : Bool) (short : length s ≤ 4294967295) where
    pub built_differ : b ≡ true → Gives (unequal c) b → Built g c s out out (refused 6)
    unfolding built_answer build_answer built_list
    built_differ e d =
        let z : unequal c ≡ true = sym d.answer ∙ e in
        record { answer = simp (le-ltb 4294967295 (length s) short, z); list = simp (le-ltb 4294967295 (length s) short, z) }

    built_all : (out' : List ℕ) (a : Outcome) → b ≡ false → Gives (unequal c) b → Filled row_of wide (regions (gram_of g c) s) out out' a → Built g c s out out' a
    unfolding built_answer build_answer built_list
    built_all out' a e d v =
        let z : unequal c ≡ false = sym d.answer ∙ e in
        record { answer = v.answer ∙ simp (le-ltb 4294967295 (length s) short, z); list = v.list ∙ simp (le-ltb 4294967295 (length s) short, z) }

-- by the columns, folded
pub built_folded : (g : Grammar) (c : Columns) (s out out' : List ℕ) (b : Bool) (t : Tables) (a : Outcome) → length s ≤ 4294967295 → b ≡ false → Gives (unequal c) b → TablesOf g c t
    → Filled row_of wide (regions (gram_in t) s) out out' a → Built g c s out out' a
built_folded g c s out out' b t a short e d w v = built_all g c s out b short out' a e d (subst (λ (x : Gram). Filled row_of wide (regions x s) out out' a) (gram_told w) v)

-- two results of building for the same arguments are one: the answer, and the list that is left
pub built_unique : {g : Grammar} {c : Columns} {s out out' out'' : List ℕ} {r r' : Result ℕ Refusal} → Built g c s out out' (told r) → Built g c s out out'' (told r') → (r ≡ r') × (out' ≡ out'')
built_unique {g = g} {c = c} {s = s} {out = out} a b =
    (answer_unique {o = built_answer g c s out} (record { answer = a.answer }) (record { answer = b.answer }), a.list ∙ sym b.list)

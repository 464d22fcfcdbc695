-- Laws of the entries of the leaves: their replies by what the core gives. Assumes nothing.
use Rattle.std.specs.Prelude.{◌≡◌, List, [], ◌∷◌, ◌++◌, ℕ, Bool}
use Rattle.std.proofs.Common.{ap, subst, ◌∙◌}
use Rattle.search.specs.Promise.{Gives}
use Rattle.common.specs.Refusals.{given}
use Rattle.common.specs.Sets.{set_of, probe, as_flag}
use Rattle.common.specs.declared.sets.Probe.{Probe}
use Rattle.rules.specs.Columns.{search_bytes}
use Rattle.rules.specs.declared.search_bytes.SearchBytes.{SearchBytes}
use Rattle.cells.specs.Reply.{Replied}
use Rattle.panel.specs.Leaves.{probe_values, probe_answer, search_values, search_answer}

pub probe_reply : (accepted : List ℕ) (set : List Bool) (p : Probe) (x : ℕ) (run run' : List ℕ) (n : ℕ) → Gives (set_of accepted) set → Gives (probe set) p → Gives (as_flag p.streaming) x
    → Replied (given ((x ∷ p.nn ∷ []) ++ p.needles)) run run' n → Replied (probe_answer accepted) run run' n
unfolding probe_answer
probe_reply accepted set p x run run' n s g f d =
    let e : x ∷ p.nn ∷ p.needles ≡ probe_values p = ap (λ (y : ℕ). y ∷ p.nn ∷ p.needles) f.answer in
    subst (λ (l : List ℕ). Replied (given l) run run' n) (e ∙ ap probe_values (g.answer ∙ ap probe s.answer)) d

pub search_reply : (f y o : List ℕ) (w : SearchBytes) (run run' : List ℕ) (n : ℕ) → Gives (search_bytes f y o) w → Replied (given ((w.count ∷ []) ++ w.bytes)) run run' n → Replied (search_answer f y o) run run' n
unfolding search_answer
search_reply f y o w run run' n g d = subst (λ (l : List ℕ). Replied (given l) run run' n) (ap search_values g.answer) d

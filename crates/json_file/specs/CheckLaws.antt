-- The first pass over a file: what its loop knows, and the ways out. Assumes nothing.
use Rattle.std.specs.Prelude.{◌≡◌, Bool, true, false, ◌&&◌, List, [], ◌∷◌, ◌++◌, map, ℕ, ◌+◌, ◌<◌, ◌≤◌, leb, ltb, length, Result, Ok, Err}
use Rattle.std.proofs.Math.Path.{refl, subst}
use Rattle.std.proofs.Common.{sym, ap, ◌∙◌, append_assoc, append-nil, arith, Fits, length-append, le-leb, lt-ltb, le-ltb}
use Rattle.std.specs.Int.{w32}
use Rattle.std.proofs.lemmas.Bool.{lt-leb}
use Rattle.search.specs.Promise.{Gives}
use Rattle.common.specs.Entry.{shaped}
use Rattle.common.specs.Refusals.{span_values}
use Rattle.common.specs.declared.span.Span.{Span}
use Rattle.json_file.specs.Form.{outset, span, follow, may_end, broken_at}
use Rattle.json_file.specs.Grammar.{greatest}
use Rattle.json_file.specs.Records.{list_shaped, checked_of, finished_as, stays_shaped}
use Rattle.json_file.specs.Walk.{Reached, WalkedTo, Walks}
use Rattle.json_file.specs.WalkLaws.{reached_first}
use Rattle.json_file.specs.declared.phase.Phase.{Phase}
use Rattle.json_file.specs.declared.phase.Phase.TheVariants as phase
use Rattle.json_file.specs.declared.objects.NextObject.{NextObject}
use Rattle.json_file.specs.declared.objects.NextObject.TheVariants as next
use Rattle.json_file.specs.declared.Unread.{Unread}
use Rattle.json_file.specs.declared.Unread.TheVariants as unread
use Rattle.common.specs.declared.refusal.Refusal.TheVariants.{ListMisshapen}

-- ---- regions in order, with one more
and_none : (c : Bool) → false ≡ c && false
and_none true = refl
and_none false = refl

and_all : (c : Bool) → c ≡ c && true
and_all true = refl
and_all false = refl

module _ (good : Bool) (low a b : ℕ) where
  pub joins_early : a < low → false ≡ stays_shaped good low a b
  joins_early h = and_none good ∙ rw (lt-leb low a h) refl

  pub joins_empty : low ≤ a → b ≤ a → false ≡ stays_shaped good low a b
  joins_empty h k = and_none good ∙ rw (le-leb low a h, le-ltb a b k) refl

  pub joins_on : low ≤ a → a < b → Fits w32 b → good ≡ stays_shaped good low a b
  joins_on h k f =
      let m : b ≤ greatest = omega (arith, f.fits) in
      and_all good ∙ rw (le-leb low a h, lt-ltb a b k, le-leb b greatest m) refl

pub ruleset join_rules = (joins_early, joins_empty, joins_on)

-- ---- what is said at the end
module _ (g : Phase) (good : Bool) (n len : ℕ) (y : Bool) where
  pub finish_whole : y ≡ true → Gives (may_end g) y → good ≡ true → Ok n ≡ finished_as g good n len
  finish_whole e v b = rw (← v.answer, e, b) refl

  pub finish_misshapen : y ≡ true → Gives (may_end g) y → good ≡ false → Err (unread.Refused ListMisshapen) ≡ finished_as g good n len
  finish_misshapen e v b = rw (← v.answer, e, b) refl

  pub finish_broken : y ≡ false → Gives (may_end g) y → Err (unread.Broken len) ≡ finished_as g good n len
  finish_broken e v = rw (← v.answer, e) refl

pub ruleset finish_rules = (finish_whole, finish_misshapen, finish_broken)

-- ---- the pass
-- it has n regions behind it, which are in order or not, and the last of which ends at low
pub record Checks (s : List ℕ) (i : ℕ) (g : Phase) (n low : ℕ) (good : Bool) : Type 0 where
  pub behind : List Span
  pub reached : Reached s i g behind
  pub shape : (l : List Span) → list_shaped (behind ++ l) ≡ (good && shaped low greatest (map span_values l))
  pub size : length behind ≡ n
  pub few : n ≤ i
  pub within : i ≤ length s

pub checks_first : (s : List ℕ) → Checks s 0 phase.Begin 0 0 true
checks_first s = record { behind = []; reached = reached_first s; shape = λ l. refl; size = refl; few = omega arith; within = omega arith }

and_over : (good a b c d : Bool) → (good && (((a && b) && c) && d)) ≡ ((good && (a && (b && c))) && d)
and_over true true b c d = refl
and_over true false b c d = refl
and_over false a b c d = refl

module _ (s : List ℕ) (i : ℕ) (g : Phase) (n low : ℕ) (good : Bool) (w : Checks s i g n low good) where
  -- no more regions than bytes
  pub checks_few : n ≤ i
  checks_few = w.few

  pub checks_within : i ≤ length s
  checks_within = w.within

  module _ (r : NextObject) (v : Walks s i g r) where
    pub checks_region : (a b k : ℕ) (y : Bool) → r ≡ next.Region a b k → Gives (stays_shaped good low a b) y → Checks s k phase.Closed (n + 1) b y
    checks_region a b k y e j =
        let t : WalkedTo s i g (next.Region a b k) = subst (WalkedTo s i g) e v.to in
        record {
          behind = w.behind ++ (span a b ∷ []);
          reached = t.2 w.behind w.reached;
          shape = λ l.
              ap list_shaped (append_assoc w.behind (span a b ∷ []) l) ∙ w.shape (span a b ∷ l)
              ∙ and_over good (leb low a) (ltb a b) (leb b greatest) (shaped b greatest (map span_values l))
              ∙ ap (λ (z : Bool). z && shaped b greatest (map span_values l)) (sym j.answer);
          size = length-append w.behind (span a b ∷ []) ∙ ap (λ (z : ℕ). z + 1) w.size;
          few = omega (arith, w.few, t.0);
          within = t.1;
        }

    pub checked_bad : (p : ℕ) → r ≡ next.Bad p → Err (unread.Broken p) ≡ checked_of (follow outset s) (broken_at outset s)
    unfolding checked_of
    checked_bad p e =
        let t = subst (WalkedTo s i g) e v.to w.behind w.reached in
        rw (t.0, t.1) refl

    in_order : list_shaped w.behind ≡ good
    in_order = ap list_shaped (sym (append-nil w.behind)) ∙ w.shape [] ∙ sym (and_all good)

    pub checked_over : (k : Phase) (c : Result ℕ Unread) → r ≡ next.Over k → Gives (finished_as k good n (length s)) c → c ≡ checked_of (follow outset s) (broken_at outset s)
    unfolding checked_of
    checked_over k c e f =
        let t = subst (WalkedTo s i g) e v.to w.behind w.reached in
        f.answer ∙ rw (t.0, t.1, in_order, w.size) refl

pub ruleset check_rules = (checks_first, checks_region, checked_bad, checked_over)

-- Mission demand 3, of the definitions: the old text's regions, amended, are the finished text's regions. Assumes nothing.
-- The page: "mission demand 3 adds that the old list was built from the old text, by the grammar and rules the amendment is given".
use Rattle.std.specs.Prelude.{◌≡◌, refl, Bool, true, false, ◌||◌, cond, List, ◌++◌, map, ℕ, ltb, length}
use Rattle.std.proofs.Common.{ap, ◌∙◌, inl, inr, ⊎_elim}
use Rattle.std.proofs.lemmas.List.{map-append}
use Rattle.search.specs.Search.{is}
use Rattle.search.specs.SearchLaws.{clash, is_yes, neither}
use Rattle.common.specs.Rules.{has_rule, least_of, on_byte}
use Rattle.common.specs.declared.grammar.Grammar.{Grammar}
use Rattle.region.specs.Region.{Region, up, Origin, retag}
use Rattle.rules.specs.Grammar.{plain, Gram}
use Rattle.region.specs.Regions.{regions, tagged}
use Rattle.rules.specs.Columns.{InlineRules, Columns, sym_rule, open_rule, inline_rule, gram_of}
use Rattle.region.specs.Ahead.{regions_in_order}
use Rattle.amend.specs.Local.{Linewise, FreeLineEnd}
use Rattle.amend.specs.LocalLaws.{reader_linewise}
use Rattle.amend.specs.Amend.{Edit}
use Rattle.amend.specs.Several.{finished, relist, Fits}
use Rattle.amend.specs.Joins.{Blank, Decided, Joins}
use Rattle.amend.specs.Amended.{uses_line_end}
use Rattle.amend.specs.Join.{regions_decided}
use Rattle.amend.specs.Edits.{amended}
use Rattle.amend.specs.Lists.{retag-up, retag-reaches, retag_order}

-- where lists join, so do the same lists with other tags
pub retag_joins : {S T : Type 0} (f : S → T) (eol : ℕ) (build : List ℕ → List (Region S)) → Joins eol build → Joins eol (λ s. map (retag f) (build s))
retag_joins {S} {T} f eol build joins = record { ordered = λ s. retag_order f 0 (length s) (build s) (joins.ordered s); decided = decided }
  where
    decided : (a b : List ℕ) → Blank eol a → Decided (length a) (map (retag f) (build a)) (map (retag f) (build (a ++ b))) (up (length a) (map (retag f) (build b)))
    decided a b two =
        ⊎_elim
        (λ w. inl (retag-reaches f (length a) (build a) ∙ w.0, ap (map (retag f)) w.1 ∙ map-append (retag f) (build a) (up (length a) (build b)) ∙ ap (λ (z : List (Region T)). map (retag f) (build a) ++ z) (retag-up f (length a) (build b))))
        (λ w. inr (retag-reaches f (length a) (build a) ∙ w.0, retag-reaches f (length a) (build (a ++ b)) ∙ w.1))
        (joins.decided a b two)

-- ---- every grammar that the facts about joints hold for, and any number of edits at one go
module _ (g : Gram) (lines : Linewise g.eol g.fences) (apart : FreeLineEnd g) where
  pub regions_join : Joins g.eol (regions g)
  regions_join = record { ordered = regions_in_order g; decided = λ a b two. regions_decided g lines a b two apart }

  -- with whatever is said of the rules
  pub demand : {T : Type 0} (f : Origin → T) (s : List ℕ) (es : List Edit) → Fits g.eol (tagged f g) s 0 es → relist (tagged f g) 0 0 es (tagged f g s) ≡ tagged f g (finished 0 es s)
  demand f s es fits = amended g.eol (tagged f g) (retag_joins f g.eol (regions g) regions_join) s es fits

-- ---- by the rules' columns
no_rule_lem : (i : InlineRules) (b : ℕ) → has_rule i.sym_bytes b ≡ false → has_rule i.openers b ≡ false → inline_rule i b ≡ plain
unfolding sym_rule open_rule
no_rule_lem i b e f = rw (e, f)

module _ (g : Grammar) (c : Columns) (free : uses_line_end g c ≡ false) where
  columns-lines : Linewise g.eol (gram_of g c).fences
  columns-lines = reader_linewise g (on_byte false (has_rule c.fence_bytes)) (on_byte 0 (least_of c.fence_bytes c.fence_mins))

  columns_apart : FreeLineEnd (gram_of g c)
  columns_apart = record { escape = λ e. clash (is_yes g.eol g.escape e) w.0; opener = by (ltb g.eol 256) }
    where
      w : (is g.eol g.escape ≡ false) × ((has_rule c.inline.sym_bytes g.eol || has_rule c.inline.openers g.eol) ≡ false)
      w = neither (is g.eol g.escape) _ free

      v : (has_rule c.inline.sym_bytes g.eol ≡ false) × (has_rule c.inline.openers g.eol ≡ false)
      v = neither (has_rule c.inline.sym_bytes g.eol) _ w.1

      by : (t : Bool) → cond t (inline_rule c.inline g.eol) plain ≡ plain
      by true = no_rule_lem c.inline g.eol v.0 v.1
      by false = refl

  pub demand_columns : {T : Type 0} (f : Origin → T) (s : List ℕ) (es : List Edit) → Fits g.eol (tagged f (gram_of g c)) s 0 es
      → relist (tagged f (gram_of g c)) 0 0 es (tagged f (gram_of g c) s) ≡ tagged f (gram_of g c) (finished 0 es s)
  demand_columns = demand (gram_of g c) columns-lines columns_apart

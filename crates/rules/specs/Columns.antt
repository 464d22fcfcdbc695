-- The grammar of rules given as columns. Assumes nothing.
-- The page: "Rules come as columns of numbers" and "Bytes searched for: fence bytes, symmetric bytes, asymmetric openers, in that order,
-- without repeats, the first eleven kept."
use Rattle.std.specs.Prelude.{Bool, false, not, cond, ◌||◌, ◌&&◌, List, [], ◌∷◌, ◌++◌, ℕ, zero, suc, ◌+◌, leb, length, get_or, take, set}
use Rattle.common.specs.Refusals.{differ}
use Rattle.common.specs.Sets.{padded, as_flag}
use Rattle.search.specs.Search.{one_of}
use Rattle.common.specs.Rules.{rule_index, has_rule, least_of, entry, on_byte}
use Rattle.lines.specs.Reader.{reader}
use Rattle.common.specs.declared.grammar.Grammar.{Grammar}
use Rattle.rules.specs.Grammar.{Rule, plain, sym, asym, Gram}
use Rattle.rules.specs.declared.columns.InlineColumns.{InlineColumns}
use Rattle.rules.specs.declared.columns.RuleColumns.{RuleColumns}
use Rattle.rules.specs.declared.search_bytes.SearchBytes.{SearchBytes}
use Rattle.rules.specs.declared.search_bytes.Alphabet.{Alphabet}

-- the inline rules as columns: symmetric bytes and counts; asymmetric openers, closers and counts
pub record InlineRules : Type 0 where
  pub sym_bytes : List ℕ
  pub sym_counts : List ℕ
  pub openers : List ℕ
  pub closers : List ℕ
  pub open_counts : List ℕ

abbrev pub inline_rules : List ℕ → List ℕ → List ℕ → List ℕ → List ℕ → InlineRules
inline_rules symmetric times openers closers counts = record { sym_bytes = symmetric; sym_counts = times; openers = openers; closers = closers; open_counts = counts }

-- the rules as columns: fence bytes and minimums, and the inline rules
pub record Columns : Type 0 where
  pub fence_bytes : List ℕ
  pub fence_mins : List ℕ
  pub inline : InlineRules

abbrev pub columns : List ℕ → List ℕ → List ℕ → List ℕ → List ℕ → List ℕ → List ℕ → Columns
columns fences mins symmetric times openers closers counts = record { fence_bytes = fences; fence_mins = mins; inline = inline_rules symmetric times openers closers counts }

-- "a rule's columns differ in length": those of an inline rule; those of any
abbrev pub unequal_inline : InlineRules → Bool
unequal_inline i = differ i.sym_bytes i.sym_counts || (differ i.openers i.closers || differ i.openers i.open_counts)

abbrev pub unequal : Columns → Bool
unequal c = differ c.fence_bytes c.fence_mins || unequal_inline c.inline

-- ---- columns that a program holds: `numbers` are those of a count column, `differs` says whether they are as many as some bytes
abbrev pub inline_of : {T : Type 0} → (List T → List ℕ) → InlineColumns T → InlineRules
inline_of numbers i = inline_rules i.symmetric.now (numbers i.times.now) i.openers.now i.closers.now (numbers i.counts.now)

abbrev pub columns_of : {T : Type 0} → (List T → List ℕ) → RuleColumns T → Columns
columns_of numbers c = record { fence_bytes = c.fences.now; fence_mins = c.mins.now; inline = inline_of numbers c.inline }

-- of numbers these are `unequal_inline` and `unequal`, of bytes `uneven` and `uneven_columns`
abbrev pub inline_differ : {T : Type 0} → (List ℕ → List T → Bool) → InlineColumns T → Bool
inline_differ differs i = differs i.symmetric.now i.times.now || (differ i.openers.now i.closers.now || differs i.openers.now i.counts.now)

abbrev pub columns_differ : {T : Type 0} → (List ℕ → List T → Bool) → RuleColumns T → Bool
columns_differ differs c = differ c.fences.now c.mins.now || inline_differ differs c.inline

-- ---- the bytes searched for
-- whether a list gains nothing by a byte: it has eleven already, or has that byte
abbrev pub holding : List ℕ → ℕ → Bool
holding l b = leb 11 (length l) || one_of l b

-- a list that gains a byte
abbrev pub gained : List ℕ → ℕ → List ℕ
gained l b = cond (holding l b) l (l ++ (b ∷ []))

abbrev pub gained_all : List ℕ → List ℕ → List ℕ
gained_all l [] = l
gained_all l (b ∷ bs) = gained_all (gained l b) bs

-- "fence bytes, symmetric bytes, asymmetric openers, in that order, without repeats, the first eleven kept"
abbrev pub gained_of : List ℕ → List ℕ → List ℕ → List ℕ
gained_of fences symmetric openers = gained_all (gained_all (gained_all [] fences) symmetric) openers

unfoldable pub searched : Columns → List ℕ
searched c = gained_of c.fence_bytes c.inline.sym_bytes c.inline.openers

-- ---- the bytes left out
-- how many numbers below n pass a test
unfoldable pub how_many : (ℕ → Bool) → ℕ → ℕ
how_many t zero = 0
how_many t (suc n) = as_flag (t n) + how_many t n

-- whether a byte is a fence's, a symmetric one or an opener
abbrev pub rule_byte : List ℕ → List ℕ → List ℕ → ℕ → Bool
rule_byte fences symmetric openers b = one_of fences b || (one_of symmetric b || one_of openers b)

-- "how many distinct bytes were left out": of the 256 bytes, those that are a rule's and none of the kept ones
abbrev pub left_of : List ℕ → List ℕ → List ℕ → List ℕ → ℕ
left_of kept fences symmetric openers = how_many (λ b. rule_byte fences symmetric openers b && not (one_of kept b)) 256

-- of all rules
unfoldable pub left_out : Columns → ℕ
left_out c = left_of (searched c) c.fence_bytes c.inline.sym_bytes c.inline.openers

-- how many of three sets, which such columns may be given as, have a number
abbrev pub sets_with : List Bool → List Bool → List Bool → ℕ → ℕ
sets_with a b c x = as_flag (entry false a x) + as_flag (entry false b x) + as_flag (entry false c x)

-- ---- the same as an array of eleven and a count
abbrev pub as_bytes : List ℕ → SearchBytes
as_bytes l = record { bytes = padded 11 l; count = length l }

abbrev pub no_bytes : SearchBytes
no_bytes = as_bytes []

-- one byte more, also for a record made by hand
unfoldable pub with_byte : SearchBytes → ℕ → SearchBytes
with_byte w b = cond (leb 11 w.count || one_of (take w.count w.bytes) b) w (record { bytes = set w.bytes w.count b; count = w.count + 1 })

unfoldable pub gathered : SearchBytes → List ℕ → SearchBytes
gathered w [] = w
gathered w (b ∷ bs) = gathered (with_byte w b) bs

abbrev pub search_bytes : List ℕ → List ℕ → List ℕ → SearchBytes
search_bytes fences symmetric openers = as_bytes (gained_of fences symmetric openers)

-- ---- the bytes that a scan for regions goes by
abbrev pub alphabet_of : Grammar → List ℕ → List ℕ → List ℕ → Alphabet
alphabet_of g fences symmetric openers = record { grammar = g; searched = search_bytes fences symmetric openers }

-- ---- what a byte opens
-- the first asymmetric rule with a byte, if any
unfoldable pub open_rule : List ℕ → List ℕ → List ℕ → ℕ → Rule
open_rule openers closers counts b = cond (has_rule openers b) (asym (rule_index openers b) (get_or closers (rule_index openers b) 0) (get_or counts (rule_index openers b) 0)) plain

-- the first symmetric rule with a byte, else another
unfoldable pub sym_rule : List ℕ → List ℕ → (ℕ → Rule) → ℕ → Rule
sym_rule bytes counts other b = cond (has_rule bytes b) (sym (rule_index bytes b) (get_or counts (rule_index bytes b) 0)) (other b)

-- "the inline rule, symmetric before asymmetric, first match"
abbrev pub inline_rule : InlineRules → ℕ → Rule
inline_rule i b = sym_rule i.sym_bytes i.sym_counts (open_rule i.openers i.closers i.open_counts) b

-- the index of the first fence rule with a byte, else 0
abbrev pub fence_index_of : List ℕ → ℕ → ℕ
fence_index_of bytes b = cond (has_rule bytes b) (rule_index bytes b) 0

-- the grammar of the columns
abbrev pub gram_of : Grammar → Columns → Gram
gram_of g c = record {
  eol = g.eol;
  escape = g.escape;
  trigger = one_of (searched c);
  rule = on_byte plain (inline_rule c.inline);
  fence_index = on_byte 0 (fence_index_of c.fence_bytes);
  fences = reader g (on_byte false (has_rule c.fence_bytes)) (on_byte 0 (least_of c.fence_bytes c.fence_mins));
}

-- The stretch of a text that a span names. Assumes nothing.
-- The page: "An item's content is the caller's own stretch of text; a span that is reversed or past the text gives the empty stretch at
-- its start, or at the text's end where the start is past that."
use Rattle.std.specs.Prelude.{◌≡◌, cond, ◌&&◌, List, ℕ, ◌+◌, ◌-◌, min, leb, length, take, drop}
use Rattle.std.specs.Borrow.{Bor}
use Rattle.common.specs.declared.span.Bounds.{Bounds}

abbrev pub bounds : ℕ → ℕ → Bounds
bounds a e = record { start = a; end = e }

-- the span's own bounds; "a span that is reversed or past the text gives the empty stretch at its start, or at the text's end where
-- the start is past that"
abbrev pub stretch : ℕ → ℕ → ℕ → Bounds
stretch len a e = cond (leb a e && leb e len) (bounds a e) (bounds (min a len) (min a len))

-- the bytes of a text between two bounds
abbrev pub cut : List ℕ → Bounds → List ℕ
cut s b = take (b.end - b.start) (drop b.start s)

-- where a text's bytes from place n on lie: in the text's own block, n further on
abbrev pub onward : Bor (List ℕ) → ℕ → ℕ × ℕ
onward text n = (text.ref_ptr.0, n + text.ref_ptr.1)

-- what `content` promises: "the caller's own stretch of text". It begins where the stretch does, an empty one too, and its bytes are those
-- that stand there
pub record Stretch (text : Bor (List ℕ)) (a e : ℕ) (r : Bor (List ℕ)) : Type 0 where
  pub place : r.ref_ptr ≡ onward text (stretch (length text.now) a e).start
  pub bytes : r.now ≡ cut text.now (stretch (length text.now) a e)

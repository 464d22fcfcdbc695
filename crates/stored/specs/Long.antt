-- Texts that are too long for a line. Assumes nothing.
-- The head of the first list: "A letter with a star has its text in runs: for each a byte and how often it stands there." and "A number d begins
-- at the seed; for each byte d = (d * 1103515245 + 12345) % 2^31, and the byte is alphabet[(d / 2^16) % A]. The next text goes on with the
-- d of the last."
use Rattle.std.specs.Prelude.{cond, List, [], ◌∷◌, ℕ, zero, suc, ◌+◌, ◌*◌, ◌/◌, ◌%◌, min, leb, set, replicate}
use Rattle.stored.specs.Parts.{front}
use Rattle.stored.specs.Texts.{name_in}
use Rattle.stored.specs.declared.long.Long.{Long}
use Rattle.stored.specs.declared.long.Drawn.{Drawn}

-- ---- in runs
abbrev pub no_text : Long
no_text = record { bytes = replicate 8200 0; size = 0 }

-- one byte more, where there is room for it
abbrev pub long_with_byte : Long → ℕ → Long
long_with_byte t b = cond (leb 8200 t.size) t (record { bytes = set t.bytes t.size b; size = t.size + 1 })

-- "a byte and how often it stands there"
unfoldable pub with_run : Long → ℕ → ℕ → Long
with_run t b zero = t
with_run t b (suc n) = with_run (long_with_byte t b) b n

-- "for each a byte and how often it stands there"; a last byte alone stands there never
unfoldable pub in_runs : Long → List ℕ → Long
in_runs t [] = t
in_runs t (b ∷ []) = t
in_runs t (b ∷ n ∷ l) = in_runs (with_run t (b % 256) n) l

-- ---- drawn
-- "d = (d * 1103515245 + 12345) % 2^31"
abbrev pub next_draw : ℕ → ℕ
next_draw d = (d * 1103515245 + 12345) % 2147483648

-- d after so many bytes
unfoldable pub draw_after : ℕ → ℕ → ℕ
draw_after d zero = d
draw_after d (suc n) = next_draw (draw_after d n)

-- "alphabet[(d / 2^16) % A]"
abbrev pub drawn_byte : List ℕ → ℕ → ℕ
drawn_byte alphabet d = name_in alphabet (d / 65536)

-- "for each byte d = …, and the byte is …"
unfoldable pub drawn_at : List ℕ → ℕ → ℕ → ℕ
drawn_at alphabet d i = drawn_byte alphabet (draw_after d (suc i))

-- a text of a length, of which as much is kept as there is room for, and the d that the next begins with
abbrev pub drawn_text : ℕ → List ℕ → ℕ → Drawn
drawn_text d alphabet len = record { bytes = front (drawn_at alphabet d) (min len 8200) 8200; last = draw_after d (min len 8200) }

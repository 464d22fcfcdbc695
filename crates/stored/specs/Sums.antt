-- The checksums of a block. Assumes nothing.
-- The head of the first list: "Both sums begin at 0. To feed x: h = (h * 65599 + x + 1) % 4294967291 for the first, h = (h * 69069 + x + 1)
-- % 4294967279 for the second. Each question feeds n, the bytes, the place where it has one, and the numbers of the answer."
use Rattle.std.specs.Prelude.{Bool, cond, List, ℕ, ◌+◌, ◌*◌, ◌%◌, min, length}
use Rattle.std.specs.List.{fold}
use Rattle.stored.specs.declared.texts.Places.{Places}
use Rattle.stored.specs.declared.texts.Places.TheVariants.{Whole, FromStart, FromSecond, Beyond, Nowhere, AtStart}
use Rattle.stored.specs.declared.sums.Sums.{Sums}

-- a length or a place as a number of a list: one that is too large is cut
abbrev pub clipped : ℕ → ℕ
clipped n = min n 4294967295

abbrev pub no_sums : Sums
no_sums = record { asked = 0; first = 0; second = 0; lift = 0; raise = 0 }

-- "To feed x"
abbrev pub fed : Sums → ℕ → Sums
fed s x = record {
  asked = s.asked;
  first = (s.first * 65599 + x + 1) % 4294967291;
  second = (s.second * 69069 + x + 1) % 4294967279;
  lift = s.lift;
  raise = s.raise;
}

-- "Each question feeds n, the bytes, the place where it has one"
abbrev pub fed_text : Sums → List ℕ → Sums
fed_text s t = fold fed (fed s (clipped (length t))) t

abbrev pub fed_question : Sums → List ℕ → Places → ℕ → Sums
fed_question s t Whole p = fed_text s t
fed_question s t FromStart p = fed (fed_text s t) (clipped p)
fed_question s t FromSecond p = fed (fed_text s t) (clipped p)
fed_question s t Beyond p = fed (fed_text s t) (clipped p)
fed_question s t Nowhere p = fed (fed_text s t) (clipped p)
fed_question s t AtStart p = fed (fed_text s t) (clipped p)

-- a number of an answer, unless a refusal came before it; what one more in an earlier count adds moves on with it
abbrev pub fed_answer : Sums → ℕ → Bool → Sums
fed_answer s x cut = cond cut s (record {
  asked = s.asked;
  first = (fed s x).first;
  second = (fed s x).second;
  lift = s.lift * 65599 % 4294967291;
  raise = s.raise * 69069 % 4294967279;
})

-- the number fed last is a count
abbrev pub counting : Sums → Sums
counting s = record { asked = s.asked; first = s.first; second = s.second; lift = 1; raise = 1 }

-- that count was fed as 0, and is so many
abbrev pub counted_sums : Sums → ℕ → Sums
counted_sums s n = record {
  asked = s.asked;
  first = (n * s.lift % 4294967291 + s.first) % 4294967291;
  second = (n * s.raise % 4294967279 + s.second) % 4294967279;
  lift = s.lift;
  raise = s.raise;
}

-- one more question
abbrev pub one_more : Sums → Sums
one_more s = record { asked = clipped (s.asked + 1); first = s.first; second = s.second; lift = s.lift; raise = s.raise }

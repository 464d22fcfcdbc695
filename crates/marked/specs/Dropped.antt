-- Examples computed from the definitions: how many bytes of rules are left out of the search. Assumes nothing.
use Rattle.std.specs.Prelude.{◌≡◌, refl, List, [], ◌∷◌, ◌++◌, map, ℕ}
use Rattle.search.specs.Search.{one_of}
use Rattle.rules.specs.Columns.{Columns, columns, searched, how_many, left_out}

-- two fences, backticks and tildes, and symmetric marks, once each
abbrev site : List ℕ → Columns
site marks = columns (96 ∷ 126 ∷ []) (3 ∷ 3 ∷ []) marks (map (λ b. 1) marks) [] [] []

-- eight private marks and the backtick: with the tilde ten bytes; with the comma eleven
abbrev ten : List ℕ
ten = 96 ∷ 33 ∷ 35 ∷ 36 ∷ 37 ∷ 38 ∷ 39 ∷ 42 ∷ 43 ∷ []

abbrev eleven : List ℕ
eleven = 44 ∷ ten

-- none of eleven; one of twelve, also where it is given three times; two of thirteen
left : map (λ l. left_out (site l)) (ten ∷ eleven ∷ (45 ∷ eleven) ∷ (45 ∷ (eleven ++ (43 ∷ 43 ∷ []))) ∷ (45 ∷ 61 ∷ eleven) ∷ []) ≡ 0 ∷ 0 ∷ 1 ∷ 1 ∷ 2 ∷ []
unfolding one_of searched how_many left_out
left = refl

-- and one that two kinds of rules have counts once: of thirteen + is left out, a symmetric mark and an opener, and =
twice : left_out (columns (96 ∷ 126 ∷ []) (3 ∷ 3 ∷ []) (45 ∷ eleven) (map (λ b. 1) (45 ∷ eleven)) (43 ∷ 61 ∷ []) (62 ∷ 62 ∷ []) (1 ∷ 1 ∷ [])) ≡ 2
unfolding one_of searched how_many left_out
twice = refl

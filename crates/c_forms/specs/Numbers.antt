-- The numbers that an answer in C may hold as its refusal: 0 or that of one of the call's checks. Assumes nothing.
use Rattle.std.specs.Prelude.{ℕ, Bool, false, List, [], ◌∷◌, eqb}
use Rattle.lists.specs.Bool.{◌or◌}

-- n is among the numbers
unfoldable pub among : List ℕ → ℕ → Bool
among [] n = false
among (m ∷ ms) n = eqb n m or among ms n

abbrev pub planning : List ℕ
planning = 0 ∷ 1 ∷ 2 ∷ 3 ∷ 4 ∷ 5 ∷ 6 ∷ 7 ∷ 8 ∷ 26 ∷ []

abbrev pub looking : List ℕ
looking = 0 ∷ 20 ∷ 21 ∷ 22 ∷ []

abbrev pub adding : List ℕ
adding = 0 ∷ 9 ∷ 10 ∷ 11 ∷ 20 ∷ 21 ∷ 22 ∷ 23 ∷ []

abbrev pub gathering : List ℕ
gathering = 0 ∷ 24 ∷ 25 ∷ []

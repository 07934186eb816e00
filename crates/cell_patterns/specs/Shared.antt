-- The shared vertices of two cells as code lists them, and the place of a vertex in a cell. Assumes nothing.
use Rattle.std.specs.Prelude.{ℕ, ◌<◌, ◌≡◌, Option, None, Some, List, [], ◌∷◌, map, length, get_or, eqb}
use mathlib.Core.HLevel.{×_prop, Unit-prop}
use native.Mathlib.Bridge.{le_prop}
use Rattle.lists.specs.Bounded.{least}
use Rattle.lists.specs.Range.{AllIn}
use Rattle.cell_pairs.specs.Matches.{Match, ◌⇄◌}
use Rattle.cell_patterns.specs.declared.shared.SharedVertex.{SharedVertex}

-- the shared vertices, by their places in the two cells
abbrev pub matches_in : List SharedVertex → List Match
matches_in vs = map (λ (v : SharedVertex). v.test ⇄ v.trial) vs

-- the places of one are below 4
abbrev pub Small : SharedVertex → Type 0
Small v = (v.test < 4) × (v.trial < 4)

-- that each is so is a fact
pub small_fact : (vs : List SharedVertex) → IsProp (AllIn Small vs)
unfolding AllIn
small_fact [] = Unit-prop
small_fact (v ∷ vs) = ×_prop (×_prop le_prop le_prop) (small_fact vs)

-- the vertex at trial place q, where it has the test place that is told
abbrev pub one_at : Option ℕ → ℕ → List SharedVertex
one_at None q = []
one_at (Some p) q = record { test = p; trial = q } ∷ []

-- the place of the vertex x in a cell; the number of its vertices where it has none
unfoldable pub place_in : List ℕ → ℕ → ℕ
place_in xs x = least (length xs) (λ p. eqb (get_or xs p 0) x)

-- what a function answers for a place below n, where n stands for none
abbrev pub IsPlace : Option ℕ → ℕ → ℕ → Type 0
IsPlace None p n = p ≡ n
IsPlace (Some q) p n = (q ≡ p) × (q < n)

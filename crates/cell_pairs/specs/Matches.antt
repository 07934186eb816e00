-- Touching pairs (`get_pairs_if_smallest`): the vertices that two cells share, and the pattern formula of triangles. A cell is the list of its vertices.
-- Assumes nothing.
use Rattle.std.specs.Prelude.{ℕ, ◌+◌, ◌*◌, Bool, true, false, cond, length, get_or, eqb}
use mathlib.Core.List.{List, [], ◌∷◌, flat_map}
use Rattle.lists.specs.Bool.{◌and◌}
use Rattle.lists.specs.Bounded.{least}
use Rattle.lists.specs.Range.{range, when}
use Rattle.grid.specs.Cells.{ends_of, same_two}

-- a shared vertex, by its places in the two cells
pub record Match : Type 0 where
  pub test : ℕ
  pub trial : ℕ

-- p ⇄ q: at test place p and trial place q
infix 80 ◌⇄◌
abbrev pub ◌⇄◌ : ℕ → ℕ → Match
p ⇄ q = record { test = p; trial = q }

-- two lists of shared vertices are the same
unfoldable pub same_matches : List Match → List Match → Bool
same_matches [] [] = true
same_matches [] (n ∷ ns) = false
same_matches (m ∷ ms) [] = false
same_matches (m ∷ ms) (n ∷ ns) = eqb m.test n.test and eqb m.trial n.trial and same_matches ms ns

-- shared vertices are listed as (test place, trial place), trial place rising
unfoldable pub matches : List ℕ → List ℕ → List Match
matches xs ys =
    flat_map (λ q. flat_map (λ p. when (eqb (get_or xs p 0) (get_or ys q 0)) (p ⇄ q ∷ [])) (range (length xs))) (range (length ys))

-- ---- the formula of triangles

-- how many patterns it has: they are the numbers below it
abbrev pub triangle_count : ℕ
triangle_count = 28

-- the local edge of a triangle that joins local vertices a and b
unfoldable pub edge_of : ℕ → ℕ → ℕ
edge_of a b = least 3 (λ e. same_two (ends_of 3 e).first (ends_of 3 e).second a b)

-- Of one pair (i,j): 3i + j. Of two, on test edge e and trial edge g: 9 + 2(3e + g), plus 1 if the first trial vertex matches the second test
-- vertex. The three pairs (0,0), (1,1), (2,2): 27 (trial places rise, so three of them are 0, 1, 2). Any other list has none: one more than the last
unfoldable pub pattern_of : List Match → ℕ
pattern_of [] = triangle_count
pattern_of (m ∷ []) = 3 * m.test + m.trial
pattern_of (m ∷ n ∷ []) =
    9 + 2 * (3 * edge_of m.test n.test + edge_of m.trial n.trial) + cond (eqb m.test (ends_of 3 (edge_of m.test n.test)).second) 1 0
pattern_of (m ∷ n ∷ o ∷ []) = cond (eqb m.test 0 and eqb n.test 1 and eqb o.test 2) 27 triangle_count
pattern_of (m ∷ n ∷ o ∷ x ∷ ms) = triangle_count

-- The touching patterns of triangles and quads (change 3), written out: one table of 149, by the kinds of the test and of the trial cell and by the vertices
-- that they share; the number of a pattern; and the words in which the theorem on the table (`TableProperty`) speaks. `i ⇄ j` is a vertex at test place i and
-- trial place j, and trial places rise. Assumes nothing.
use Rattle.std.specs.Prelude.{ℕ, suc, ◌+◌, ◌-◌, ◌*◌, Bool, true, false, cond, get_or, take, drop, eqb}
use mathlib.Core.List.{List, [], ◌∷◌, ◌++◌, flat_map, map}
use Rattle.lists.specs.Bool.{◌and◌}
use Rattle.lists.specs.Range.{range, when}
use Rattle.grid.specs.Cells.{edges_of, ends_of, edge_joining}
use Rattle.cell_pairs.specs.Records.{pattern_count}
use Rattle.cell_pairs.specs.Matches.{Match, ◌⇄◌, same_matches}
use Rattle.cell_pairs.specs.Cases.{can_be}

-- the kind of the test cell, the kind of the trial cell (3 a triangle, 4 a quad), and the vertices that they share
pub record Pattern : Type 0 where
  pub test : ℕ
  pub trial : ℕ
  pub shared : List Match

abbrev pub pattern : ℕ → ℕ → List Match → Pattern
pattern n k ms = record { test = n; trial = k; shared = ms }

-- 0 to 27: triangle test, triangle trial
abbrev pub triangle_triangle : List Pattern
triangle_triangle =
    pattern 3 3 (0 ⇄ 0 ∷ [])
    ∷ pattern 3 3 (0 ⇄ 1 ∷ [])
    ∷ pattern 3 3 (0 ⇄ 2 ∷ [])
    ∷ pattern 3 3 (1 ⇄ 0 ∷ [])
    ∷ pattern 3 3 (1 ⇄ 1 ∷ [])
    ∷ pattern 3 3 (1 ⇄ 2 ∷ [])
    ∷ pattern 3 3 (2 ⇄ 0 ∷ [])
    ∷ pattern 3 3 (2 ⇄ 1 ∷ [])
    ∷ pattern 3 3 (2 ⇄ 2 ∷ [])
    ∷ pattern 3 3 (1 ⇄ 1 ∷ 2 ⇄ 2 ∷ [])
    ∷ pattern 3 3 (2 ⇄ 1 ∷ 1 ⇄ 2 ∷ [])
    ∷ pattern 3 3 (1 ⇄ 0 ∷ 2 ⇄ 2 ∷ [])
    ∷ pattern 3 3 (2 ⇄ 0 ∷ 1 ⇄ 2 ∷ [])
    ∷ pattern 3 3 (1 ⇄ 0 ∷ 2 ⇄ 1 ∷ [])
    ∷ pattern 3 3 (2 ⇄ 0 ∷ 1 ⇄ 1 ∷ [])
    ∷ pattern 3 3 (0 ⇄ 1 ∷ 2 ⇄ 2 ∷ [])
    ∷ pattern 3 3 (2 ⇄ 1 ∷ 0 ⇄ 2 ∷ [])
    ∷ pattern 3 3 (0 ⇄ 0 ∷ 2 ⇄ 2 ∷ [])
    ∷ pattern 3 3 (2 ⇄ 0 ∷ 0 ⇄ 2 ∷ [])
    ∷ pattern 3 3 (0 ⇄ 0 ∷ 2 ⇄ 1 ∷ [])
    ∷ pattern 3 3 (2 ⇄ 0 ∷ 0 ⇄ 1 ∷ [])
    ∷ pattern 3 3 (0 ⇄ 1 ∷ 1 ⇄ 2 ∷ [])
    ∷ pattern 3 3 (1 ⇄ 1 ∷ 0 ⇄ 2 ∷ [])
    ∷ pattern 3 3 (0 ⇄ 0 ∷ 1 ⇄ 2 ∷ [])
    ∷ pattern 3 3 (1 ⇄ 0 ∷ 0 ⇄ 2 ∷ [])
    ∷ pattern 3 3 (0 ⇄ 0 ∷ 1 ⇄ 1 ∷ [])
    ∷ pattern 3 3 (1 ⇄ 0 ∷ 0 ⇄ 1 ∷ [])
    ∷ pattern 3 3 (0 ⇄ 0 ∷ 1 ⇄ 1 ∷ 2 ⇄ 2 ∷ [])
    ∷ []

-- 28 to 63: triangle test, quad trial
abbrev pub triangle_quad : List Pattern
triangle_quad =
    pattern 3 4 (0 ⇄ 0 ∷ [])
    ∷ pattern 3 4 (0 ⇄ 1 ∷ [])
    ∷ pattern 3 4 (0 ⇄ 2 ∷ [])
    ∷ pattern 3 4 (0 ⇄ 3 ∷ [])
    ∷ pattern 3 4 (1 ⇄ 0 ∷ [])
    ∷ pattern 3 4 (1 ⇄ 1 ∷ [])
    ∷ pattern 3 4 (1 ⇄ 2 ∷ [])
    ∷ pattern 3 4 (1 ⇄ 3 ∷ [])
    ∷ pattern 3 4 (2 ⇄ 0 ∷ [])
    ∷ pattern 3 4 (2 ⇄ 1 ∷ [])
    ∷ pattern 3 4 (2 ⇄ 2 ∷ [])
    ∷ pattern 3 4 (2 ⇄ 3 ∷ [])
    ∷ pattern 3 4 (1 ⇄ 0 ∷ 2 ⇄ 1 ∷ [])
    ∷ pattern 3 4 (2 ⇄ 0 ∷ 1 ⇄ 1 ∷ [])
    ∷ pattern 3 4 (1 ⇄ 0 ∷ 2 ⇄ 2 ∷ [])
    ∷ pattern 3 4 (2 ⇄ 0 ∷ 1 ⇄ 2 ∷ [])
    ∷ pattern 3 4 (1 ⇄ 1 ∷ 2 ⇄ 3 ∷ [])
    ∷ pattern 3 4 (2 ⇄ 1 ∷ 1 ⇄ 3 ∷ [])
    ∷ pattern 3 4 (1 ⇄ 2 ∷ 2 ⇄ 3 ∷ [])
    ∷ pattern 3 4 (2 ⇄ 2 ∷ 1 ⇄ 3 ∷ [])
    ∷ pattern 3 4 (0 ⇄ 0 ∷ 2 ⇄ 1 ∷ [])
    ∷ pattern 3 4 (2 ⇄ 0 ∷ 0 ⇄ 1 ∷ [])
    ∷ pattern 3 4 (0 ⇄ 0 ∷ 2 ⇄ 2 ∷ [])
    ∷ pattern 3 4 (2 ⇄ 0 ∷ 0 ⇄ 2 ∷ [])
    ∷ pattern 3 4 (0 ⇄ 1 ∷ 2 ⇄ 3 ∷ [])
    ∷ pattern 3 4 (2 ⇄ 1 ∷ 0 ⇄ 3 ∷ [])
    ∷ pattern 3 4 (0 ⇄ 2 ∷ 2 ⇄ 3 ∷ [])
    ∷ pattern 3 4 (2 ⇄ 2 ∷ 0 ⇄ 3 ∷ [])
    ∷ pattern 3 4 (0 ⇄ 0 ∷ 1 ⇄ 1 ∷ [])
    ∷ pattern 3 4 (1 ⇄ 0 ∷ 0 ⇄ 1 ∷ [])
    ∷ pattern 3 4 (0 ⇄ 0 ∷ 1 ⇄ 2 ∷ [])
    ∷ pattern 3 4 (1 ⇄ 0 ∷ 0 ⇄ 2 ∷ [])
    ∷ pattern 3 4 (0 ⇄ 1 ∷ 1 ⇄ 3 ∷ [])
    ∷ pattern 3 4 (1 ⇄ 1 ∷ 0 ⇄ 3 ∷ [])
    ∷ pattern 3 4 (0 ⇄ 2 ∷ 1 ⇄ 3 ∷ [])
    ∷ pattern 3 4 (1 ⇄ 2 ∷ 0 ⇄ 3 ∷ [])
    ∷ []

-- 64 to 99: quad test, triangle trial
abbrev pub quad_triangle : List Pattern
quad_triangle =
    pattern 4 3 (0 ⇄ 0 ∷ [])
    ∷ pattern 4 3 (0 ⇄ 1 ∷ [])
    ∷ pattern 4 3 (0 ⇄ 2 ∷ [])
    ∷ pattern 4 3 (1 ⇄ 0 ∷ [])
    ∷ pattern 4 3 (1 ⇄ 1 ∷ [])
    ∷ pattern 4 3 (1 ⇄ 2 ∷ [])
    ∷ pattern 4 3 (2 ⇄ 0 ∷ [])
    ∷ pattern 4 3 (2 ⇄ 1 ∷ [])
    ∷ pattern 4 3 (2 ⇄ 2 ∷ [])
    ∷ pattern 4 3 (3 ⇄ 0 ∷ [])
    ∷ pattern 4 3 (3 ⇄ 1 ∷ [])
    ∷ pattern 4 3 (3 ⇄ 2 ∷ [])
    ∷ pattern 4 3 (0 ⇄ 1 ∷ 1 ⇄ 2 ∷ [])
    ∷ pattern 4 3 (1 ⇄ 1 ∷ 0 ⇄ 2 ∷ [])
    ∷ pattern 4 3 (0 ⇄ 0 ∷ 1 ⇄ 2 ∷ [])
    ∷ pattern 4 3 (1 ⇄ 0 ∷ 0 ⇄ 2 ∷ [])
    ∷ pattern 4 3 (0 ⇄ 0 ∷ 1 ⇄ 1 ∷ [])
    ∷ pattern 4 3 (1 ⇄ 0 ∷ 0 ⇄ 1 ∷ [])
    ∷ pattern 4 3 (0 ⇄ 1 ∷ 2 ⇄ 2 ∷ [])
    ∷ pattern 4 3 (2 ⇄ 1 ∷ 0 ⇄ 2 ∷ [])
    ∷ pattern 4 3 (0 ⇄ 0 ∷ 2 ⇄ 2 ∷ [])
    ∷ pattern 4 3 (2 ⇄ 0 ∷ 0 ⇄ 2 ∷ [])
    ∷ pattern 4 3 (0 ⇄ 0 ∷ 2 ⇄ 1 ∷ [])
    ∷ pattern 4 3 (2 ⇄ 0 ∷ 0 ⇄ 1 ∷ [])
    ∷ pattern 4 3 (1 ⇄ 1 ∷ 3 ⇄ 2 ∷ [])
    ∷ pattern 4 3 (3 ⇄ 1 ∷ 1 ⇄ 2 ∷ [])
    ∷ pattern 4 3 (1 ⇄ 0 ∷ 3 ⇄ 2 ∷ [])
    ∷ pattern 4 3 (3 ⇄ 0 ∷ 1 ⇄ 2 ∷ [])
    ∷ pattern 4 3 (1 ⇄ 0 ∷ 3 ⇄ 1 ∷ [])
    ∷ pattern 4 3 (3 ⇄ 0 ∷ 1 ⇄ 1 ∷ [])
    ∷ pattern 4 3 (2 ⇄ 1 ∷ 3 ⇄ 2 ∷ [])
    ∷ pattern 4 3 (3 ⇄ 1 ∷ 2 ⇄ 2 ∷ [])
    ∷ pattern 4 3 (2 ⇄ 0 ∷ 3 ⇄ 2 ∷ [])
    ∷ pattern 4 3 (3 ⇄ 0 ∷ 2 ⇄ 2 ∷ [])
    ∷ pattern 4 3 (2 ⇄ 0 ∷ 3 ⇄ 1 ∷ [])
    ∷ pattern 4 3 (3 ⇄ 0 ∷ 2 ⇄ 1 ∷ [])
    ∷ []

-- 100 to 148: quad test, quad trial
abbrev pub quad_quad : List Pattern
quad_quad =
    pattern 4 4 (0 ⇄ 0 ∷ [])
    ∷ pattern 4 4 (0 ⇄ 1 ∷ [])
    ∷ pattern 4 4 (0 ⇄ 2 ∷ [])
    ∷ pattern 4 4 (0 ⇄ 3 ∷ [])
    ∷ pattern 4 4 (1 ⇄ 0 ∷ [])
    ∷ pattern 4 4 (1 ⇄ 1 ∷ [])
    ∷ pattern 4 4 (1 ⇄ 2 ∷ [])
    ∷ pattern 4 4 (1 ⇄ 3 ∷ [])
    ∷ pattern 4 4 (2 ⇄ 0 ∷ [])
    ∷ pattern 4 4 (2 ⇄ 1 ∷ [])
    ∷ pattern 4 4 (2 ⇄ 2 ∷ [])
    ∷ pattern 4 4 (2 ⇄ 3 ∷ [])
    ∷ pattern 4 4 (3 ⇄ 0 ∷ [])
    ∷ pattern 4 4 (3 ⇄ 1 ∷ [])
    ∷ pattern 4 4 (3 ⇄ 2 ∷ [])
    ∷ pattern 4 4 (3 ⇄ 3 ∷ [])
    ∷ pattern 4 4 (0 ⇄ 0 ∷ 1 ⇄ 1 ∷ [])
    ∷ pattern 4 4 (1 ⇄ 0 ∷ 0 ⇄ 1 ∷ [])
    ∷ pattern 4 4 (0 ⇄ 0 ∷ 1 ⇄ 2 ∷ [])
    ∷ pattern 4 4 (1 ⇄ 0 ∷ 0 ⇄ 2 ∷ [])
    ∷ pattern 4 4 (0 ⇄ 1 ∷ 1 ⇄ 3 ∷ [])
    ∷ pattern 4 4 (1 ⇄ 1 ∷ 0 ⇄ 3 ∷ [])
    ∷ pattern 4 4 (0 ⇄ 2 ∷ 1 ⇄ 3 ∷ [])
    ∷ pattern 4 4 (1 ⇄ 2 ∷ 0 ⇄ 3 ∷ [])
    ∷ pattern 4 4 (0 ⇄ 0 ∷ 2 ⇄ 1 ∷ [])
    ∷ pattern 4 4 (2 ⇄ 0 ∷ 0 ⇄ 1 ∷ [])
    ∷ pattern 4 4 (0 ⇄ 0 ∷ 2 ⇄ 2 ∷ [])
    ∷ pattern 4 4 (2 ⇄ 0 ∷ 0 ⇄ 2 ∷ [])
    ∷ pattern 4 4 (0 ⇄ 1 ∷ 2 ⇄ 3 ∷ [])
    ∷ pattern 4 4 (2 ⇄ 1 ∷ 0 ⇄ 3 ∷ [])
    ∷ pattern 4 4 (0 ⇄ 2 ∷ 2 ⇄ 3 ∷ [])
    ∷ pattern 4 4 (2 ⇄ 2 ∷ 0 ⇄ 3 ∷ [])
    ∷ pattern 4 4 (1 ⇄ 0 ∷ 3 ⇄ 1 ∷ [])
    ∷ pattern 4 4 (3 ⇄ 0 ∷ 1 ⇄ 1 ∷ [])
    ∷ pattern 4 4 (1 ⇄ 0 ∷ 3 ⇄ 2 ∷ [])
    ∷ pattern 4 4 (3 ⇄ 0 ∷ 1 ⇄ 2 ∷ [])
    ∷ pattern 4 4 (1 ⇄ 1 ∷ 3 ⇄ 3 ∷ [])
    ∷ pattern 4 4 (3 ⇄ 1 ∷ 1 ⇄ 3 ∷ [])
    ∷ pattern 4 4 (1 ⇄ 2 ∷ 3 ⇄ 3 ∷ [])
    ∷ pattern 4 4 (3 ⇄ 2 ∷ 1 ⇄ 3 ∷ [])
    ∷ pattern 4 4 (2 ⇄ 0 ∷ 3 ⇄ 1 ∷ [])
    ∷ pattern 4 4 (3 ⇄ 0 ∷ 2 ⇄ 1 ∷ [])
    ∷ pattern 4 4 (2 ⇄ 0 ∷ 3 ⇄ 2 ∷ [])
    ∷ pattern 4 4 (3 ⇄ 0 ∷ 2 ⇄ 2 ∷ [])
    ∷ pattern 4 4 (2 ⇄ 1 ∷ 3 ⇄ 3 ∷ [])
    ∷ pattern 4 4 (3 ⇄ 1 ∷ 2 ⇄ 3 ∷ [])
    ∷ pattern 4 4 (2 ⇄ 2 ∷ 3 ⇄ 3 ∷ [])
    ∷ pattern 4 4 (3 ⇄ 2 ∷ 2 ⇄ 3 ∷ [])
    ∷ pattern 4 4 (0 ⇄ 0 ∷ 1 ⇄ 1 ∷ 2 ⇄ 2 ∷ 3 ⇄ 3 ∷ [])
    ∷ []

unfoldable pub table : List Pattern
table = triangle_triangle ++ triangle_quad ++ quad_triangle ++ quad_quad

-- the pattern at place k of the table; past the last there is none
abbrev pub pattern_at : ℕ → Pattern
pattern_at k = get_or table k (pattern 0 0 [])

-- the patterns at the places from a to b
abbrev pub from_to : ℕ → ℕ → List Pattern
from_to a b = take (b + 1 - a) (drop a table)

-- ---- the number of a pattern

-- the same kinds, and the same vertices are shared
unfoldable pub same : Pattern → Pattern → Bool
same x y = eqb x.test y.test and eqb x.trial y.trial and same_matches x.shared y.shared

-- its place in a list of patterns; where it has none, as many as there are
unfoldable pub place_of : Pattern → List Pattern → ℕ
place_of x [] = 0
place_of x (y ∷ ys) = cond (same y x) 0 (let after = place_of x ys in suc after)

-- its place in the table; 149 where it has none
unfoldable pub number_of : Pattern → ℕ
number_of x = place_of x table

-- ---- the blocks, made from the local vertices and edges

-- one shared vertex: test vertex i, trial vertex j
abbrev pub vertex_block : ℕ → ℕ → List Pattern
vertex_block n k = flat_map (λ i. flat_map (λ j. pattern n k (i ⇄ j ∷ []) ∷ []) (range k)) (range n)

-- a shared edge: test edge e, trial edge g, and for these two: the first vertex of g matches the first of e, then the second
abbrev pub edge_block : ℕ → ℕ → List Pattern
edge_block n k =
    flat_map
    (λ e. flat_map (λ g. pattern n k (e.first ⇄ g.first ∷ e.second ⇄ g.second ∷ []) ∷ pattern n k (e.second ⇄ g.first ∷ e.first ⇄ g.second ∷ []) ∷ []) (edges_of k))
    (edges_of n)

-- the identical cell, if the kinds agree
abbrev pub cell_block : ℕ → ℕ → List Pattern
cell_block n k = when (eqb n k) (pattern n k (map (λ i. i ⇄ i) (range n)) ∷ [])

abbrev pub block : ℕ → ℕ → List Pattern
block n k = vertex_block n k ++ edge_block n k ++ cell_block n k

-- ---- the formula

-- where the block of test kind n and trial kind k begins
abbrev pub block_start : ℕ → ℕ → ℕ
block_start n k = cond (eqb n 3) (cond (eqb k 3) 0 28) (cond (eqb k 3) 64 100)

-- The place inside the block of test kind n and trial kind k: the triangle formula, with k for 3 and nk for 9. Of one pair (i,j): ki + j. Of two, on test
-- edge e and trial edge g: nk + 2(ke + g), plus 1 if the first trial vertex matches the second test vertex. Of more: 3nk, after the edges. Of none: past
-- every block
unfoldable pub in_block : ℕ → ℕ → List Match → ℕ
in_block n k [] = pattern_count
in_block n k (m ∷ []) = k * m.test + m.trial
in_block n k (m ∷ o ∷ []) =
    let e = edge_joining n m.test o.test in
    let g = edge_joining k m.trial o.trial in
    n * k + 2 * (k * e + g) + cond (eqb m.test (ends_of n e).second) 1 0
in_block n k (m ∷ o ∷ p ∷ ms) = 3 * (n * k)

unfoldable pub formula_number : Pattern → ℕ
formula_number x = block_start x.test x.trial + in_block x.test x.trial x.shared

-- ---- two triangles

-- the lists of shared vertices of two triangles: none; one or two, as `can_be` says; three, where each two of them can be
unfoldable pub of_two_triangles : List Match → Bool
of_two_triangles [] = true
of_two_triangles (m ∷ []) = can_be (m ∷ [])
of_two_triangles (m ∷ n ∷ []) = can_be (m ∷ n ∷ [])
of_two_triangles (m ∷ n ∷ o ∷ []) = can_be (m ∷ n ∷ []) and can_be (m ∷ o ∷ []) and can_be (n ∷ o ∷ [])
of_two_triangles (m ∷ n ∷ o ∷ x ∷ ms) = false

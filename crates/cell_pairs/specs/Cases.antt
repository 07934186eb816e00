-- The 27 cases of one and of two shared vertices (change 2), written out in the order of their numbers, and the words in which the theorem on them
-- (`CasesProperty`) speaks. `i ⇄ j` is a vertex at test place i and trial place j, and trial places rise. Assumes nothing.
use Rattle.std.specs.Prelude.{ℕ, ◌+◌, ◌<◌, ◌≡◌, Bool, false, cond, not, List, [], ◌∷◌, ◌++◌, get_or, eqb, ltb}
use Rattle.lists.specs.Bool.{◌and◌, every}
use Rattle.lists.specs.Range.{range}
use Rattle.lists.specs.Total.{count}
use Rattle.grid.specs.Cells.{has, ends_of}
use Rattle.grid.specs.Mesh.{Mesh, triangles, kind, corners}
use Rattle.cell_pairs.specs.Matches.{Match, ◌⇄◌, edge_of}

-- a pattern's number, and the vertices that it shares
pub record Case : Type 0 where
  pub number : ℕ
  pub shared : List Match

abbrev pub case : ℕ → List Match → Case
case k ms = record { number = k; shared = ms }

-- one shared vertex
abbrev pub vertex_cases : List Case
vertex_cases =
    case 0 (0 ⇄ 0 ∷ [])
    ∷ case 1 (0 ⇄ 1 ∷ [])
    ∷ case 2 (0 ⇄ 2 ∷ [])
    ∷ case 3 (1 ⇄ 0 ∷ [])
    ∷ case 4 (1 ⇄ 1 ∷ [])
    ∷ case 5 (1 ⇄ 2 ∷ [])
    ∷ case 6 (2 ⇄ 0 ∷ [])
    ∷ case 7 (2 ⇄ 1 ∷ [])
    ∷ case 8 (2 ⇄ 2 ∷ [])
    ∷ []

-- two shared vertices, which are an edge of both cells
abbrev pub edge_cases : List Case
edge_cases =
    case 9 (1 ⇄ 1 ∷ 2 ⇄ 2 ∷ [])
    ∷ case 10 (2 ⇄ 1 ∷ 1 ⇄ 2 ∷ [])
    ∷ case 11 (1 ⇄ 0 ∷ 2 ⇄ 2 ∷ [])
    ∷ case 12 (2 ⇄ 0 ∷ 1 ⇄ 2 ∷ [])
    ∷ case 13 (1 ⇄ 0 ∷ 2 ⇄ 1 ∷ [])
    ∷ case 14 (2 ⇄ 0 ∷ 1 ⇄ 1 ∷ [])
    ∷ case 15 (0 ⇄ 1 ∷ 2 ⇄ 2 ∷ [])
    ∷ case 16 (2 ⇄ 1 ∷ 0 ⇄ 2 ∷ [])
    ∷ case 17 (0 ⇄ 0 ∷ 2 ⇄ 2 ∷ [])
    ∷ case 18 (2 ⇄ 0 ∷ 0 ⇄ 2 ∷ [])
    ∷ case 19 (0 ⇄ 0 ∷ 2 ⇄ 1 ∷ [])
    ∷ case 20 (2 ⇄ 0 ∷ 0 ⇄ 1 ∷ [])
    ∷ case 21 (0 ⇄ 1 ∷ 1 ⇄ 2 ∷ [])
    ∷ case 22 (1 ⇄ 1 ∷ 0 ⇄ 2 ∷ [])
    ∷ case 23 (0 ⇄ 0 ∷ 1 ⇄ 2 ∷ [])
    ∷ case 24 (1 ⇄ 0 ∷ 0 ⇄ 2 ∷ [])
    ∷ case 25 (0 ⇄ 0 ∷ 1 ⇄ 1 ∷ [])
    ∷ case 26 (1 ⇄ 0 ∷ 0 ⇄ 1 ∷ [])
    ∷ []

abbrev pub cases : List Case
cases = vertex_cases ++ edge_cases

-- the case at place k of the list; past the last there is none
abbrev pub case_at : ℕ → Case
case_at k = get_or cases k (case 0 [])

-- ---- which lists there can be

-- the places of a triangle are 0, 1 and 2
abbrev pub of_triangles : Match → Bool
of_triangles m = ltb m.test 3 and ltb m.trial 3

-- one or two shared vertices of two triangles: test places distinct, trial places rising
unfoldable pub can_be : List Match → Bool
can_be [] = false
can_be (m ∷ []) = of_triangles m
can_be (m ∷ n ∷ []) = every (of_triangles m ∷ of_triangles n ∷ not (eqb m.test n.test) ∷ ltb m.trial n.trial ∷ [])
can_be (m ∷ n ∷ o ∷ ms) = false

-- ---- on a mesh

-- cell i is a triangle of the mesh
pub record Triangle (m : Mesh) (i : ℕ) : Type 0 where
  pub cell : i < m.cells
  pub kind : kind m i ≡ 3

-- how many vertices cells i and j share
unfoldable pub shared_vertices : Mesh → ℕ → ℕ → ℕ
shared_vertices m i j = count (λ x. has (corners m i) x and has (corners m j) x) (range m.vertices)

-- the test place of the vertex at trial place q; d where it is not shared
abbrev pub test_at : ℕ → List Match → ℕ → ℕ
test_at d [] q = d
test_at d (m ∷ ms) q = cond (eqb m.trial q) m.test (test_at d ms q)

-- two cells that share what a list says. The test cell has vertices (0,1,2) and edges (0,1,2). The trial cell has them where it shares them, and elsewhere
-- vertices and edges of its own, 3 to 5
abbrev pub trial_vertex : List Match → ℕ → ℕ
trial_vertex ms q = test_at (3 + q) ms q

abbrev pub trial_edge : List Match → ℕ → ℕ
trial_edge ms e = let g = edge_of (trial_vertex ms (ends_of 3 e).first) (trial_vertex ms (ends_of 3 e).second) in cond (ltb g 3) g (3 + e)

abbrev pub two_cells : List Match → Mesh
two_cells ms =
    record {
      cells = 2;
      vertices = 6;
      edges = 6;
      kinds = triangles 2;
      cell_vertices = 0 ∷ 1 ∷ 2 ∷ trial_vertex ms 0 ∷ trial_vertex ms 1 ∷ trial_vertex ms 2 ∷ [];
      cell_edges = 0 ∷ 1 ∷ 2 ∷ trial_edge ms 0 ∷ trial_edge ms 1 ∷ trial_edge ms 2 ∷ [];
    }

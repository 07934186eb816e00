-- The mesh that planning is handed, and checks 1, 26, 2 and 3 of it. Assumes nothing.
use Rattle.std.specs.Prelude.{ℕ, Bool, List, [], ◌∷◌, length, get_or, replicate, eqb, ltb}
use Rattle.lists.specs.Bool.{◌and◌, ◌or◌, every, iff}
use Rattle.lists.specs.Bounded.{all}
use Rattle.lists.specs.Range.{filter}
use Rattle.lists.specs.Total.{count}
use Rattle.lists.specs.Refusals.{Check, check}
use Rattle.numbers.specs.Ranges.{within, all_below}
use Rattle.grid.specs.declared.Sizes.{Sizes}
use Rattle.grid.specs.Cells.{before, part, own, distinct, ends_of, same_two}

-- C is 1 to 2,048, V is 3 to 4,096, E is 3 to 8,192
abbrev pub most_cells : ℕ
most_cells = 2048

abbrev pub most_vertices : ℕ
most_vertices = 4096

abbrev pub most_edges : ℕ
most_edges = 8192

-- C cells, V vertices and E edges; the kind of each cell; as many vertex numbers and as many edge numbers for each cell as its kind says, one cell after
-- the other
pub record Mesh : Type 0 where
  pub cells : ℕ
  pub vertices : ℕ
  pub edges : ℕ
  pub kinds : List ℕ
  pub cell_vertices : List ℕ
  pub cell_edges : List ℕ

-- from the arguments of a call
abbrev pub sizes_of : ℕ → ℕ → ℕ → Sizes
sizes_of cells vertices edges = record { cells = cells; vertices = vertices; edges = edges }

abbrev pub mesh_with : Sizes → List ℕ → List ℕ → List ℕ → Mesh
mesh_with s kinds cell_vertices cell_edges =
    record {
      cells = s.cells;
      vertices = s.vertices;
      edges = s.edges;
      kinds = kinds;
      cell_vertices = cell_vertices;
      cell_edges = cell_edges;
    }

-- C triangles
abbrev pub triangles : ℕ → List ℕ
triangles C = replicate C 3

abbrev pub mesh_of : Sizes → List ℕ → List ℕ → Mesh
mesh_of s cell_vertices cell_edges = mesh_with s (triangles s.cells) cell_vertices cell_edges

-- the kind of cell i, its vertices and its edges
abbrev pub kind : Mesh → ℕ → ℕ
kind m i = get_or m.kinds i 0

unfoldable pub corners : Mesh → ℕ → List ℕ
corners m i = part own m.kinds m.cell_vertices i

unfoldable pub sides : Mesh → ℕ → List ℕ
sides m i = part own m.kinds m.cell_edges i

-- how many cells are of kind n, and the kinds present, triangles first
unfoldable pub cells_of : List ℕ → ℕ → ℕ
cells_of ks n = count (λ k. eqb k n) ks

unfoldable pub kinds_present : List ℕ → List ℕ
kinds_present ks = filter (λ n. ltb 0 (cells_of ks n)) (3 ∷ 4 ∷ [])

-- the two vertices that local edge e of cell i joins
abbrev pub first_vertex : Mesh → ℕ → ℕ → ℕ
first_vertex m i e = get_or (corners m i) (ends_of (kind m i) e).first 0

abbrev pub second_vertex : Mesh → ℕ → ℕ → ℕ
second_vertex m i e = get_or (corners m i) (ends_of (kind m i) e).second 0

-- two edge places, e of cell i and g of cell j, have the same number exactly when they join the same two vertices
unfoldable pub places_agree : Mesh → ℕ → ℕ → ℕ → ℕ → Bool
places_agree m i e j g =
    iff (eqb (get_or (sides m i) e 0) (get_or (sides m j) g 0)) (same_two (first_vertex m i e) (second_vertex m i e) (first_vertex m j g) (second_vertex m j g))

-- the edge rule: so do any two edge places
unfoldable pub edge_rule : Mesh → Bool
edge_rule m = all m.cells (λ i. all (kind m i) (λ e. all m.cells (λ j. all (kind m j) (λ g. places_agree m i e j g))))

-- 1: C is in its range
unfoldable pub cells_right : Mesh → Bool
cells_right m = within 1 most_cells m.cells

-- 26: the kind list of C cells is C long, and each kind is 3 or 4
unfoldable pub kinds_right : ℕ → List ℕ → Bool
kinds_right C ks = eqb (length ks) C and all (length ks) (λ i. eqb (get_or ks i 0) 3 or eqb (get_or ks i 0) 4)

-- a kind list of C cells, so many of them triangles and so many quads
unfoldable pub kinds_match : ℕ → ℕ → ℕ → List ℕ → Bool
kinds_match C triangles quads ks = every (kinds_right C ks ∷ eqb triangles (cells_of ks 3) ∷ eqb quads (cells_of ks 4) ∷ [])

-- 1: the vertex list is as long as the cells' own counts add up to
unfoldable pub vertex_places : Mesh → Bool
vertex_places m = eqb (length m.cell_vertices) (before own m.kinds m.cells)

-- 2: V is in its range, each vertex number is below V, and none stands twice in one cell
unfoldable pub vertices_right : Mesh → Bool
vertices_right m =
    every (within 3 most_vertices m.vertices
    ∷ all_below m.cell_vertices m.vertices
    ∷ all m.cells (λ i. distinct (corners m i))
    ∷ [])

-- 3: E is in its range, the edge list is as long as the cells' own counts add up to, each edge number is below E, and the edge rule holds
unfoldable pub edges_right : Mesh → Bool
edges_right m =
    every (within 3 most_edges m.edges
    ∷ eqb (length m.cell_edges) (before own m.kinds m.cells)
    ∷ all_below m.cell_edges m.edges
    ∷ edge_rule m
    ∷ [])

-- 26 comes after C's range and before the vertex list's length
abbrev pub mesh_checks : Mesh → List Check
mesh_checks m =
    check 1 (cells_right m) ∷ check 26 (kinds_right m.cells m.kinds) ∷ check 1 (vertex_places m) ∷ check 2 (vertices_right m) ∷ check 3 (edges_right m) ∷ []

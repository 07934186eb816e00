-- M4, M5 and M7 of the paper, as records, and the pairs of small meshes with quads. (The text that `worklist` prints of the paper's is in `worklist_text`.) Assumes
-- nothing.
use Rattle.std.specs.Prelude.{ℕ, refl, true, false, List, [], ◌∷◌}
use Rattle.lists.specs.Examples.{Example, example, Holds}
use Rattle.grid.specs.Mesh.{Mesh}
use Rattle.grid.specs.Examples.{mesh_m, m7_turned, m7_twice, edge_shared, diagonal, three_shared, quad_twice, quad_turned}
use Rattle.function.specs.Elements.{alike, Space}
use Rattle.function.specs.Colours.{colour_list}
use Rattle.function.specs.Examples.{element, opened_function}
use Rattle.cell_pairs.specs.declared.WorkRecord.{WorkRecord}
use Rattle.cell_pairs.specs.Records.{rec, flat}
use Rattle.cell_pairs.specs.Matches.{same_matches, matches, edge_of, pattern_of}
use Rattle.cell_pairs.specs.Table.{table, same, place_of, number_of}
use Rattle.cell_pairs.specs.Patterns.{cells_pattern, same_vertices, smallest_shared, cells_differ, patterns_right}
use Rattle.cell_pairs.specs.WorkList.{coloured, distant_pair, distant_batch, distant_colours, distant_kinds, distant_part, touching_pair, touching_pattern, touching_part, work_list, sharing_pairs, sharing_of, distant_pairs}

-- opens the definitions of this crate and of those below it
unfoldable pub opened_cell_pairs : Unit {0}
unfolding opened_function same_matches matches edge_of pattern_of table same place_of number_of same_vertices smallest_shared cells_differ patterns_right coloured distant_pair distant_batch distant_colours distant_kinds distant_part touching_pair touching_pattern touching_part work_list flat sharing_pairs sharing_of distant_pairs
opened_cell_pairs = tt

-- the work list where both elements have a = 1
abbrev records : Mesh → ℕ → List WorkRecord
records m B =
    let space : Space = record { kinds = m.kinds; cell_vertices = m.cell_vertices; cell_edges = m.cell_edges; elements = alike (element 1 0 0) } in
    work_list m B (colour_list space m.cells) (colour_list space m.cells)

-- M4: both elements a = 1, batch 2
abbrev pub m4_records : Example
m4_records =
    example (records mesh_m 2)
    (rec 255 2 0 ∷ rec 255 0 2 ∷ rec 255 2 1 ∷ rec 255 1 2 ∷ rec 11 0 1 ∷ rec 15 1 0 ∷ rec 27 0 0 ∷ rec 27 1 1 ∷ rec 27 2 2 ∷ [])

-- M5: batch 1: the first two trade places
abbrev pub m5_records : Example
m5_records =
    example (records mesh_m 1)
    (rec 255 0 2 ∷ rec 255 2 0 ∷ rec 255 2 1 ∷ rec 255 1 2 ∷ rec 11 0 1 ∷ rec 15 1 0 ∷ rec 27 0 0 ∷ rec 27 1 1 ∷ rec 27 2 2 ∷ [])

-- M7, twice: a = 1, batch 1: four records of 27
abbrev pub m7_records : Example
m7_records = example (records m7_twice 1) (rec 27 0 0 ∷ rec 27 0 1 ∷ rec 27 1 0 ∷ rec 27 1 1 ∷ [])

pub m7_records_holds : Holds m7_records
unfolding opened_cell_pairs
m7_records_holds = refl

-- Beside the paper's: C = 4, triangle (0,1,2), quad (3,4,5,6), triangles (7,8,9), (9,10,11); the last two share vertex 9, so one of them has colour 1
abbrev mixed : Mesh
mixed =
    record {
      cells = 4;
      vertices = 12;
      edges = 13;
      kinds = 3 ∷ 4 ∷ 3 ∷ 3 ∷ [];
      cell_vertices = 0 ∷ 1 ∷ 2 ∷ 3 ∷ 4 ∷ 5 ∷ 6 ∷ 7 ∷ 8 ∷ 9 ∷ 9 ∷ 10 ∷ 11 ∷ [];
      cell_edges = 0 ∷ 1 ∷ 2 ∷ 3 ∷ 4 ∷ 5 ∷ 6 ∷ 7 ∷ 8 ∷ 9 ∷ 10 ∷ 11 ∷ 12 ∷ [];
    }

-- batch 2: triangles with triangles, where 0 and 2 are one batch; triangles with the quad; the quad with triangles
abbrev pub mixed_records : Example
mixed_records =
    let colours : List ℕ = 0 ∷ 0 ∷ 0 ∷ 1 ∷ [] in
    example (distant_part mixed 2 colours colours)
    (rec 255 2 0 ∷ rec 255 0 2 ∷ rec 255 0 3 ∷ rec 255 3 0 ∷ rec 255 0 1 ∷ rec 255 2 1 ∷ rec 255 3 1 ∷ rec 255 1 0 ∷ rec 255 1 2 ∷ rec 255 1 3 ∷ [])

pub mixed_records_holds : Holds mixed_records
unfolding opened_cell_pairs
mixed_records_holds = refl

-- cells (0,1,2), (2,1,3) run along their edge in opposite directions, which is the plus 1; cells (0,1,2), (3,2,4) meet at places 2 and 1
abbrev pub patterns : Example
patterns =
    let first : List ℕ = 0 ∷ 1 ∷ 2 ∷ [] in
    let opposite : List ℕ = 2 ∷ 1 ∷ 3 ∷ [] in
    let corner : List ℕ = 3 ∷ 2 ∷ 4 ∷ [] in
    example (cells_pattern first opposite ∷ cells_pattern opposite first ∷ cells_pattern first corner ∷ cells_pattern corner first ∷ []) (14 ∷ 22 ∷ 7 ∷ 5 ∷ [])

pub patterns_hold : Holds patterns
unfolding opened_cell_pairs
patterns_hold = refl

-- triangle (0,1,2) and quad (1,3,2,4) have an edge in common, and triangle (0,1,2) and quad (2,5,6,7) a vertex; so have quads (0,1,2,3) and (1,4,3,5) an edge.
-- Quads (0,1,2,3) and (0,4,5,3) meet at a diagonal of both, and triangle (0,1,2) and quad (0,1,2,3) have three vertices in common: these have no pattern
abbrev pub quad_patterns : Example
quad_patterns =
    let triangle : List ℕ = 0 ∷ 1 ∷ 2 ∷ [] in
    let beside : List ℕ = 1 ∷ 3 ∷ 2 ∷ 4 ∷ [] in
    let corner : List ℕ = 2 ∷ 5 ∷ 6 ∷ 7 ∷ [] in
    let quad : List ℕ = 0 ∷ 1 ∷ 2 ∷ 3 ∷ [] in
    let along : List ℕ = 1 ∷ 4 ∷ 3 ∷ 5 ∷ [] in
    let diagonal : List ℕ = 0 ∷ 4 ∷ 5 ∷ 3 ∷ [] in
    example
    (cells_pattern triangle beside
    ∷ cells_pattern beside triangle
    ∷ cells_pattern triangle corner
    ∷ cells_pattern corner triangle
    ∷ cells_pattern quad along
    ∷ cells_pattern along quad
    ∷ cells_pattern quad quad
    ∷ cells_pattern quad diagonal
    ∷ cells_pattern triangle quad
    ∷ [])
    (42 ∷ 82 ∷ 36 ∷ 66 ∷ 134 ∷ 128 ∷ 148 ∷ 149 ∷ 149 ∷ [])

pub quad_patterns_hold : Holds quad_patterns
unfolding opened_cell_pairs
quad_patterns_hold = refl

-- the first two of these as a mesh: a touching record of each two kinds
abbrev pub edge_shared_records : Example
edge_shared_records = example (touching_part edge_shared) (rec 27 0 0 ∷ rec 42 0 1 ∷ rec 82 1 0 ∷ rec 148 1 1 ∷ [])

pub edge_shared_records_hold : Holds edge_shared_records
unfolding opened_cell_pairs
edge_shared_records_hold = refl

abbrev pub edge_shared_counts : Example
edge_shared_counts = example (sharing_of edge_shared 3 3 ∷ sharing_of edge_shared 3 4 ∷ sharing_of edge_shared 4 3 ∷ sharing_of edge_shared 4 4 ∷ []) (1 ∷ 1 ∷ 1 ∷ 1 ∷ [])

pub edge_shared_counts_hold : Holds edge_shared_counts
unfolding opened_cell_pairs
edge_shared_counts_hold = refl

-- cells with the same vertices: both halves of M7, and not M
abbrev pub coincident : Example
coincident = example (cells_differ m7_turned ∷ cells_differ m7_twice ∷ cells_differ mesh_m ∷ []) (false ∷ false ∷ true ∷ [])

pub coincident_holds : Holds coincident
unfolding opened_cell_pairs
coincident_holds = refl

-- a quad twice and one whose vertices stand in another order; not quads that share two vertices, nor a triangle whose three are a quad's
abbrev pub quads_coincident : Example
quads_coincident =
    example (cells_differ quad_twice ∷ cells_differ quad_turned ∷ cells_differ diagonal ∷ cells_differ three_shared ∷ []) (false ∷ false ∷ true ∷ true ∷ [])

pub quads_coincident_hold : Holds quads_coincident
unfolding opened_cell_pairs
quads_coincident_hold = refl

-- 7 refuses the two quads that meet at a diagonal
abbrev pub diagonal_refused : Example
diagonal_refused = example (patterns_right diagonal) false

pub diagonal_refused_holds : Holds diagonal_refused
unfolding opened_cell_pairs
diagonal_refused_holds = refl

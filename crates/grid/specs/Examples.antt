-- The meshes of the paper's examples. Assumes nothing.
use Rattle.std.specs.Prelude.{[], ◌∷◌, replicate}
use Rattle.lists.specs.Examples.{opened_lists}
use Rattle.grid.specs.Cells.{before, part, has, share, distinct, same_two}
use Rattle.grid.specs.Mesh.{Mesh, triangles, cells_of, kinds_present, corners, sides, places_agree, edge_rule, cells_right, kinds_right, kinds_match, vertex_places, vertices_right, edges_right}
use Rattle.numbers.specs.Ranges.{all_below}

-- M: C = 3, V = 7, E = 8, cells (0,1,2), (1,3,2), (4,5,6), edges (0,1,2), (3,0,4), (5,6,7)
abbrev pub mesh_m : Mesh
mesh_m =
    record {
      cells = 3;
      vertices = 7;
      edges = 8;
      kinds = triangles 3;
      cell_vertices = 0 ∷ 1 ∷ 2 ∷ 1 ∷ 3 ∷ 2 ∷ 4 ∷ 5 ∷ 6 ∷ [];
      cell_edges = 0 ∷ 1 ∷ 2 ∷ 3 ∷ 0 ∷ 4 ∷ 5 ∷ 6 ∷ 7 ∷ [];
    }

-- M7: C = 2, V = 3, E = 3. Cells (0,1,2), (1,2,0), edges (0,1,2), (1,2,0)
abbrev pub m7_turned : Mesh
m7_turned =
    record {
      cells = 2;
      vertices = 3;
      edges = 3;
      kinds = triangles 2;
      cell_vertices = 0 ∷ 1 ∷ 2 ∷ 1 ∷ 2 ∷ 0 ∷ [];
      cell_edges = 0 ∷ 1 ∷ 2 ∷ 1 ∷ 2 ∷ 0 ∷ [];
    }

-- M7: cells (0,1,2) twice, edges (0,1,2) twice
abbrev pub m7_twice : Mesh
m7_twice =
    record {
      cells = 2;
      vertices = 3;
      edges = 3;
      kinds = triangles 2;
      cell_vertices = 0 ∷ 1 ∷ 2 ∷ 0 ∷ 1 ∷ 2 ∷ [];
      cell_edges = 0 ∷ 1 ∷ 2 ∷ 0 ∷ 1 ∷ 2 ∷ [];
    }

-- M8: C = 2,049, with lists 3C long
abbrev pub m8_large : Mesh
m8_large =
    record {
      cells = 2049;
      vertices = 3;
      edges = 3;
      kinds = triangles 2049;
      cell_vertices = replicate 6147 0;
      cell_edges = replicate 6147 0;
    }

-- ---- with quads

-- a triangle and a quad that share an edge
abbrev pub edge_shared : Mesh
edge_shared =
    record {
      cells = 2;
      vertices = 5;
      edges = 6;
      kinds = 3 ∷ 4 ∷ [];
      cell_vertices = 0 ∷ 1 ∷ 2 ∷ 1 ∷ 3 ∷ 2 ∷ 4 ∷ [];
      cell_edges = 0 ∷ 1 ∷ 2 ∷ 3 ∷ 0 ∷ 4 ∷ 5 ∷ [];
    }

-- a quad first, triangles and quads after it, at edges, at vertices and apart
abbrev pub five_cells : Mesh
five_cells =
    record {
      cells = 5;
      vertices = 13;
      edges = 16;
      kinds = 4 ∷ 3 ∷ 3 ∷ 4 ∷ 3 ∷ [];
      cell_vertices = 0 ∷ 1 ∷ 2 ∷ 3 ∷ 4 ∷ 1 ∷ 3 ∷ 5 ∷ 6 ∷ 7 ∷ 8 ∷ 9 ∷ 10 ∷ 11 ∷ 7 ∷ 8 ∷ 12 ∷ [];
      cell_edges = 0 ∷ 1 ∷ 2 ∷ 3 ∷ 2 ∷ 4 ∷ 5 ∷ 6 ∷ 7 ∷ 8 ∷ 9 ∷ 10 ∷ 11 ∷ 12 ∷ 13 ∷ 14 ∷ 15 ∷ [];
    }

-- two quads that meet only at a diagonal
abbrev pub diagonal : Mesh
diagonal =
    record {
      cells = 2;
      vertices = 6;
      edges = 8;
      kinds = 4 ∷ 4 ∷ [];
      cell_vertices = 0 ∷ 1 ∷ 2 ∷ 3 ∷ 0 ∷ 4 ∷ 5 ∷ 3 ∷ [];
      cell_edges = 0 ∷ 1 ∷ 2 ∷ 3 ∷ 4 ∷ 5 ∷ 6 ∷ 7 ∷ [];
    }

-- a triangle that shares three vertices with a quad
abbrev pub three_shared : Mesh
three_shared =
    record {
      cells = 2;
      vertices = 4;
      edges = 5;
      kinds = 4 ∷ 3 ∷ [];
      cell_vertices = 0 ∷ 1 ∷ 2 ∷ 3 ∷ 0 ∷ 1 ∷ 2 ∷ [];
      cell_edges = 0 ∷ 1 ∷ 2 ∷ 3 ∷ 4 ∷ 1 ∷ 0 ∷ [];
    }

-- a quad twice
abbrev pub quad_twice : Mesh
quad_twice =
    record {
      cells = 2;
      vertices = 4;
      edges = 4;
      kinds = 4 ∷ 4 ∷ [];
      cell_vertices = 0 ∷ 1 ∷ 2 ∷ 3 ∷ 0 ∷ 1 ∷ 2 ∷ 3 ∷ [];
      cell_edges = 0 ∷ 1 ∷ 2 ∷ 3 ∷ 0 ∷ 1 ∷ 2 ∷ 3 ∷ [];
    }

-- a quad, and one with the same vertices in another order
abbrev pub quad_turned : Mesh
quad_turned =
    record {
      cells = 2;
      vertices = 4;
      edges = 4;
      kinds = 4 ∷ 4 ∷ [];
      cell_vertices = 0 ∷ 1 ∷ 2 ∷ 3 ∷ 1 ∷ 3 ∷ 0 ∷ 2 ∷ [];
      cell_edges = 0 ∷ 1 ∷ 2 ∷ 3 ∷ 2 ∷ 0 ∷ 3 ∷ 1 ∷ [];
    }

-- opens the definitions of this crate and of those below it
unfoldable pub opened_grid : Unit {0}
unfolding opened_lists cells_of kinds_present before part has share distinct same_two all_below corners sides places_agree edge_rule cells_right kinds_right kinds_match vertex_places vertices_right edges_right
opened_grid = tt

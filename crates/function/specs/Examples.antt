-- The colours of M1 and M3 of the paper, and of what they leave untouched. Assumes nothing.
use Rattle.std.specs.Prelude.{ℕ, refl, [], ◌∷◌}
use Rattle.lists.specs.Examples.{Example, example, Holds}
use Rattle.grid.specs.Mesh.{triangles}
use Rattle.grid.specs.Examples.{mesh_m, opened_grid}
use Rattle.function.specs.declared.Element.{Element}
use Rattle.function.specs.declared.Elements.{Elements}
use Rattle.function.specs.Elements.{dim_of, element_of, elements_right, alike, dims_right, Space}
use Rattle.function.specs.Colours.{taken, smallest, colours_to, colour_list, colour_count}

-- opens the definitions of this crate and of those below it
unfoldable pub opened_function : Unit {0}
unfolding opened_grid dim_of element_of elements_right dims_right taken smallest colours_to colour_list colour_count
opened_function = tt

abbrev pub element : ℕ → ℕ → ℕ → Element
element a b c = record { a = a; b = b; c = c }

-- a and b for both kinds, c for triangles and d for quads
abbrev pub elements : ℕ → ℕ → ℕ → ℕ → Elements
elements a b c d = record { triangle = element a b c; quad = element a b d }

-- the element on M
abbrev pub on_m : Element → Space
on_m e = record { kinds = mesh_m.kinds; cell_vertices = mesh_m.cell_vertices; cell_edges = mesh_m.cell_edges; elements = alike e }

-- M1: a = 1: colours 0, 1, 0
abbrev pub m1_colours : Example
m1_colours = example (colour_list (on_m (element 1 0 0)) 3) (0 ∷ 1 ∷ 0 ∷ [])

pub m1_colours_holds : Holds m1_colours
unfolding opened_function
m1_colours_holds = refl

-- M3: c = 1 alone: colours 0, 0, 0
abbrev pub m3_colours : Example
m3_colours = example (colour_list (on_m (element 0 0 1)) 3) (0 ∷ 0 ∷ 0 ∷ [])

pub m3_colours_holds : Holds m3_colours
unfolding opened_function
m3_colours_holds = refl

-- Two cells that meet at one vertex: (0,1,2), (2,3,4), edges (0,1,2), (3,4,5). Coloured by edges they have one colour, by vertices two
abbrev meeting : Element → Space
meeting e = record { kinds = triangles 2; cell_vertices = 0 ∷ 1 ∷ 2 ∷ 2 ∷ 3 ∷ 4 ∷ []; cell_edges = 0 ∷ 1 ∷ 2 ∷ 3 ∷ 4 ∷ 5 ∷ []; elements = alike e }

abbrev pub by_edges : Example
by_edges = example (colour_list (meeting (element 0 1 0)) 2 ∷ colour_list (meeting (element 1 0 0)) 2 ∷ []) ((0 ∷ 0 ∷ []) ∷ (0 ∷ 1 ∷ []) ∷ [])

pub by_edges_holds : Holds by_edges
unfolding opened_function
by_edges_holds = refl

-- The dimension is read from the first kind present. Where a triangle has one DOF a vertex, and a quad one inside: M is coloured by vertices, and two
-- quads that share an edge, vertices (0,1,2,3), (1,4,3,5), edges (0,1,2,3), (4,2,5,6), have one colour
abbrev unlike : Elements
unlike = record { triangle = element 1 0 0; quad = element 0 0 1 }

abbrev triangles_alone : Space
triangles_alone = record { kinds = mesh_m.kinds; cell_vertices = mesh_m.cell_vertices; cell_edges = mesh_m.cell_edges; elements = unlike }

abbrev quads_alone : Space
quads_alone =
    record {
      kinds = 4 ∷ 4 ∷ [];
      cell_vertices = 0 ∷ 1 ∷ 2 ∷ 3 ∷ 1 ∷ 4 ∷ 3 ∷ 5 ∷ [];
      cell_edges = 0 ∷ 1 ∷ 2 ∷ 3 ∷ 4 ∷ 2 ∷ 5 ∷ 6 ∷ [];
      elements = unlike;
    }

abbrev pub first_kind : Example
first_kind = example (colour_list triangles_alone 3 ∷ colour_list quads_alone 2 ∷ []) ((0 ∷ 1 ∷ 0 ∷ []) ∷ (0 ∷ 0 ∷ []) ∷ [])

pub first_kind_holds : Holds first_kind
unfolding opened_function
first_kind_holds = refl

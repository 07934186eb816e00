-- DOF numbers and owner records of M1 and M2 of the paper, and of what they leave untouched. Assumes nothing.
use Rattle.std.specs.Prelude.{refl, [], ◌∷◌}
use Rattle.lists.specs.Examples.{Example, example, Holds}
use Rattle.function.specs.Examples.{element, elements, on_m, opened_function}
use Rattle.grid.specs.Cells.{before, part}
use Rattle.function.specs.declared.Elements.{Elements}
use Rattle.function.specs.Elements.{Space}
use Rattle.dof_numbering.specs.Numbering.{visits_of, visits, same_entity, first_visit, is_first, free, start, up_from, owners_on, dofs_to, owners_to, dof_list, owner_list, dof_count}

-- opens the definitions of this crate and of those below it
unfoldable pub opened_dofs : Unit {0}
unfolding opened_function before part visits_of visits same_entity first_visit is_first free start up_from owners_on dofs_to owners_to
opened_dofs = tt

-- M1: a = 1: DOFs (0,1,2), (1,3,2), (4,5,6)
abbrev pub m1_dofs : Example
m1_dofs = example (dof_list (on_m (element 1 0 0)) 3) (0 ∷ 1 ∷ 2 ∷ 1 ∷ 3 ∷ 2 ∷ 4 ∷ 5 ∷ 6 ∷ [])

pub m1_dofs_holds : Holds m1_dofs
unfolding opened_dofs
m1_dofs_holds = refl

-- M2: a = b = 1: DOFs (0,1,2,3,4,5), (1,6,2,7,3,8), (9,10,11,12,13,14)
abbrev pub m2_dofs : Example
m2_dofs =
    example (dof_list (on_m (element 1 1 0)) 3) (0 ∷ 1 ∷ 2 ∷ 3 ∷ 4 ∷ 5 ∷ 1 ∷ 6 ∷ 2 ∷ 7 ∷ 3 ∷ 8 ∷ 9 ∷ 10 ∷ 11 ∷ 12 ∷ 13 ∷ 14 ∷ [])

pub m2_dofs_holds : Holds m2_dofs
unfolding opened_dofs
m2_dofs_holds = refl

-- Beside the paper's: the owner records of M2's first cell, and how many DOFs M2 has
abbrev pub m2_owners : Example
m2_owners =
    example (owner_list (on_m (element 1 1 0)) 1) (0 ∷ 0 ∷ 0 ∷ 0 ∷ 1 ∷ 0 ∷ 0 ∷ 2 ∷ 0 ∷ 1 ∷ 0 ∷ 0 ∷ 1 ∷ 1 ∷ 0 ∷ 1 ∷ 2 ∷ 0 ∷ [])

pub m2_owners_holds : Holds m2_owners
unfolding opened_dofs
m2_owners_holds = refl

abbrev pub m2_count : Example
m2_count = example (dof_count (on_m (element 1 1 0)) 3) 15

pub m2_count_holds : Holds m2_count
unfolding opened_dofs
m2_count_holds = refl

-- two DOFs an edge and one inside, on the first two cells of M: the shared edge 0 keeps its two
abbrev pub two_an_edge : Example
two_an_edge = example (dof_list (on_m (element 0 2 1)) 2) (0 ∷ 1 ∷ 2 ∷ 3 ∷ 4 ∷ 5 ∷ 6 ∷ 7 ∷ 8 ∷ 0 ∷ 1 ∷ 9 ∷ 10 ∷ 11 ∷ [])

pub two_an_edge_holds : Holds two_an_edge
unfolding opened_dofs
two_an_edge_holds = refl

-- their owner records: dimension, entity, place on it
abbrev pub two_owners : Example
two_owners =
    example (owner_list (on_m (element 0 2 1)) 2)
    (1 ∷ 0 ∷ 0 ∷ 1 ∷ 0 ∷ 1 ∷ 1 ∷ 1 ∷ 0 ∷ 1 ∷ 1 ∷ 1 ∷ 1 ∷ 2 ∷ 0 ∷ 1 ∷ 2 ∷ 1 ∷ 2 ∷ 0 ∷ 0 ∷ 1 ∷ 3 ∷ 0 ∷ 1 ∷ 3 ∷ 1 ∷ 1 ∷ 4 ∷ 0 ∷ 1 ∷ 4 ∷ 1 ∷ 2 ∷ 1 ∷ 0 ∷ [])

pub two_owners_holds : Holds two_owners
unfolding opened_dofs
two_owners_holds = refl

-- A triangle and a quad that share an edge, and a quad apart: vertices (0,1,2), (1,3,2,4), (5,6,7,8), edges (0,1,2), (3,0,4,5), (6,7,8,9)
abbrev beside : Elements → Space
beside es =
    record {
      kinds = 3 ∷ 4 ∷ 4 ∷ [];
      cell_vertices = 0 ∷ 1 ∷ 2 ∷ 1 ∷ 3 ∷ 2 ∷ 4 ∷ 5 ∷ 6 ∷ 7 ∷ 8 ∷ [];
      cell_edges = 0 ∷ 1 ∷ 2 ∷ 3 ∷ 0 ∷ 4 ∷ 5 ∷ 6 ∷ 7 ∷ 8 ∷ 9 ∷ [];
      elements = es;
    }

-- a = b = 1, of the first two: DOFs (0,1,2,3,4,5), (1,6,2,7,8,3,9,10)
abbrev pub quad_beside : Example
quad_beside = example (dof_list (beside (elements 1 1 0 0)) 2) (0 ∷ 1 ∷ 2 ∷ 3 ∷ 4 ∷ 5 ∷ 1 ∷ 6 ∷ 2 ∷ 7 ∷ 8 ∷ 3 ∷ 9 ∷ 10 ∷ [])

pub quad_beside_holds : Holds quad_beside
unfolding opened_dofs
quad_beside_holds = refl

-- b = c = 1, of the first two: the owner records, of the triangle's edges and interior, then of the quad's three other edges and its interior
abbrev pub quad_owners : Example
quad_owners =
    example (owner_list (beside (elements 0 1 1 1)) 2)
    (1 ∷ 0 ∷ 0 ∷ 1 ∷ 1 ∷ 0 ∷ 1 ∷ 2 ∷ 0 ∷ 2 ∷ 0 ∷ 0 ∷ 1 ∷ 3 ∷ 0 ∷ 1 ∷ 4 ∷ 0 ∷ 1 ∷ 5 ∷ 0 ∷ 2 ∷ 1 ∷ 0 ∷ [])

pub quad_owners_holds : Holds quad_owners
unfolding opened_dofs
quad_owners_holds = refl

-- c alone, 1 in a triangle and 2 in a quad: DOFs (0), (1,2), (3,4), and their owner records
abbrev pub quad_inside : Example
quad_inside = example (dof_list (beside (elements 0 0 1 2)) 3) (0 ∷ 1 ∷ 2 ∷ 3 ∷ 4 ∷ [])

pub quad_inside_holds : Holds quad_inside
unfolding opened_dofs
quad_inside_holds = refl

abbrev pub inside_owners : Example
inside_owners = example (owner_list (beside (elements 0 0 1 2)) 3) (2 ∷ 0 ∷ 0 ∷ 2 ∷ 1 ∷ 0 ∷ 2 ∷ 1 ∷ 1 ∷ 2 ∷ 2 ∷ 0 ∷ 2 ∷ 2 ∷ 1 ∷ [])

pub inside_owners_holds : Holds inside_owners
unfolding opened_dofs
inside_owners_holds = refl

-- The numbering of the DOFs (`assign_dofs`). Cells rise; in a cell, vertices, edges, interior. An entity met first gets the next free numbers.
-- Assumes nothing.
--
-- So the mesh is walked by visits, one list of them. The entity of visit k was met first at visit `first_visit k`; it has the numbers that were free
-- then. Below `visits` nothing knows of cells and kinds.
use Rattle.std.specs.Prelude.{ℕ, zero, suc, ◌+◌, Bool, cond, length, get_or, ltb, eqb}
use mathlib.Core.List.{List, [], ◌∷◌, ◌++◌, flat_map, map}
use Rattle.lists.specs.Bool.{◌and◌}
use Rattle.lists.specs.Bounded.{least}
use Rattle.lists.specs.Range.{range}
use Rattle.grid.specs.Cells.{before, part, own}
use Rattle.function.specs.declared.Element.{Element}
use Rattle.function.specs.Elements.{element_of, cell_dim, Space}

-- ---- the visits

-- a visit: the entity's dimension, its number, and how many DOFs are on it
pub record Visit : Type 0 where
  pub dimension : ℕ
  pub entity : ℕ
  pub dofs : ℕ

abbrev pub visit : ℕ → ℕ → ℕ → Visit
visit d x m = record { dimension = d; entity = x; dofs = m }

-- one of each of the entities xs of dimension d, with m DOFs on each
abbrev pub visit_each : ℕ → ℕ → List ℕ → List Visit
visit_each d m xs = map (λ x. visit d x m) xs

-- in a cell, vertices, edges, interior
unfoldable pub visits_of : ℕ → List ℕ → List ℕ → Element → List Visit
visits_of i vertices edges e = visit_each 0 e.a vertices ++ visit_each 1 e.b edges ++ (visit 2 i e.c ∷ [])

-- the kind of cell i, its vertices, its edges, and the element on it
abbrev pub kind : Space → ℕ → ℕ
kind s i = get_or s.kinds i 0

abbrev pub corners : Space → ℕ → List ℕ
corners s i = part own s.kinds s.cell_vertices i

abbrev pub sides : Space → ℕ → List ℕ
sides s i = part own s.kinds s.cell_edges i

abbrev pub element_on : Space → ℕ → Element
element_on s i = element_of s.elements (kind s i)

abbrev pub cell_visits : Space → ℕ → List Visit
cell_visits s i = visits_of i (corners s i) (sides s i) (element_on s i)

-- of C cells, which rise
unfoldable pub visits : Space → ℕ → List Visit
visits s C = flat_map (cell_visits s) (range C)

-- ---- their numbers

-- visit k of a walk: the entity's dimension, its number, and how many DOFs are on it
abbrev pub visit_at : List Visit → ℕ → Visit
visit_at vs k = get_or vs k (visit 0 0 0)

abbrev pub dimension_of : List Visit → ℕ → ℕ
dimension_of vs k = (visit_at vs k).dimension

abbrev pub entity_of : List Visit → ℕ → ℕ
entity_of vs k = (visit_at vs k).entity

abbrev pub dofs_on : List Visit → ℕ → ℕ
dofs_on vs k = (visit_at vs k).dofs

-- visits j and k meet the same entity
unfoldable pub same_entity : List Visit → ℕ → ℕ → Bool
same_entity vs j k = eqb (dimension_of vs j) (dimension_of vs k) and eqb (entity_of vs j) (entity_of vs k)

-- the visit that met the entity of visit k first
unfoldable pub first_visit : List Visit → ℕ → ℕ
first_visit vs k = least k (λ j. same_entity vs j k)

unfoldable pub is_first : List Visit → ℕ → Bool
is_first vs k = eqb (first_visit vs k) k

-- the next free number before visit k: an entity met first takes as many numbers as it has DOFs
unfoldable pub free : List Visit → ℕ → ℕ
free vs zero = 0
free vs (suc k) = free vs k + cond (is_first vs k) (dofs_on vs k) 0

-- the first number of the entity of visit k
unfoldable pub start : List Visit → ℕ → ℕ
start vs k = free vs (first_visit vs k)

-- n, n + 1, .. : m numbers
unfoldable pub up_from : ℕ → ℕ → List ℕ
up_from n zero = []
up_from n (suc m) = up_from n m ++ ((n + m) ∷ [])

-- the owner records of m DOFs on entity x of dimension d: dimension, entity, place on it
unfoldable pub owners_on : ℕ → ℕ → ℕ → List ℕ
owners_on d x zero = []
owners_on d x (suc m) = owners_on d x m ++ (d ∷ x ∷ m ∷ [])

-- the DOF numbers of the visits before visit k, and the owner records of the DOFs numbered before it
unfoldable pub dofs_to : List Visit → ℕ → List ℕ
dofs_to vs zero = []
dofs_to vs (suc k) = dofs_to vs k ++ up_from (start vs k) (dofs_on vs k)

unfoldable pub owners_to : List Visit → ℕ → List ℕ
owners_to vs zero = []
owners_to vs (suc k) = owners_to vs k ++ cond (is_first vs k) (owners_on (dimension_of vs k) (entity_of vs k) (dofs_on vs k)) []

-- of C cells: the DOF list, cell after cell; how many DOFs there are; their owner records, in order of DOF number
abbrev pub dof_list : Space → ℕ → List ℕ
dof_list s C = dofs_to (visits s C) (length (visits s C))

abbrev pub dof_count : Space → ℕ → ℕ
dof_count s C = free (visits s C) (length (visits s C))

abbrev pub owner_list : Space → ℕ → List ℕ
owner_list s C = owners_to (visits s C) (length (visits s C))

-- ---- the places of a cell: in a cell of kind n, places below n are its vertices, then n edges, then the interior

-- a cell of kind n has so many
abbrev pub visits_in : ℕ → ℕ
visits_in n = n + n + 1

-- place p of cell i is this visit
abbrev pub visit_of : Space → ℕ → ℕ → ℕ
visit_of s i p = before visits_in s.kinds i + p

-- how many DOFs are on place p of a cell of kind n, and how many of the cell's stand before them
abbrev pub on_place : Element → ℕ → ℕ → ℕ
on_place e n p = cond (ltb p n) e.a (cond (ltb p (n + n)) e.b e.c)

unfoldable pub dofs_before : Element → ℕ → ℕ → ℕ
dofs_before e n zero = 0
dofs_before e n (suc p) = dofs_before e n p + on_place e n p

-- where those of place p of cell i begin in the DOF list
abbrev pub dof_place : Space → ℕ → ℕ → ℕ
dof_place s i p = before (cell_dim s.elements) s.kinds i + dofs_before (element_on s i) (kind s i) p

-- What `assign_dofs` asks; what a visit does to its lists, a walk over visits, and what room it needs; and its loops over entities and over a cell.
-- Assumes nothing.
use Rattle.std.specs.Prelude.{ℕ, ◌+◌, ◌*◌, ◌-◌, ◌<◌, ◌≤◌, cond, List, [], ◌∷◌, get_or, set, eqb}
use Rattle.std.proofs.Math.ListN.{length}
use Rattle.std.proofs.lemmas.List.Edits.{sets}
use Rattle.grid.specs.Mesh.{most_cells, most_vertices, most_edges}
use Rattle.function.specs.Elements.{most_dim, cell_dim, Space}
use Rattle.function.specs.declared.Element.{Element}
use Rattle.function.specs.declared.Elements.{Elements}
use Rattle.dof_numbering.specs.Numbering.{Visit, up_from, owners_on, kind}
use Rattle.dof_numbering.specs.ByCell.{Filled}

-- ---- what `assign_dofs` asks

abbrev pub space : List ℕ → List ℕ → List ℕ → Elements → Space
space kinds vertices edges elements = record { kinds = kinds; cell_vertices = vertices; cell_edges = edges; elements = elements }

-- lists of C cells, with numbers within the largest mesh, and few local DOFs
pub record Sized (s : Space) (C : ℕ) : Type 0 where
  pub few : C ≤ most_cells
  pub filled : Filled s C
  pub small : (i : ℕ) → i < C → cell_dim s.elements (kind s i) ≤ most_dim
  pub vertices_below : (p : ℕ) → p < length s.cell_vertices → get_or s.cell_vertices p 0 < most_vertices
  pub edges_below : (p : ℕ) → p < length s.cell_edges → get_or s.cell_edges p 0 < most_edges

-- ---- what a visit does

-- all vertices, edges and cells of the largest mesh
abbrev pub most_entities : ℕ
most_entities = most_vertices + most_edges + most_cells

-- where the first number of entity x of dimension d is kept: a place for each vertex, then for each edge, then for each cell
abbrev pub slot : ℕ → ℕ → ℕ
slot d x = cond (eqb d 0) x (cond (eqb d 1) (most_vertices + x) (most_vertices + most_edges + x))

-- entities of dimension d that have a slot
pub record Slots (d : ℕ) (xs : List ℕ) : Type 0 where
  pub below : (p : ℕ) → p < length xs → slot d (get_or xs p 0) < most_entities

-- The lists in the middle of the walk, the next place in the DOF list and the next free number. The first number of an entity is kept at its slot of
-- `met` (0: not met yet, else 1 more than the number)
pub record State : Type 0 where
  pub met : List ℕ
  pub dofs : List ℕ
  pub owners : List ℕ
  pub at : ℕ
  pub next : ℕ

-- what is kept of the entity of a visit
abbrev pub seen : State → Visit → ℕ
seen st v = get_or st.met (slot v.dimension v.entity) 0

-- an entity met first gets the next free numbers, and its owner records are written
abbrev pub met_first : State → Visit → State
met_first st v =
    record {
      met = set st.met (slot v.dimension v.entity) (st.next + 1);
      dofs = sets st.dofs st.at (up_from st.next v.dofs);
      owners = sets st.owners (3 * st.next) (owners_on v.dimension v.entity v.dofs);
      at = st.at + v.dofs;
      next = st.next + v.dofs;
    }

-- one met again has its numbers
abbrev pub met_again : State → Visit → State
met_again st v =
    record {
      met = st.met;
      dofs = sets st.dofs st.at (up_from (seen st v - 1) v.dofs);
      owners = st.owners;
      at = st.at + v.dofs;
      next = st.next;
    }

unfoldable pub step : State → Visit → State
step st v = cond (eqb (seen st v) 0) (met_first st v) (met_again st v)

-- ---- a walk

unfoldable pub walk : State → List Visit → State
walk st [] = st
walk st (v ∷ vs) = walk (step st v) vs

-- ---- room for n more DOFs

pub record Room (st : State) (n : ℕ) : Type 0 where
  pub kept : (x : ℕ) → get_or st.met x 0 ≤ st.next + 1
  pub dofs_long : st.at + n ≤ length st.dofs
  pub owners_long : 3 * (st.next + n) ≤ length st.owners
  pub few : st.next + n < 65535

-- ---- the visits of a cell: its vertices, its edges, its interior

-- how many DOFs they have
unfoldable pub cell_dofs : List ℕ → List ℕ → Element → ℕ
cell_dofs vertices edges e = length vertices * e.a + length edges * e.b + e.c

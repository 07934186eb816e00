-- The walk as the code holds it, as a state of the walk, and what a visit leaves of it. Assumes nothing.
use Rattle.std.specs.Prelude.{ℕ, ◌≡◌}
use Rattle.dof_numbering.specs.declared.Dimension.{Dimension}
use Rattle.dof_numbering.specs.declared.Dimension.TheVariants.{Vertex, Edge, Cell}
use Rattle.dof_numbering.specs.declared.DofWalk.{DofWalk}
use Rattle.dof_numbering.specs.Walk.{State}

abbrev pub dimension_number : Dimension → ℕ
dimension_number Vertex = 0
dimension_number Edge = 1
dimension_number Cell = 2

abbrev pub state : DofWalk → State
state w = record { met = w.met.now; dofs = w.dofs.now; owners = w.owners.now; at = w.at; next = w.free }

-- the lists are the same ones, whatever stands in them
pub record Kept (old new : DofWalk) : Type 0 where
  pub met : new.met.ghost_name ≡ old.met.ghost_name
  pub dofs : new.dofs.ghost_name ≡ old.dofs.ghost_name
  pub owners : new.owners.ghost_name ≡ old.owners.ghost_name

-- `boundary_assemblers::calls::cell_dofs` meets its contract: the part has `dim` elements. Assumes nothing.
use native.Mathlib.Nat.{add-sub_cancel_left}
use Rattle.boundary_assemblers.proofs.calls.cell_dofs.Goals as goal

pub returns : goal.returns
returns c = rw add-sub_cancel_left

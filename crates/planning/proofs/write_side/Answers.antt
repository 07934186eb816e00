-- `planning::write_side` meets its contract: there are as many cells as kinds. Assumes nothing.
use Rattle.planning.proofs.write_side.Goals as goal

pub assign_dofs-requires : goal.assign_dofs-requires
assign_dofs-requires c = rw c.requires.cells (record { sized = c.requires.sized; dofs_len = c.requires.places })

pub returns : goal.returns
returns c =
    let d = rw c.requires.cells at c.assign_dofs.ensures in
    record { dofs = d.1; owners = d.2; colours = c.cell_colouring.ensures.colours_after; dof_total = d.0; colour_total = c.cell_colouring.ensures.value }

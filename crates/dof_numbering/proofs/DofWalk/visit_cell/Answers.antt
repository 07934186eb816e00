-- `dof_numbering::DofWalk::visit_cell` meets its contract. The three walks join by `cell_walked`. Assumes nothing.
use Rattle.dof_numbering.proofs.Walk.{vertices_room, edges_room, inside_room, cell_walked}
use Rattle.dof_numbering.proofs.DofWalk.visit_cell.Goals as goal

pub visit_each-requires-clause-room : goal.visit_each-requires-clause-room
visit_each-requires-clause-room c = vertices_room _ _ _ _ c.requires.room

pub visit_each-requires-2-clause-room : goal.visit_each-requires-2-clause-room
visit_each-requires-2-clause-room c = edges_room _ _ _ _ _ c.visit_each.ensures.walked c.requires.room

pub visit-requires-clause-room : goal.visit-requires-clause-room
visit-requires-clause-room c = inside_room _ _ _ _ _ c.visit_each.ensures.walked _ c.visit_each-2.ensures.walked c.requires.room

pub returns-clause-walked : goal.returns-clause-walked
returns-clause-walked c =
    cell_walked _ _ _ _ _ c.visit_each.ensures.walked _ c.visit_each-2.ensures.walked _ _ c.visit.ensures.walked

-- The lists are as long as they should be where the dims are right; where planning is ready the text is the lines of the work list that it leaves, else what it
-- refuses. Assumes nothing.
use Rattle.std.proofs.Common.{refl, ap, ◌∙◌}
use Rattle.worklist_text.specs.Text.{refused_line}
use Rattle.worklist_text.specs.PlannedFacts.{text_short, ready_lines, refused_line_holds, lent_same}
use Rattle.worklist_text.proofs.worklist.write_mesh.Goals as goal

pub write_lines-requires : goal.write_lines-requires
write_lines-requires c =
    let same = ready_lines _ _ c.in-Ok.ensures.value c.in-Ok.ensures.written refl in
    rw same (text_short _ _ c.requires.0)

pub returns-in-Ok : goal.returns-in-Ok
returns-in-Ok c =
    lent_same c.args.mesh.sizes c.args.mesh.cell_vertices.now c.args.mesh.cell_edges.now c.args.assembly c.requires.1 c.requires.0 c.dof_places-rows.ensures c.dof_places-columns.ensures
    (c.write_lines.ensures ∙ ready_lines _ _ c.in-Ok.ensures.value c.in-Ok.ensures.written refl)

pub returns-in-Err : goal.returns-in-Err
returns-in-Err c =
    lent_same c.args.mesh.sizes c.args.mesh.cell_vertices.now c.args.mesh.cell_edges.now c.args.assembly c.requires.1 c.requires.0 c.dof_places-rows.ensures c.dof_places-columns.ensures
    (c.write_refused.ensures ∙ ap refused_line c.number.ensures ∙ refused_line_holds _ _ c.in-Err.ensures.value refl)

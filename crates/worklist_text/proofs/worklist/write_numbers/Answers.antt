-- The lent front is the kind list of the triangles. Assumes nothing.
use Rattle.std.proofs.Common.{refl}
use Rattle.worklist_text.specs.PlannedFacts.{front}
use Rattle.worklist_text.proofs.worklist.write_numbers.Goals as goal

pub write_mesh-requires : goal.write_mesh-requires
write_mesh-requires c = (c.requires.few, front refl c.requires.few)

pub returns : goal.returns
returns c = rw (front {C = c.args.job.cells} refl c.requires.few, c.from.ensures, c.from-2.ensures) at c.write_mesh.ensures

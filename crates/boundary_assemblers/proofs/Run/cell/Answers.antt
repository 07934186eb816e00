-- `boundary_assemblers::Run::cell` meets its contract: where its DOFs begin, by how many of the cells before it are quads. Assumes nothing.
use Rattle.std.proofs.Common.{ℕ, get_or, arith, ap}
use Rattle.boundary_assemblers.specs.RunFacts.{quads_few, cell_is}
use Rattle.boundary_assemblers.proofs.Run.cell.Goals as goal

pub overflow_sub-cell : goal.overflow_sub-cell
overflow_sub-cell c = (quads_few c.requires.0 _ c.requires.1 c.quads_before-quads.ensures).0

pub places-requires : goal.places-requires
places-requires c = let few = quads_few c.requires.0 _ c.requires.1 c.quads_before-quads.ensures in (omega (arith, few.0, few.1), omega (arith, few.0, few.1))

pub returns : goal.returns
returns c = cell_is c.requires.0 _ c.requires.1 c.args.elements (ap (λ (i : ℕ). get_or c.args.kinds.now i 0) c.wide.ensures) c.quads_before-quads.ensures c.places.ensures c.dim.ensures

-- `boundary_assemblers::Run::add_matrix` meets its contract: the matrix has room. Assumes nothing.
use Rattle.boundary_assemblers.specs.AddFacts.{add_fits, by_dim}
use Rattle.boundary_assemblers.proofs.Run.add_matrix.Goals as goal

pub add_to-requires : goal.add_to-requires
add_to-requires c = rw (c.wide-2.ensures, c.wide.ensures, c.local_matrix.ensures.test, c.local_matrix.ensures.trial) (add_fits c.requires)

pub returns : goal.returns
returns c =
    by_dim c.requires c.args.matrix.now c.args.entries.now
    (rw (c.wide.ensures, c.local_matrix.ensures.test, c.local_matrix.ensures.trial, c.local_matrix.ensures.entries) at c.add_to.ensures)

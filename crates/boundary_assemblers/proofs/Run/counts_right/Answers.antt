-- `boundary_assemblers::Run::counts_right` meets its contract: sums of a few numbers below 2^32 are below 2^64. Assumes nothing.
use Rattle.lists.specs.Bool.{◌and◌, ◌or◌, every}
use Rattle.runs.specs.Runs.{counts_right}
use Rattle.boundary_assemblers.proofs.Run.counts_right.Goals as goal

pub returns : goal.returns
unfolding counts_right every ◌and◌ ◌or◌
returns c = simp (c.wide-6.ensures, c.wide-5.ensures, c.wide-4.ensures, c.wide-3.ensures, c.wide-2.ensures, c.wide.ensures, c.wide-touching.ensures, c.pair_count.ensures, c.pair_count-2.ensures)

-- `boundary_assemblers::Run::kinds_fit` meets its contract. Assumes nothing.
use Rattle.runs.specs.Runs.{kinds_fit}
use Rattle.boundary_assemblers.proofs.Run.kinds_fit.Goals as goal

pub returns : goal.returns
unfolding kinds_fit
returns c = c.kinds_match.ensures

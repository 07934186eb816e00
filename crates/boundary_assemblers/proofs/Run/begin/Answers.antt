-- `boundary_assemblers::Run::begin` meets its contract. Assumes nothing.
use mathlib.Core.Path.{refl}
use Rattle.runs.specs.Runs.{begin}
use Rattle.boundary_assemblers.proofs.Run.begin.Goals as goal

pub returns : goal.returns
unfolding begin
returns c = refl

-- `boundary_assemblers::Run::record_known` meets its contract. Assumes nothing.
use mathlib.Core.Path.{refl}
use Rattle.lists.specs.Bool.{◌and◌, ◌or◌, every}
use Rattle.runs.specs.Runs.{record_known}
use Rattle.boundary_assemblers.proofs.Run.record_known.Goals as goal

pub returns : goal.returns
unfolding record_known every ◌and◌ ◌or◌
returns c = refl

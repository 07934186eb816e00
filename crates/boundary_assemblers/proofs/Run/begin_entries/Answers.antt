-- `boundary_assemblers::Run::begin_entries` meets its contract. Assumes nothing.
use mathlib.Core.Path.{refl}
use Rattle.runs.specs.Runs.{begin_entries}
use Rattle.boundary_assemblers.proofs.Run.begin_entries.Goals as goal

pub returns : goal.returns
unfolding begin_entries
returns c = refl

-- `integrands::geometry_at` meets its contract: each field is read at its place, within the list. `geometry_at` computes to the same record.
-- Assumes nothing.
use mathlib.Core.Path.{refl}
use Rattle.integrands.specs.Values.{geometry_at}
use Rattle.integrands.proofs.geometry_at.Goals as goal

pub returns : goal.returns
unfolding geometry_at
returns c = refl

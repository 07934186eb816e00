-- `replay::refused` meets its contract. Assumes nothing.
use Rattle.std.proofs.Common.{refl}
use Rattle.replay.specs.Encoding.{answer_numbers}
use Rattle.replay.proofs.refused.Goals as goal

pub returns : goal.returns
unfolding answer_numbers
returns c = rw c.number.ensures refl

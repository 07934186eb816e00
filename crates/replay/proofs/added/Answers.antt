-- `replay::added` meets its contract. Assumes nothing.
use Rattle.std.proofs.Common.{refl}
use Rattle.replay.specs.Encoding.{answer_numbers}
use Rattle.replay.proofs.added.Goals as goal

pub returns-in-Ok : goal.returns-in-Ok
unfolding answer_numbers
returns-in-Ok c = rw c.in-Ok.is refl

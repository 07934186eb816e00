-- `replay::Calls::count` meets its contract. Assumes nothing.
use Rattle.std.proofs.Common.{◌∙◌}
use Rattle.replay.specs.Laws.{count_is, count_room}
use Rattle.replay.proofs.Calls.count.Goals as goal

pub returns : goal.returns
returns c =
    let value = c.min.ensures ∙ count_is _ _ in
    record { value = value; room = count_room _ _ _ value }

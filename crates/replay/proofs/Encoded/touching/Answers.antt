-- `replay::Encoded::touching` meets its contract: the lists in hand are those of the call. Assumes nothing.
use Rattle.replay.specs.Laws.{touching_in_lem}
use Rattle.replay.proofs.Encoded.touching.Goals as goal

pub returns : goal.returns
returns c =
    touching_in_lem c.args.self.pool.now c.args.self.numbers.now _ _ _ _ _ _
    c.list.ensures
    c.list-2.ensures
    c.list-3.ensures
    c.list-4.ensures
    c.list-5.ensures
    c.list-6.ensures

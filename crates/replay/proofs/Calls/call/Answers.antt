-- `replay::Calls::call` meets its contract: the eleven numbers are those of call k. Assumes nothing.
use Rattle.std.proofs.Common.{◌∙◌}
use Rattle.replay.specs.Laws.{chunk_got, call_is}
use Rattle.replay.proofs.Calls.call.Goals as goal

pub returns : goal.returns
returns c =
    c.call.ensures ∙ call_is c.args.self.numbers.now c.args.self.pool.now c.args.k (chunk_got _ 11 c.unwrap-numbers.ensures c.first_chunk.ensures.cases)

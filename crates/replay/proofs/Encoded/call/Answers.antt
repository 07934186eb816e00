-- `replay::Encoded::call` meets its contract: the kind picks the call. Assumes nothing.
use Rattle.std.proofs.Common.{arith}
use Rattle.replay.specs.Laws.{call_looks, call_distant, call_touching, call_entries}
use Rattle.replay.proofs.Encoded.call.Goals as goal

pub returns-in-0 : goal.returns-in-0
returns-in-0 c = call_looks _ _ c.in-0.is

pub returns-in-1 : goal.returns-in-1
returns-in-1 c = call_distant _ _ c.in-1.is c.distant.ensures

pub returns-in-2 : goal.returns-in-2
returns-in-2 c = call_touching _ _ c.in-2.is c.touching.ensures

pub returns-in_default : goal.returns-in_default
returns-in_default c = call_entries _ _ (λ e. omega arith) (λ e. omega arith) (λ e. omega arith) c.touching-in_default.ensures

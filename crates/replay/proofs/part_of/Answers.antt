-- `replay::part_of` meets its contract: what `get` finds, or none. Assumes nothing.
use Rattle.std.proofs.Common.{refl, ap, ◌∙◌}
use Rattle.std.specs.Borrow.{Bor}
use Rattle.std.specs.Prelude.{List, Float}
use Rattle.replay.specs.Laws.{part_got}
use Rattle.replay.proofs.part_of.Goals as goal

pub returns : goal.returns
returns c = ap (λ (x : Bor (List Float)). x.now) c.unwrap_or.ensures ∙ part_got _ _ _ _ _ refl c.get.ensures.lookup

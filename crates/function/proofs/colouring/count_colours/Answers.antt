-- See Invariants.antt. Assumes nothing.
use native.Mathlib.Omega.{arith}
use mathlib.Core.Path.{◌∙◌}
use Rattle.numbers.specs.Ranges.{larger_of}
use Rattle.function.specs.ColoursFacts.{count_none, count_more}
use Rattle.function.proofs.colouring.count_colours.Goals as goal

pub loop-colour-init : goal.loop-colour-init
loop-colour-init c = count_none _

pub loop-colour-preserved : goal.loop-colour-preserved
loop-colour-preserved c = count_more c.loop-colour.invariant (omega arith) (c.max-count.ensures ∙ larger_of _ _)

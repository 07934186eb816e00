-- `function::colouring::next_colour` meets its contract, by `marks_colour`. Assumes nothing.
use native.Mathlib.Omega.{arith}
use Rattle.function.specs.ColoursFacts.{marks_colour}
use Rattle.function.proofs.colouring.next_colour.Goals as goal

pub returns-clause-value : goal.returns-clause-value
returns-clause-value c =
    (marks_colour _ _ _ (omega (arith, c.requires.earlier.below)) c.requires.marks c.mark_sharing.ensures c.first_unmarked.ensures).0

-- `function::colouring::count_colours` meets its contract. The invariant: the number of colours of the places passed. Assumes nothing.
use Rattle.function.specs.ColoursFacts.{Counted}
use Rattle.function.proofs.colouring.count_colours.Given as goal

abbrev pub invariant-loop-colour : goal.invariant-loop-colour
invariant-loop-colour l = Counted l.colours l.colour-index l.count

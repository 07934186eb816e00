-- `function::colouring::colour_alone` meets its contract: each colour is 0 by `colours_alone`. Assumes nothing.
use mathlib.Core.Path.{sym, ◌∙◌}
use Rattle.function.specs.ColoursFacts.{colours_alone}
use Rattle.function.proofs.colouring.colour_alone.Goals as goal

pub returns : goal.returns
returns c = c.fill.ensures.after (λ y e. e) ∙ sym (colours_alone _)

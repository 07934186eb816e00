-- `function::colouring::cell_colouring` meets its contract, by those of its two calls. Assumes nothing.
use Rattle.function.specs.ColoursFacts.{colours_low}
use Rattle.function.proofs.colouring.cell_colouring.Goals as goal

pub count_colours-requires : goal.count_colours-requires
count_colours-requires c = colours_low _ _ _ c.requires.cells c.colour_by_dimension.ensures

-- `function::colouring::colour_by_dimension` meets its contract: each way by the law of its dimension. Assumes nothing.
use mathlib.Core.Path.{ap, ◌∙◌}
use Rattle.function.specs.Elements.{element_of}
use Rattle.function.specs.ColoursFacts.{by_vertices, by_edges, by_none}
use Rattle.function.proofs.colouring.colour_by_dimension.Goals as goal

pub returns-then-element-gt0 : goal.returns-then-element-gt0
returns-then-element-gt0 c = rw c.requires.places at c.colour_cells.ensures ∙ by_vertices _ _ (c.of-element.ensures ∙ ap (element_of c.args.elements) c.leading_kind.ensures) c.if-element-gt0.true

pub returns-then-element-gt0-2 : goal.returns-then-element-gt0-2
returns-then-element-gt0-2 c = rw c.requires.places at c.colour_cells-then-element-gt0-2.ensures ∙ by_edges _ _ (c.of-element.ensures ∙ ap (element_of c.args.elements) c.leading_kind.ensures) c.if-element-gt0.false c.if-element-gt0-2.true

pub returns-else-element-gt0-2 : goal.returns-else-element-gt0-2
returns-else-element-gt0-2 c = rw c.requires.places at c.colour_alone.ensures ∙ by_none _ _ (c.of-element.ensures ∙ ap (element_of c.args.elements) c.leading_kind.ensures) c.if-element-gt0.false c.if-element-gt0-2.false

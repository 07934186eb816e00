-- `function::is_dim` meets its contract. Assumes nothing.
use mathlib.Core.Path.{◌∙◌}
use Rattle.numbers.specs.Ranges.{contains_within}
use Rattle.function.proofs.is_dim.Goals as goal

pub returns : goal.returns
returns c =
    rw (c.new.ensures.start, c.new.ensures.end, c.new.ensures.exhausted) at c.contains.ensures.value ∙ contains_within _ _ _

-- `grid::checks::numbers_right` meets its contract: `&` of the two tests is `◌and◌`. Assumes nothing.
use mathlib.Core.Path.{◌∙◌}
use Rattle.lists.specs.Bool.{◌and◌}
use Rattle.numbers.specs.Ranges.{contains_within}
use Rattle.grid.proofs.checks.numbers_right.Goals as goal

pub returns : goal.returns
unfolding ◌and◌
returns c =
    let range = rw (c.new.ensures.start, c.new.ensures.end, c.new.ensures.exhausted, c.wide.ensures) at c.contains.ensures.value ∙ contains_within 3 c.args.most c.args.count in
    rw (c.all_below.ensures, range)

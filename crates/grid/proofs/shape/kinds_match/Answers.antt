-- `grid::shape::kinds_match` meets its contract: of one kind alone by `match_three` and `match_four`, else by the two counts. Assumes nothing.
use native.Mathlib.Omega.{arith}
use mathlib.Core.Path.{sym}
use Rattle.lists.specs.Bool.{◌and◌}
use Rattle.grid.specs.KindsFacts.{cells_few, match_short, match_both, match_three, match_four}
use Rattle.grid.proofs.shape.kinds_match.Goals as goal

pub returns-then-kinds-wide : goal.returns-then-kinds-wide
returns-then-kinds-wide c = sym (match_short _ _ _ _ (λ e. omega (arith, c.wide.ensures)))

pub returns-then-quads-eq0 : goal.returns-then-quads-eq0
unfolding ◌and◌
returns-then-quads-eq0 c = rw c.all_are.ensures (sym (match_three _ _ (omega (arith, c.wide.ensures)) _ _ (omega arith)))

pub returns-then-triangles-eq0 : goal.returns-then-triangles-eq0
unfolding ◌and◌
returns-then-triangles-eq0 c = rw c.all_are-then-triangles-eq0.ensures (sym (match_four _ _ (omega (arith, c.wide.ensures)) _ _ (omega arith)))

pub overflow_sub-result : goal.overflow_sub-result
overflow_sub-result c = omega (arith, c.count_kind-fours.ensures, cells_few c.args.kinds.now 4, c.wide.ensures)

pub returns : goal.returns
unfolding ◌and◌
returns c = rw (c.kinds_known.ensures, c.count_kind-fours.ensures) (sym (match_both _ _ (omega (arith, c.wide.ensures)) _ _))

-- `function::Elements::right` meets its contract: what is left of check 4 where a kind is not present, and where both are. Assumes nothing.
use Rattle.lists.specs.Bool.{◌and◌, ◌or◌}
use Rattle.function.specs.ElementsFacts.{right_triangles, right_quads, right_both}
use Rattle.function.proofs.Elements.right.Goals as goal

pub returns-then-quads-eq0 : goal.returns-then-quads-eq0
unfolding ◌or◌
returns-then-quads-eq0 c = right_triangles _ _ c.args.self c.is_dim.ensures c.dim.ensures c.if-quads-eq0.true

pub returns-then-triangles-eq0 : goal.returns-then-triangles-eq0
returns-then-triangles-eq0 c = right_quads _ _ c.args.self c.is_dim-then-triangles-eq0.ensures c.dim-then-triangles-eq0.ensures c.if-quads-eq0.false c.if-triangles-eq0.true

pub returns : goal.returns
unfolding ◌and◌
returns c = right_both _ _ c.args.self c.is_dim-2.ensures c.dim-2.ensures c.is_dim-3.ensures c.dim-3.ensures c.if-quads-eq0.false c.if-triangles-eq0.false

-- `&` of the tests is `_and_`. Assumes nothing.
use mathlib.Core.Path.{refl, ◌∙◌}
use Rattle.job.proofs.HeadFacts.{short_head, long_head}
use Rattle.job.proofs.head.head_right.Goals as goal

pub returns-then-bytes-lt7 : goal.returns-then-bytes-lt7
returns-then-bytes-lt7 c = short_head _ c.if-bytes-lt7.true

pub returns : goal.returns
returns c = long_head _ _ _ _ c.if-bytes-lt7.false c.four_at-rest.ensures refl (c.from-cells.ensures ∙ c.two_at.ensures)

-- Assumes nothing.
use native.Mathlib.Omega.{arith}
use mathlib.Core.Path.{sym, ◌∙◌}
use Rattle.job.proofs.HeadFacts.{head_long, head_cells_lem, head_refused}
use Rattle.job.proofs.head.read_head.Goals as goal

pub two_at-requires : goal.two_at-requires
two_at-requires c = let long = head_long _ (sym c.head_right.ensures ∙ c.if-head_right.true) in omega arith

pub returns-then-head_right : goal.returns-then-head_right
returns-then-head_right c = head_cells_lem _ (sym c.head_right.ensures ∙ c.if-head_right.true) (c.from.ensures ∙ c.two_at.ensures)

pub returns-else-head_right : goal.returns-else-head_right
returns-else-head_right c = head_refused _ (sym c.head_right.ensures ∙ c.if-head_right.false)

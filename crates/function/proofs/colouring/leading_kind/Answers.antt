-- `function::colouring::leading_kind` meets its contract: each way by the law of its case. Assumes nothing.
use Rattle.function.specs.ColoursFacts.{first_three, first_four, first_none}
use Rattle.function.proofs.colouring.leading_kind.Goals as goal

pub returns-then-count_kind-gt0 : goal.returns-then-count_kind-gt0
returns-then-count_kind-gt0 c = first_three _ (rw c.count_kind.ensures at c.if-count_kind-gt0.true)

pub returns-then-count_kind-gt0-2 : goal.returns-then-count_kind-gt0-2
returns-then-count_kind-gt0-2 c = first_four _ (rw c.count_kind.ensures at c.if-count_kind-gt0.false) (rw c.count_kind-else-count_kind-gt0.ensures at c.if-count_kind-gt0-2.true)

pub returns-else-count_kind-gt0-2 : goal.returns-else-count_kind-gt0-2
returns-else-count_kind-gt0-2 c = first_none _ (rw c.count_kind.ensures at c.if-count_kind-gt0.false) (rw c.count_kind-else-count_kind-gt0.ensures at c.if-count_kind-gt0-2.false)

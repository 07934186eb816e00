-- `boundary_assemblers::Run::entries_right` meets its contract. Assumes nothing.
use mathlib.Core.Path.{refl, sym}
use Rattle.lists.specs.Bool.{◌and◌, every, and_no_left, turned, passed}
use Rattle.runs.specs.Runs.{entries_right}
use Rattle.boundary_assemblers.specs.RunFacts.{dims, second_answers}
use Rattle.boundary_assemblers.proofs.Run.entries_right.Goals as goal

pub returns-then-not-dims_right : goal.returns-then-not-dims_right
returns-then-not-dims_right c = sym (and_no_left _ _ (turned c.dims_right.ensures c.if-not-dims_right.true-raw))

pub entries_to-count-requires : goal.entries_to-count-requires
entries_to-count-requires c = dims _ (passed c.dims_right.ensures c.if-not-dims_right.false-raw)

pub returns : goal.returns
unfolding entries_right every ◌and◌
returns c = second_answers (passed c.dims_right.ensures c.if-not-dims_right.false-raw) (rw c.entries_to-count.ensures refl)

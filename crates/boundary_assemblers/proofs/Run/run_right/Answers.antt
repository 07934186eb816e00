-- `boundary_assemblers::Run::run_right` meets its contract. Assumes nothing.
use Rattle.std.proofs.Common.{sym}
use Rattle.lists.specs.Bool.{every_fails, turned, passed}
use Rattle.boundary_assemblers.specs.RunFacts.{read_by21, all_read, second_answers, ranges, kinds_matched}
use Rattle.boundary_assemblers.proofs.Run.run_right.Goals as goal

pub returns-then-not-ranges_right : goal.returns-then-not-ranges_right
returns-then-not-ranges_right c = sym (every_fails (read_by21 _ _ _) 0 (turned c.ranges_right.ensures c.if-not-ranges_right.true-raw))

pub returns-then-not-counts_right : goal.returns-then-not-counts_right
returns-then-not-counts_right c = sym (every_fails (read_by21 _ _ _) 1 (turned c.counts_right.ensures c.if-not-counts_right.true-raw))

pub kinds_fit-requires : goal.kinds_fit-requires
kinds_fit-requires c = (ranges _ (passed c.ranges_right.ensures c.if-not-ranges_right.false-raw)).cells

pub returns-then-not-kinds_fit : goal.returns-then-not-kinds_fit
returns-then-not-kinds_fit c = sym (every_fails (read_by21 _ _ _) 2 (turned c.kinds_fit.ensures c.if-not-kinds_fit.true-raw))

pub plan_right-requires : goal.plan_right-requires
plan_right-requires c = kinds_matched _ _ (passed c.ranges_right.ensures c.if-not-ranges_right.false-raw) (passed c.kinds_fit.ensures c.if-not-kinds_fit.false-raw)

pub returns : goal.returns
returns c =
    all_read _ _ _ _ (passed c.ranges_right.ensures c.if-not-ranges_right.false-raw) (passed c.kinds_fit.ensures c.if-not-kinds_fit.false-raw)
    (second_answers (passed c.counts_right.ensures c.if-not-counts_right.false-raw) c.plan_right.ensures)

-- `boundary_assemblers::Run::state_checked` meets its contract: at each return the tests that led there say what each check is. Assumes nothing.
use Rattle.std.proofs.Common.{ap, ap₂, sym, ◌∙◌}
use Rattle.lists.specs.Bool.{◌and◌, turned, passed}
use Rattle.cell_pairs.specs.Records.{record_at}
use Rattle.boundary_assemblers.specs.RunFacts.{run_fails, none_left, record_fails, none_fails, next_fits, next, unknown, right_by}
use Rattle.boundary_assemblers.proofs.Run.state_checked.Goals as goal

pub returns-then-not-run_right-clause-refusal : goal.returns-then-not-run_right-clause-refusal
returns-then-not-run_right-clause-refusal c = run_fails _ _ _ (turned c.run_right.ensures c.if-not-run_right.true-raw)

pub returns-then-wide-pair_count-clause-refusal : goal.returns-then-wide-pair_count-clause-refusal
returns-then-wide-pair_count-clause-refusal c =
    none_left _ _ _ (passed c.run_right.ensures c.if-not-run_right.false-raw) (sym c.wide.ensures ∙ c.if-wide-pair_count.true ∙ c.pair_count.ensures)

pub record_at-record-requires : goal.record_at-record-requires
record_at-record-requires c =
    rw c.wide-2.ensures
    (next_fits _ _ _ (passed c.run_right.ensures c.if-not-run_right.false-raw) (λ e. c.if-wide-pair_count.false (c.wide.ensures ∙ e ∙ sym c.pair_count.ensures)))

pub returns-then-not-record_known-clause-refusal : goal.returns-then-not-record_known-clause-refusal
returns-then-not-record_known-clause-refusal c =
    record_fails _ _ _ (passed c.run_right.ensures c.if-not-run_right.false-raw) (λ e. c.if-wide-pair_count.false (c.wide.ensures ∙ e ∙ sym c.pair_count.ensures))
    (unknown _ _ _ (c.record_at-record.ensures ∙ ap (record_at _) c.wide-2.ensures) (turned c.record_known.ensures c.if-not-record_known.true-raw))

pub cell-test-requires : goal.cell-test-requires
cell-test-requires c =
    let n = next _ _ _ (passed c.run_right.ensures c.if-not-run_right.false-raw) _ (passed c.record_known.ensures c.if-not-record_known.false-raw) in
    (n.matched, n.test)

pub cell-trial-requires : goal.cell-trial-requires
cell-trial-requires c =
    let n = next _ _ _ (passed c.run_right.ensures c.if-not-run_right.false-raw) _ (passed c.record_known.ensures c.if-not-record_known.false-raw) in
    (n.matched, n.trial)

pub dofs_below-requires : goal.dofs_below-requires
dofs_below-requires c =
    rw c.cell-test.ensures
    (next _ _ _ (passed c.run_right.ensures c.if-not-run_right.false-raw) _ (passed c.record_known.ensures c.if-not-record_known.false-raw)).test_inside

pub dofs_below-requires-2 : goal.dofs_below-requires-2
dofs_below-requires-2 c =
    rw c.cell-trial.ensures
    (next _ _ _ (passed c.run_right.ensures c.if-not-run_right.false-raw) _ (passed c.record_known.ensures c.if-not-record_known.false-raw)).trial_inside

pub returns-then-not-dofs_below-clause-refusal : goal.returns-then-not-dofs_below-clause-refusal
unfolding ◌and◌
returns-then-not-dofs_below-clause-refusal c =
    record_fails _ _ _ (passed c.run_right.ensures c.if-not-run_right.false-raw) (λ e. c.if-wide-pair_count.false (c.wide.ensures ∙ e ∙ sym c.pair_count.ensures))
    (right_by _ _ _ (passed c.run_right.ensures c.if-not-run_right.false-raw) _ (passed c.record_known.ensures c.if-not-record_known.false-raw)
    (c.record_at-record.ensures ∙ ap (record_at _) c.wide-2.ensures) c.cell-test.ensures c.cell-trial.ensures
    (turned (ap₂ ◌and◌ c.dofs_below.ensures c.dofs_below-2.ensures) c.if-not-dofs_below.true-raw))

pub returns-clause-refusal : goal.returns-clause-refusal
unfolding ◌and◌
returns-clause-refusal c =
    none_fails _ _ _ (passed c.run_right.ensures c.if-not-run_right.false-raw) (λ e. c.if-wide-pair_count.false (c.wide.ensures ∙ e ∙ sym c.pair_count.ensures))
    (right_by _ _ _ (passed c.run_right.ensures c.if-not-run_right.false-raw) _ (passed c.record_known.ensures c.if-not-record_known.false-raw)
    (c.record_at-record.ensures ∙ ap (record_at _) c.wide-2.ensures) c.cell-test.ensures c.cell-trial.ensures
    (passed (ap₂ ◌and◌ c.dofs_below.ensures c.dofs_below-2.ensures) c.if-not-dofs_below.false-raw))

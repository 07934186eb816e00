-- `lent_numbers::DistantNumbers::check` meets its contract: the checks answer in their order. Assumes nothing.
use native.Mathlib.Omega.{arith}
use Rattle.lists.specs.Bool.{turned, passed}
use Rattle.lists.specs.Refusals.{answers, accepted, refused, ◌then◌}
use Rattle.lent_numbers.specs.Lent.{distant_counts}
use Rattle.lent_numbers.specs.Sizes.{distant_sizes, few_points}
use Rattle.lent_numbers.specs.Forms.{counts_passed, counts_turned}
use Rattle.lent_numbers.proofs.DistantNumbers.check.Goals as goal

pub returns-then-not-count_right : goal.returns-then-not-count_right
unfolding distant_counts
returns-then-not-count_right c = answers (refused (counts_turned c.count_right.ensures c.count_right-2.ensures c.if-not-count_right.true-raw))

pub lengths_right-requires : goal.lengths_right-requires
lengths_right-requires c =
    let most = few_points c.args.self.test.points c.args.self.trial.points (counts_passed c.count_right.ensures c.count_right-2.ensures c.if-not-count_right.false-raw) in
    (c.requires, most.0, most.1)

pub returns-then-not-lengths_right : goal.returns-then-not-lengths_right
unfolding distant_counts
returns-then-not-lengths_right c =
    answers (counts_passed c.count_right.ensures c.count_right-2.ensures c.if-not-count_right.false-raw then refused (turned c.lengths_right.ensures c.if-not-lengths_right.true-raw))

pub numbers_right-requires : goal.numbers_right-requires
numbers_right-requires c =
    let sizes = distant_sizes _ _ _ _ (passed c.lengths_right.ensures c.if-not-lengths_right.false-raw) in
    (omega (arith, sizes.test_geometry), omega (arith, sizes.trial_geometry))

pub returns-then-not-numbers_right : goal.returns-then-not-numbers_right
unfolding distant_counts
returns-then-not-numbers_right c =
    answers (counts_passed c.count_right.ensures c.count_right-2.ensures c.if-not-count_right.false-raw
    then passed c.lengths_right.ensures c.if-not-lengths_right.false-raw
    then refused (turned (c.numbers_right.ensures _ _ _) c.if-not-numbers_right.true-raw))

pub returns : goal.returns
unfolding distant_counts
returns c =
    answers (counts_passed c.count_right.ensures c.count_right-2.ensures c.if-not-count_right.false-raw
    then passed c.lengths_right.ensures c.if-not-lengths_right.false-raw
    then passed (c.numbers_right.ensures _ _ _) c.if-not-numbers_right.false-raw
    then accepted)

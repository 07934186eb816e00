-- `lent_numbers::TouchingNumbers::check` meets its contract: the checks answer in their order. Assumes nothing.
use native.Mathlib.Omega.{arith}
use Rattle.lists.specs.Bool.{turned, passed}
use Rattle.lists.specs.Refusals.{answers, accepted, refused, ◌then◌}
use Rattle.numbers.specs.Ranges.{within_high}
use Rattle.lent_numbers.specs.Lent.{most_touching_points, touching_count}
use Rattle.lent_numbers.specs.Sizes.{touching_sizes}
use Rattle.lent_numbers.proofs.TouchingNumbers.check.Goals as goal

pub returns-then-not-count_right : goal.returns-then-not-count_right
unfolding touching_count
returns-then-not-count_right c = answers (refused (turned c.count_right.ensures c.if-not-count_right.true-raw))

pub lengths_right-requires : goal.lengths_right-requires
lengths_right-requires c = (c.requires, within_high 1 most_touching_points c.args.self.points (passed c.count_right.ensures c.if-not-count_right.false-raw))

pub returns-then-not-lengths_right : goal.returns-then-not-lengths_right
unfolding touching_count
returns-then-not-lengths_right c = answers (passed c.count_right.ensures c.if-not-count_right.false-raw then refused (turned c.lengths_right.ensures c.if-not-lengths_right.true-raw))

pub numbers_right-requires : goal.numbers_right-requires
numbers_right-requires c =
    let sizes = touching_sizes _ _ _ _ (passed c.lengths_right.ensures c.if-not-lengths_right.false-raw) in
    (omega (arith, sizes.test_geometry), omega (arith, sizes.trial_geometry))

pub returns-then-not-numbers_right : goal.returns-then-not-numbers_right
unfolding touching_count
returns-then-not-numbers_right c =
    answers (passed c.count_right.ensures c.if-not-count_right.false-raw
    then passed c.lengths_right.ensures c.if-not-lengths_right.false-raw
    then refused (turned (c.numbers_right.ensures _ _ _) c.if-not-numbers_right.true-raw))

pub returns : goal.returns
unfolding touching_count
returns c =
    answers (passed c.count_right.ensures c.if-not-count_right.false-raw
    then passed c.lengths_right.ensures c.if-not-lengths_right.false-raw
    then passed (c.numbers_right.ensures _ _ _) c.if-not-numbers_right.false-raw
    then accepted)

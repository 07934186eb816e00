-- `point_sums::add_two` meets its contract: what the closures give at each entry. Assumes nothing.
use Rattle.std.proofs.Common.{◌≡◌, ◌≤◌, true, rules, ap₂}
use Rattle.numbers.specs.Floats.{◌⊕◌}
use Rattle.table.specs.Views.{row_of}
use Rattle.integrands.specs.Parts.{has_curls, factored, trial_part, from_parts}
use Rattle.integrands.specs.Columns.{table_reach}
use Rattle.integrands.specs.ValueFacts.{term_from}
use Rattle.point_sums.specs.Parts.{part_at}
use Rattle.point_sums.proofs.add_two.Goals as goal

pub add_values-requires-clause-may_bring : goal.add_values-requires-clause-may_bring
add_values-requires-clause-may_bring c = λ j l.
    let reach = table_reach c.requires.reads.0.2 j l in
    let rows : has_curls c.args.x ≡ true → 3 ≤ c.args.pair.trial.table.rows = λ e. (c.requires.reads.1 e).1 in
    let more : has_curls c.args.y ≡ true → 3 ≤ c.args.pair.trial.table.rows = λ e. (c.requires.reads.2 e).1 in
    search rules

pub returns : goal.returns
returns c =
    c.add_values.ensures _ (λ i j t x li lj b v.
    let part : t.0 ≡ trial_part c.args.x c.args.pair.trial.geometry (row_of c.args.pair.trial.table j) = search rules in
    let next : t.1 ≡ trial_part c.args.y c.args.pair.trial.geometry (row_of c.args.pair.trial.table j) = search rules in
    let value : x ≡ factored c.args.first (from_parts c.args.x (part_at c.bring_parts.new.parts i) t.0 c.args.pair.test.geometry.jdet c.args.pair.trial.geometry.jdet)
    ⊕ factored c.args.second (from_parts c.args.y (part_at c.bring_parts-2.new.parts i) t.1 c.args.pair.test.geometry.jdet c.args.pair.trial.geometry.jdet) = search rules in
    rw (value, part, next, c.bring_parts.ensures.right i li, c.bring_parts-2.ensures.right i li)
    (ap₂ ◌⊕◌ (term_from c.args.first _ (row_of c.args.pair.test.table i) (row_of c.args.pair.trial.table j) c.args.pair.test.geometry c.args.pair.trial.geometry c.requires.first)
    (term_from c.args.second _ (row_of c.args.pair.test.table i) (row_of c.args.pair.trial.table j) c.args.pair.test.geometry c.args.pair.trial.geometry c.requires.second)))

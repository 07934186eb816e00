-- `point_sums::add_turned` meets its contract: what the closures give at each entry. Assumes nothing.
use Rattle.std.proofs.Common.{◌≡◌, ◌≤◌, rules}
use Rattle.table.specs.Views.{row_of}
use Rattle.integrands.specs.declared.KindValue.TheVariants.{Curls}
use Rattle.integrands.specs.Parts.{factored, curls, from_parts}
use Rattle.integrands.specs.Columns.{table_reach}
use Rattle.integrands.specs.ValueFacts.{curls_from}
use Rattle.point_sums.specs.Parts.{part_at}
use Rattle.point_sums.proofs.add_turned.Goals as goal

pub add_values-requires-clause-may_bring : goal.add_values-requires-clause-may_bring
add_values-requires-clause-may_bring c = λ j l.
    let reach = table_reach c.requires.0.2 j l in
    let rows : 3 ≤ c.args.pair.trial.table.rows = c.requires.1 in
    search rules

pub returns : goal.returns
returns c =
    c.add_values.ensures _ (λ i j t x li lj b v.
    let part : t ≡ curls c.args.pair.trial.geometry (row_of c.args.pair.trial.table j) = search rules in
    let value : x ≡ factored c.args.term (from_parts (Curls c.args.c) (part_at c.args.parts.now i) t c.args.pair.test.geometry.jdet c.args.pair.trial.geometry.jdet) = search rules in
    rw (value, part, c.requires.2.right i li)
    (curls_from c.args.term (λ d. c.args.c) (row_of c.args.pair.test.table i) (row_of c.args.pair.trial.table j) c.args.pair.test.geometry c.args.pair.trial.geometry c.args.c))

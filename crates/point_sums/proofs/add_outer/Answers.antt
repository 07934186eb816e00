-- `point_sums::add_outer` meets its contract: what the closures give at each entry. Assumes nothing.
use Rattle.std.proofs.Common.{◌≡◌, arith, refl, rules}
use Rattle.lists.specs.Maps.{mapped_at}
use Rattle.numbers.specs.Floats.{◌⊗◌, ◌!◌}
use Rattle.table.specs.Views.{row_of}
use Rattle.integrands.specs.Parts.{factored}
use Rattle.integrands.specs.Columns.{table_reach}
use Rattle.point_sums.proofs.add_outer.Goals as goal

pub add_values-requires-clause-may_bring : goal.add_values-requires-clause-may_bring
add_values-requires-clause-may_bring c = λ j l. let reach = table_reach c.requires.2 j l in search rules

pub returns : goal.returns
returns c =
    c.add_values.ensures _ (λ i j t x li lj b v.
    let row : t ≡ row_of c.args.pair.trial.table j 0 = search rules in
    let value : x ≡ factored c.args.term (c.scale_rows.new.scaled ! i ⊗ t) = search rules in
    rw (value, row, mapped_at c.scale_rows.ensures i i li (omega arith)) refl)

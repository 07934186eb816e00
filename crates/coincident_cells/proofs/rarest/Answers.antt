-- `coincident_cells::rarest` meets its contract. Assumes nothing.
use native.Mathlib.Omega.{arith}
use Rattle.coincident_cells.specs.DifferFacts.{either_below, one_of_three}
use Rattle.coincident_cells.proofs.rarest.Goals as goal

pub rarer-requires : goal.rarer-requires
rarer-requires c = record { v_in_bounds = (rw c.wide-x.ensures (c.requires.by_index _ (omega (arith, c.requires.i_in_bounds))), rw c.wide-y.ensures (c.requires.by_index _ (omega (arith, c.requires.i_in_bounds)))); rise = c.requires.rise }

pub rarer-requires-2 : goal.rarer-requires-2
rarer-requires-2 c = record { v_in_bounds = (either_below c.rarer.ensures (rw c.wide-x.ensures (c.requires.by_index _ (omega (arith, c.requires.i_in_bounds)))) (rw c.wide-y.ensures (c.requires.by_index _ (omega (arith, c.requires.i_in_bounds)))), rw c.wide-z.ensures (c.requires.by_index _ (omega (arith, c.requires.i_in_bounds)))); rise = c.requires.rise }

pub returns : goal.returns
returns c =
    one_of_three c.args.rows.rows.now c.args.i c.wide-x.ensures c.wide-y.ensures c.wide-z.ensures c.rarer.ensures c.rarer-2.ensures

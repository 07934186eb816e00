-- `coincident_cells::rarer` meets its contract. Assumes nothing.
use mathlib.Core.Path.{refl}
use mathlib.Core.Logic.{inl, inr}
use Rattle.coincident_cells.proofs.rarer.Goals as goal

pub size-requires : goal.size-requires
size-requires c = record { v_in_bounds = c.requires.v_in_bounds.0; v_bound = c.requires.rise.rise _ c.requires.v_in_bounds.0 }

pub size-requires-2 : goal.size-requires-2
size-requires-2 c = record { v_in_bounds = c.requires.v_in_bounds.1; v_bound = c.requires.rise.rise _ c.requires.v_in_bounds.1 }

pub returns-then-size : goal.returns-then-size
returns-then-size c = inl refl

pub returns-else-size : goal.returns-else-size
returns-else-size c = inr refl

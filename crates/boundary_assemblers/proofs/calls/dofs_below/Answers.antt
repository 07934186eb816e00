-- `boundary_assemblers::calls::dofs_below` meets its contract. Assumes nothing.
use mathlib.Core.Path.{ap, ◌∙◌}
use mathlib.Core.List.{List}
use Prim.Native.Nat.{ℕ}
use Rattle.numbers.specs.Ranges.{all_below}
use Rattle.boundary_assemblers.proofs.calls.dofs_below.Goals as goal

pub cell_dofs-requires : goal.cell_dofs-requires
cell_dofs-requires c = c.requires.ends

pub returns : goal.returns
returns c = c.all_below.ensures ∙ ap (λ (xs : List ℕ). all_below xs c.args.size) c.cell_dofs.ensures

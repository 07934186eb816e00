-- `grid::checks::all_distinct` meets its contract. The invariant: where the next cell begins, and no cell passed has a vertex twice. Assumes nothing.
use mathlib.Core.Bool.{true}
use mathlib.Core.Path.{◌≡◌}
use Rattle.lists.specs.Bounded.{all}
use Rattle.grid.specs.Cells.{part, own, distinct}
use Rattle.grid.specs.CellsFacts.{Begins}
use Rattle.grid.proofs.checks.all_distinct.Given as goal

abbrev pub invariant-loop-kind : goal.invariant-loop-kind
invariant-loop-kind l = Begins l.kinds l.at l.kind-index × (all l.kind-index (λ k. distinct (part own l.kinds l.vertices k)) ≡ true)

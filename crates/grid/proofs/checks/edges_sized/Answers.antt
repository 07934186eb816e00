-- `grid::checks::edges_sized` meets its contract: `&` of the tests is `◌and◌`. Assumes nothing.
use mathlib.Core.Bool.{Bool, true, false, ◌&&◌}
use mathlib.Core.List.{[], ◌∷◌}
use mathlib.Core.Path.{◌≡◌, refl}
use lib.Dec.{eqb}
use lib.ListN.{length}
use Rattle.lists.specs.Bool.{◌and◌, every}
use Rattle.numbers.specs.Ranges.{within, all_below}
use Rattle.grid.specs.Cells.{before, own}
use Rattle.grid.specs.Mesh.{most_edges}
use Rattle.grid.proofs.checks.edges_sized.Goals as goal

swapped : (a b c : Bool) → ((a and c) && b) ≡ every (a ∷ b ∷ c ∷ [])
unfolding every ◌and◌
swapped true true true = refl
swapped true true false = refl
swapped true false true = refl
swapped true false false = refl
swapped false b c = refl

pub returns : goal.returns
returns c =
    let kinds = c.args.kinds.now in
    rw (c.count_places.ensures, c.numbers_right.ensures)
    (swapped (within 3 most_edges c.args.edges) (eqb (length c.args.cell_edges.now) (before own kinds (length kinds))) (all_below c.args.cell_edges.now c.args.edges))

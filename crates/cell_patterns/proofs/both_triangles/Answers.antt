-- `cell_patterns::both_triangles` meets its contract. Assumes nothing.
use Rattle.lists.specs.Bool.{◌and◌}
use Rattle.cell_patterns.proofs.both_triangles.Goals as goal

pub returns : goal.returns
unfolding ◌and◌
returns c = simp (c.is_triangle.ensures, c.is_triangle-2.ensures)

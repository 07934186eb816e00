-- `boundary_assemblers::Run::ranges_right` meets its contract: the tests are what the callees ensure. Assumes nothing.
use mathlib.Core.Path.{◌∙◌}
use Rattle.lists.specs.Bool.{◌and◌, every}
use Rattle.numbers.specs.Ranges.{contains_within}
use Rattle.grid.specs.Mesh.{most_cells, most_vertices, most_edges}
use Rattle.runs.specs.Runs.{ranges_right}
use Rattle.boundary_assemblers.proofs.Run.ranges_right.Goals as goal

pub returns : goal.returns
unfolding ranges_right every ◌and◌
returns c =
    let n = c.args.self.now.numbers in
    let cells = rw (c.new.ensures.start, c.new.ensures.end, c.new.ensures.exhausted) at c.contains.ensures.value ∙ contains_within 1 most_cells n.cells in
    let vertices = rw (c.new-2.ensures.start, c.new-2.ensures.end, c.new-2.ensures.exhausted) at c.contains-2.ensures.value ∙ contains_within 3 most_vertices n.vertices in
    let edges = rw (c.new-3.ensures.start, c.new-3.ensures.end, c.new-3.ensures.exhausted) at c.contains-3.ensures.value ∙ contains_within 3 most_edges n.edges in
    rw (cells, vertices, edges, c.integrand_right.ensures, c.dims_right.ensures)

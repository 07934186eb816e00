-- `coincident_cells::same_vertices` meets its contract. Assumes nothing.
use Rattle.coincident_cells.specs.DifferFacts.{same_found, same_missed}
use Rattle.coincident_cells.proofs.same_vertices.Goals as goal

pub returns-then-inside : goal.returns-then-inside
returns-then-inside c = same_found _ _ c.inside.ensures c.if-inside.true c.inside-then-inside.ensures

pub returns-else-inside : goal.returns-else-inside
returns-else-inside c = rw c.if-inside.false (same_missed _ _ c.inside.ensures c.if-inside.false)

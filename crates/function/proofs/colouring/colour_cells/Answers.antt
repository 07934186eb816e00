-- `function::colouring::colour_cells` meets its contract: the rows are written, the cells are grouped by their numbers, and coloured. Assumes nothing.
use Prim.Native.Nat.{ℕ, ◌+◌, ◌≤◌}
use native.Mathlib.Omega.{arith}
use mathlib.Core.Path.{ap, ◌∙◌}
use Rattle.cells_by_key.specs.GroupsFacts.{scratch, scratch_zeros}
use Rattle.function.specs.ColoursFacts.{listed_below, listed_padded, listed_colours}
use Rattle.function.proofs.colouring.colour_cells.Goals as goal
use Rattle.function.proofs.colouring.colour_cells.Goals.{After-wide-groups}

-- a group for each entity and one for none, in the room for the largest mesh
few : (c : After-wide-groups) → c.wide-groups.result + 1 ≤ 8193
few c = omega (arith, c.wide-groups.ensures, c.requires.groups)

pub by_key-requires-clause-below : goal.by_key-requires-clause-below
by_key-requires-clause-below c =
    listed_below c.requires c.write_rows.ensures (scratch _ 8193 (few (goal.at.by_key-requires-clause-below c).After-wide-groups) ∙ ap (λ (n : ℕ). n + 1) c.wide-groups.ensures)

pub by_key-requires-clause-zeros : goal.by_key-requires-clause-zeros
by_key-requires-clause-zeros c = scratch_zeros _ 8193 (few (goal.at.by_key-requires-clause-zeros c).After-wide-groups)

pub colour_grouped-requires-clause-by_entity : goal.colour_grouped-requires-clause-by_entity
colour_grouped-requires-clause-by_entity c =
    let size = c.by_key.ensures.size in
    let groups = scratch _ 8193 (few (goal.at.colour_grouped-requires-clause-by_entity c).After-wide-groups) ∙ ap (λ (n : ℕ). n + 1) c.wide-groups.ensures in
    (record { groups = rw size c.by_key.ensures; below = listed_below c.requires c.write_rows.ensures (size ∙ groups) }, listed_padded c.requires c.write_rows.ensures)

pub returns : goal.returns
returns c = c.colour_grouped.ensures ∙ listed_colours c.requires c.write_rows.ensures

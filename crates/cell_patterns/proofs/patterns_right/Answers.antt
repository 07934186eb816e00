-- `cell_patterns::patterns_right` meets its contract: the cells are grouped by vertex, and those at each vertex pass exactly where all pairs do.
-- Assumes nothing.
use Prim.Native.Nat.{ℕ, ◌+◌, ◌*◌, ◌/◌, ◌≤◌}
use native.Mathlib.Omega.{arith}
use mathlib.Core.Path.{◌≡◌, sym, ap, subst, ◌∙◌}
use lib.ListN.{length}
use Rattle.grid.specs.Mesh.{most_vertices}
use Rattle.cells_by_key.specs.Groups.{Below}
use Rattle.cells_by_key.specs.GroupsFacts.{scratch, scratch_zeros, grouped_cut, group_cells}
use Rattle.cell_patterns.specs.PatternFacts.{parts_all}
use Rattle.cell_patterns.proofs.patterns_right.Goals as goal
use Rattle.cell_patterns.proofs.patterns_right.Goals.{After-wide-groups}

-- a group for each vertex and one for none, in the room for the largest mesh
few : (c : After-wide-groups) → c.wide-groups.result + 1 ≤ most_vertices + 1
few c = omega (arith, c.wide-groups.ensures, c.requires.rows_len.2)

pub by_key-requires-clause-zeros : goal.by_key-requires-clause-zeros
by_key-requires-clause-zeros c = scratch_zeros _ (most_vertices + 1) (few (goal.at.by_key-requires-clause-zeros c).After-wide-groups)

pub groups_right-requires-clause-cut : goal.groups_right-requires-clause-cut
groups_right-requires-clause-cut c =
    let whole : length c.args.rows.rows.now ≡ 4 * (length c.args.rows.rows.now / 4) = omega (arith, c.requires.rows_len.0) in
    grouped_cut c.by_key.ensures (λ v _. group_cells _ v _ whole)

pub returns : goal.returns
returns c =
    let e : length c.args.rows.rows.now / 4 ≡ c.args.cells = omega (arith, c.requires.rows_len.0) in
    let whole : length c.args.rows.rows.now ≡ 4 * (length c.args.rows.rows.now / 4) = omega (arith, c.requires.rows_len.0) in
    let long = scratch (c.wide-groups.result + 1) (most_vertices + 1) (few (goal.at.returns c).After-wide-groups) ∙ ap (λ (k : ℕ). k + 1) c.wide-groups.ensures in
    rw e at (parts_all _ _ _ whole c.requires.padded long (subst (Below _) (sym long) c.requires.below) c.by_key.ensures c.groups_right.ensures)

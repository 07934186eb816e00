-- See Invariants.antt. Assumes nothing.
use Prim.Native.Nat.{ℕ, ◌+◌, ◌*◌, ◌<◌}
use native.Mathlib.Omega.{arith}
use mathlib.Core.Path.{◌≡◌, ap, ◌∙◌}
use mathlib.Core.List.{List}
use lib.ListN.{length, get_or}
use Rattle.grid.specs.Rows.{cell_in, entity}
use Rattle.grid.specs.RowsFacts.{cell_most, cell_entity}
use Rattle.cells_by_key.specs.GroupsFacts.{entity_bounds, entity_part}
use Rattle.function.specs.ColoursFacts.{sharing_start, sharing_more, sharing_done}
use Rattle.function.proofs.colouring.mark_sharing.Goals as goal
use Rattle.function.proofs.colouring.mark_sharing.Goals.{After-wide}

pub loop-x-init : goal.loop-x-init
loop-x-init c = sharing_start _ _ _ c.requires.marks_len

-- number p of cell i, and that it has a place
here : (c : After-wide) → let rows = c.args.rows.rows.now in
    (c.wide.result ≡ entity rows c.args.i c.loop-x.x-index) × (4 * c.args.i + c.loop-x.x-index < length rows)
here c =
    let rows = c.args.rows in
    let h : c.loop-x.x-index < length (cell_in rows.none rows.rows.now c.args.i) = omega (arith, ap length c.cell-x-items.ensures) in (
      c.wide.ensures ∙ ap (λ (xs : List ℕ). get_or xs c.loop-x.x-index 0) c.cell-x-items.ensures ∙ cell_entity rows.none rows.rows.now c.args.i _ h,
      omega (arith, c.requires.i_in_bounds, h, cell_most rows.none rows.rows.now c.args.i),
    )

pub group-requires : goal.group-requires
group-requires c =
    let x = here (goal.at.group-requires c).After-wide in
    let b = entity_bounds c.requires.by_entity.0 x.1 x.0 in
    record { v_in_bounds = b.0; v_bound = b.1 }

pub loop-x-preserved : goal.loop-x-preserved
loop-x-preserved c =
    let x = here (goal.at.loop-x-preserved c).After-wide in
    sharing_more _ _ _ _ c.loop-x.invariant (c.group.ensures ∙ entity_part c.requires.by_entity.0 x.1 x.0) c.mark_colours.ensures

pub returns : goal.returns
returns c =
    let e : c.loop-x.x-index ≡ length (cell_in c.args.rows.none c.args.rows.rows.now c.args.i) = omega (arith, ap length c.cell-x-items.ensures) in
    sharing_done c.requires.by_entity.1 _ _ c.requires.i_in_bounds e c.loop-x.invariant

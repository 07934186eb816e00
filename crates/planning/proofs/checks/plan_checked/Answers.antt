-- `planning::checks::plan_checked` meets its contract: at each return the tests that led there say what each check is. Assumes nothing.
use mathlib.Core.Path.{sym, ◌∙◌}
use Rattle.std.proofs.lemmas.Result.{err_from_is_err_and}
use Rattle.lists.specs.Bool.{turned, passed}
use Rattle.lists.specs.Refusals.{accepted, refused, ◌then◌}
use Rattle.refusals.specs.Numbers.{number_nonzero}
use Rattle.grid.specs.Facts.{fine}
use Rattle.planning.specs.Facts.{mesh_fails, mesh_passes, kinds_few, both_right, lengths_by_lem, dims_by, places_by, places_few_by}
use Rattle.planning.proofs.checks.plan_checked.Goals as goal

pub returns-in_err-mesh_refusal : goal.returns-in_err-mesh_refusal
returns-in_err-mesh_refusal c =
    let p = err_from_is_err_and c.from_residual.result c.from_residual.ensures.1 in
    rw (p.1, p.2) (mesh_fails _ _ _ c.in_err-mesh_refusal.ensures (number_nonzero _))

pub count_kind-triangles-requires : goal.count_kind-triangles-requires
count_kind-triangles-requires c = (kinds_few _ (fine _ (sym c.in_ok-mesh_refusal.ensures))).0

pub count_kind-quads-requires : goal.count_kind-quads-requires
count_kind-quads-requires c = (kinds_few _ (fine _ (sym c.in_ok-mesh_refusal.ensures))).0

pub returns-then-not-dims_right : goal.returns-then-not-dims_right
returns-then-not-dims_right c = mesh_passes _ _ c.in_ok-mesh_refusal.ensures (refused (turned (dims_by _ _ c.count_kind-triangles.ensures c.count_kind-quads.ensures c.dims_right.ensures) c.if-not-dims_right.true-raw))

pub returns-then-not-batch_right : goal.returns-then-not-batch_right
returns-then-not-batch_right c = mesh_passes _ _ c.in_ok-mesh_refusal.ensures (passed (dims_by _ _ c.count_kind-triangles.ensures c.count_kind-quads.ensures c.dims_right.ensures) c.if-not-dims_right.false-raw then refused (turned c.batch_right.ensures c.if-not-batch_right.true-raw))

pub returns-then-not-integrand_right : goal.returns-then-not-integrand_right
returns-then-not-integrand_right c = mesh_passes _ _ c.in_ok-mesh_refusal.ensures (passed (dims_by _ _ c.count_kind-triangles.ensures c.count_kind-quads.ensures c.dims_right.ensures) c.if-not-dims_right.false-raw then passed c.batch_right.ensures c.if-not-batch_right.false-raw then refused (turned c.integrand_right.ensures c.if-not-integrand_right.true-raw))

pub cells_right-requires : goal.cells_right-requires
cells_right-requires c = (fine _ (sym c.in_ok-mesh_refusal.ensures))

pub returns-then-not-cells_right : goal.returns-then-not-cells_right
returns-then-not-cells_right c = mesh_passes _ _ c.in_ok-mesh_refusal.ensures (passed (dims_by _ _ c.count_kind-triangles.ensures c.count_kind-quads.ensures c.dims_right.ensures) c.if-not-dims_right.false-raw then passed c.batch_right.ensures c.if-not-batch_right.false-raw then passed c.integrand_right.ensures c.if-not-integrand_right.false-raw then refused (turned (c.cells_right.ensures) c.if-not-cells_right.true-raw))

pub places-rows-requires : goal.places-rows-requires
places-rows-requires c = rw (c.count_kind-triangles.ensures, c.count_kind-quads.ensures) ((kinds_few _ (fine _ (sym c.in_ok-mesh_refusal.ensures))).1, (kinds_few _ (fine _ (sym c.in_ok-mesh_refusal.ensures))).2)

pub places-columns-requires : goal.places-columns-requires
places-columns-requires c = rw (c.count_kind-triangles.ensures, c.count_kind-quads.ensures) ((kinds_few _ (fine _ (sym c.in_ok-mesh_refusal.ensures))).1, (kinds_few _ (fine _ (sym c.in_ok-mesh_refusal.ensures))).2)

pub lengths_right-requires : goal.lengths_right-requires
lengths_right-requires c = ((fine _ (sym c.in_ok-mesh_refusal.ensures)).few_cells, (places_few_by _ (fine _ (sym c.in_ok-mesh_refusal.ensures)) _ c.count_kind-triangles.ensures c.count_kind-quads.ensures (both_right _ _ _ _ (passed c.dims_right.ensures c.if-not-dims_right.false-raw)).0 c.places-rows.ensures), (places_few_by _ (fine _ (sym c.in_ok-mesh_refusal.ensures)) _ c.count_kind-triangles.ensures c.count_kind-quads.ensures (both_right _ _ _ _ (passed c.dims_right.ensures c.if-not-dims_right.false-raw)).1 c.places-columns.ensures))

pub returns-then-not-lengths_right : goal.returns-then-not-lengths_right
returns-then-not-lengths_right c = mesh_passes _ _ c.in_ok-mesh_refusal.ensures (passed (dims_by _ _ c.count_kind-triangles.ensures c.count_kind-quads.ensures c.dims_right.ensures) c.if-not-dims_right.false-raw then passed c.batch_right.ensures c.if-not-batch_right.false-raw then passed c.integrand_right.ensures c.if-not-integrand_right.false-raw then passed (c.cells_right.ensures) c.if-not-cells_right.false-raw then refused (turned (c.lengths_right.ensures ∙ lengths_by_lem _ _ _ _ (places_by _ (fine _ (sym c.in_ok-mesh_refusal.ensures)) _ c.count_kind-triangles.ensures c.count_kind-quads.ensures c.places-rows.ensures) (places_by _ (fine _ (sym c.in_ok-mesh_refusal.ensures)) _ c.count_kind-triangles.ensures c.count_kind-quads.ensures c.places-columns.ensures)) c.if-not-lengths_right.true-raw))

pub returns : goal.returns
returns c = mesh_passes _ _ c.in_ok-mesh_refusal.ensures (passed (dims_by _ _ c.count_kind-triangles.ensures c.count_kind-quads.ensures c.dims_right.ensures) c.if-not-dims_right.false-raw then passed c.batch_right.ensures c.if-not-batch_right.false-raw then passed c.integrand_right.ensures c.if-not-integrand_right.false-raw then passed (c.cells_right.ensures) c.if-not-cells_right.false-raw then passed (c.lengths_right.ensures ∙ lengths_by_lem _ _ _ _ (places_by _ (fine _ (sym c.in_ok-mesh_refusal.ensures)) _ c.count_kind-triangles.ensures c.count_kind-quads.ensures c.places-rows.ensures) (places_by _ (fine _ (sym c.in_ok-mesh_refusal.ensures)) _ c.count_kind-triangles.ensures c.count_kind-quads.ensures c.places-columns.ensures)) c.if-not-lengths_right.false-raw then accepted)

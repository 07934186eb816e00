-- `boundary_assemblers::Run::entries_to` meets its contract: the products fit, as each dim is at most 10. Assumes nothing.
use native.Mathlib.Omega.{arith}
use mathlib.Core.Path.{refl}
use mathlib.Core.Logic.{inl, inr}
use Rattle.boundary_assemblers.specs.EntryFacts.{one_few, block_few, entries_by, entries_fit_holds}
use Rattle.boundary_assemblers.specs.Forms.{run_of}
use Rattle.boundary_assemblers.proofs.Run.entries_to.Goals as goal

pub overflow_sub-q : goal.overflow_sub-q
overflow_sub-q c = omega (arith, c.min-a.ensures)

pub overflow_sub-q-2 : goal.overflow_sub-q-2
overflow_sub-q-2 c = omega (arith, c.min-b.ensures)

pub overflow_sub-q-3 : goal.overflow_sub-q-3
overflow_sub-q-3 c = omega (arith, c.min-c.ensures)

pub overflow_mul-result : goal.overflow_mul-result
overflow_mul-result c = rw (c.kind_dim-trial_triangle.ensures, c.kind_dim-test_triangle.ensures) (omega (arith, one_few c.requires 3 3 (inl refl) (inl refl)))

pub overflow_mul-result-2 : goal.overflow_mul-result-2
overflow_mul-result-2 c =
    rw (c.wide.ensures, c.kind_dim-trial_triangle.ensures, c.kind_dim-test_triangle.ensures) (omega (arith, block_few c.requires 3 3 (inl refl) (inl refl) {records = c.min-a.result} (omega (arith, c.min-a.type_inv))))

pub overflow_mul-result-3 : goal.overflow_mul-result-3
overflow_mul-result-3 c = rw (c.kind_dim-trial_quad.ensures, c.kind_dim-test_triangle.ensures) (omega (arith, one_few c.requires 3 4 (inl refl) (inr refl)))

pub overflow_mul-result-4 : goal.overflow_mul-result-4
overflow_mul-result-4 c =
    rw (c.wide-2.ensures, c.kind_dim-trial_quad.ensures, c.kind_dim-test_triangle.ensures) (omega (arith, block_few c.requires 3 4 (inl refl) (inr refl) {records = c.min-b.result} (omega (arith, c.min-b.type_inv))))

pub overflow_add-result : goal.overflow_add-result
overflow_add-result c =
    rw (c.wide-2.ensures, c.wide.ensures, c.kind_dim-trial_quad.ensures, c.kind_dim-trial_triangle.ensures, c.kind_dim-test_triangle.ensures)
    (omega (arith, entries_fit_holds (run_of c.args.self.now) c.args.q c.min-a.ensures c.min-b.ensures c.min-c.ensures c.min-d.ensures c.requires (omega arith)))

pub overflow_mul-result-5 : goal.overflow_mul-result-5
overflow_mul-result-5 c = rw (c.kind_dim-trial_triangle.ensures, c.kind_dim-test_quad.ensures) (omega (arith, one_few c.requires 4 3 (inr refl) (inl refl)))

pub overflow_mul-result-6 : goal.overflow_mul-result-6
overflow_mul-result-6 c =
    rw (c.wide-3.ensures, c.kind_dim-trial_triangle.ensures, c.kind_dim-test_quad.ensures) (omega (arith, block_few c.requires 4 3 (inr refl) (inl refl) {records = c.min-c.result} (omega (arith, c.min-c.type_inv))))

pub overflow_add-result-2 : goal.overflow_add-result-2
overflow_add-result-2 c =
    rw (c.wide-3.ensures, c.wide-2.ensures, c.wide.ensures, c.kind_dim-trial_quad.ensures, c.kind_dim-trial_triangle.ensures, c.kind_dim-test_quad.ensures, c.kind_dim-test_triangle.ensures)
    (omega (arith, entries_fit_holds (run_of c.args.self.now) c.args.q c.min-a.ensures c.min-b.ensures c.min-c.ensures c.min-d.ensures c.requires (omega arith)))

pub overflow_mul-result-7 : goal.overflow_mul-result-7
overflow_mul-result-7 c = rw (c.kind_dim-trial_quad.ensures, c.kind_dim-test_quad.ensures) (omega (arith, one_few c.requires 4 4 (inr refl) (inr refl)))

pub overflow_mul-result-8 : goal.overflow_mul-result-8
overflow_mul-result-8 c =
    rw (c.wide-4.ensures, c.kind_dim-trial_quad.ensures, c.kind_dim-test_quad.ensures) (omega (arith, block_few c.requires 4 4 (inr refl) (inr refl) {records = c.min-d.result} (omega (arith, c.min-d.type_inv))))

pub overflow_add-result-3 : goal.overflow_add-result-3
overflow_add-result-3 c =
    rw (c.wide-4.ensures, c.wide-3.ensures, c.wide-2.ensures, c.wide.ensures, c.kind_dim-trial_quad.ensures, c.kind_dim-trial_triangle.ensures, c.kind_dim-test_quad.ensures, c.kind_dim-test_triangle.ensures)
    (omega (arith, entries_fit_holds (run_of c.args.self.now) c.args.q c.min-a.ensures c.min-b.ensures c.min-c.ensures c.min-d.ensures c.requires (omega arith)))

pub returns : goal.returns
returns c =
    rw (c.wide-4.ensures, c.wide-3.ensures, c.wide-2.ensures, c.wide.ensures, c.kind_dim-trial_quad.ensures, c.kind_dim-trial_triangle.ensures, c.kind_dim-test_quad.ensures, c.kind_dim-test_triangle.ensures)
    (entries_by (run_of c.args.self.now) c.args.q c.min-a.ensures c.min-b.ensures c.min-c.ensures c.min-d.ensures)

-- See Invariants.antt. Assumes nothing.
use Rattle.std.proofs.Common.{◌≡◌, refl, arith}
use Rattle.integrands.specs.Columns.{held_added, held_as}
use Rattle.lent_numbers.specs.Forms.{touching_of}
use Rattle.lent_numbers.specs.Sizes.{small_kernel}
use Rattle.cell_pair_assemblers.specs.Facts.{touching_begin, touching_once, touching_end, touching_geometry, touching_test_table, touching_trial_table, touching_kernel}
use Rattle.cell_pair_assemblers.proofs.add_touching.Goals as goal

pub loop-q-init : goal.loop-q-init
loop-q-init g c = rw c.requires.0.1 (touching_begin c.args.local.integrand (touching_of c.args.lent) c.requires.0.0.test_few c.requires.0.0.trial_few)

pub at-test-requires : goal.at-test-requires
at-test-requires g c = rw c.test-tests.ensures (touching_geometry c.requires.0.0 c.loop-q.q c.loop-q-test.true).0

pub at-trial-requires : goal.at-trial-requires
at-trial-requires g c = rw c.trial-trials.ensures (touching_geometry c.requires.0.0 c.loop-q.q c.loop-q-test.true).1

pub bounds-lent-q : goal.bounds-lent-q
bounds-lent-q g c = (touching_geometry c.requires.0.0 c.loop-q.q c.loop-q-test.true).2

pub overflow_mul-pair : goal.overflow_mul-pair
overflow_mul-pair g c = rw c.kernel_width-width.ensures (omega (arith, small_kernel c.args.local.integrand c.loop-q.q (omega (arith, c.loop-q-test.true, c.requires.0.0.count))))

pub parts-parts-requires : goal.parts-parts-requires
parts-parts-requires g c = rw (c.at-test.ensures, c.test-tests.ensures, c.table_rows-rows.ensures, c.requires.1) (c.requires.2, touching_test_table c.requires.0.0 c.loop-q.q c.loop-q-test.true, refl)

pub add-requires : goal.add-requires
add-requires g c =
    rw (c.at-test.ensures, c.at-trial.ensures, c.test-tests.ensures, c.trial-trials.ensures, c.table_rows-rows.ensures, c.kernel_width-width.ensures, c.requires.1) (
      c.loop-q.invariant.size,
      c.requires.2,
      record {
        right = c.requires.0.0.right;
        test = touching_test_table c.requires.0.0 c.loop-q.q c.loop-q-test.true;
        trial = touching_trial_table c.requires.0.0 c.loop-q.q c.loop-q-test.true;
        test_rows = refl;
        trial_rows = refl;
        kernel = touching_kernel c.requires.0.0 c.loop-q.q c.loop-q-test.true;
      },
      rw (c.at-test.ensures, c.test-tests.ensures, c.table_rows-rows.ensures) at c.parts-parts.ensures,
    )

pub loop-q-preserved : goal.loop-q-preserved
loop-q-preserved g c =
    let added = rw (c.at-test.ensures, c.at-trial.ensures, c.test-tests.ensures, c.trial-trials.ensures, c.requires.1) at c.add.ensures in
    held_added _ c.loop-q.invariant added
    (λ i j l b. touching_once c.args.local.integrand (touching_of c.args.lent) i j c.loop-q.q _ _ _ _ refl refl c.kernel_width-width.ensures c.table_rows-rows.ensures refl)

pub returns : goal.returns
returns g c =
    let end : c.loop-q.q ≡ c.args.lent.points = omega (arith, c.loop-q-test.false) in
    held_as (rw end at c.loop-q.invariant) (λ i j l b. touching_end c.args.local.integrand (touching_of c.args.lent) i j)

-- See Invariants.antt. Assumes nothing.
use Rattle.std.proofs.Common.{◌≡◌, ◌+◌, ◌*◌, refl, arith}
use Rattle.integrands.specs.Columns.{held_added, held_as}
use Rattle.lent_numbers.specs.Forms.{distant_of}
use Rattle.lent_numbers.specs.Sizes.{small_kernel}
use Rattle.cell_pair_assemblers.specs.Facts.{distant_begin, distant_row_start, distant_more, distant_row_end, distant_end, distant_geometry, distant_trial_geometry, distant_test_table, distant_trial_table, distant_kernel, distant_pair_lem}
use Rattle.cell_pair_assemblers.proofs.add_distant.Goals as goal

pub loop-t-init : goal.loop-t-init
loop-t-init g c = rw c.requires.0.1 (distant_begin c.args.local.integrand (distant_of c.args.lent) c.requires.0.0.test_few c.requires.0.0.trial_few)

pub at-test-requires : goal.at-test-requires
at-test-requires g c = (distant_geometry c.requires.0.0 c.loop-t.t c.loop-t-test.true).0

pub bounds-lent-t : goal.bounds-lent-t
bounds-lent-t g c = (distant_geometry c.requires.0.0 c.loop-t.t c.loop-t-test.true).1

pub loop-r-init : goal.loop-r-init
loop-r-init g c = held_as c.loop-t.invariant (λ i j l b. distant_row_start c.args.local.integrand (distant_of c.args.lent) i j c.loop-t.t)

pub at-trial-requires : goal.at-trial-requires
at-trial-requires g c = (distant_trial_geometry c.requires.0.0 c.loop-r.r c.loop-r-test.true).0

pub bounds-lent-r : goal.bounds-lent-r
bounds-lent-r g c = (distant_trial_geometry c.requires.0.0 c.loop-r.r c.loop-r-test.true).1

pub overflow_mul-pair : goal.overflow_mul-pair
overflow_mul-pair g c =
    rw c.kernel_width-width.ensures
    (omega (arith, small_kernel c.args.local.integrand (c.loop-t.t + c.args.lent.test.points * c.loop-r.r) (omega (arith, (distant_pair_lem c.requires.0.0 c.loop-t.t c.loop-r.r c.loop-t-test.true c.loop-r-test.true).1))))

pub parts-parts-requires : goal.parts-parts-requires
parts-parts-requires g c = rw (c.at-test.ensures, c.table_rows-rows.ensures, c.requires.1) (c.requires.2, distant_test_table c.requires.0.0 c.loop-t.t c.loop-t-test.true, refl)

pub add-requires : goal.add-requires
add-requires g c =
    rw (c.at-test.ensures, c.at-trial.ensures, c.table_rows-rows.ensures, c.kernel_width-width.ensures, c.requires.1) (
      c.loop-r.invariant.size,
      c.requires.2,
      record {
        right = c.requires.0.0.right;
        test = distant_test_table c.requires.0.0 c.loop-t.t c.loop-t-test.true;
        trial = distant_trial_table c.requires.0.0 c.loop-r.r c.loop-r-test.true;
        test_rows = refl;
        trial_rows = refl;
        kernel = distant_kernel c.requires.0.0 c.loop-t.t c.loop-r.r c.loop-t-test.true c.loop-r-test.true;
      },
      rw (c.at-test.ensures, c.table_rows-rows.ensures) at c.parts-parts.ensures,
    )

pub loop-r-preserved : goal.loop-r-preserved
loop-r-preserved g c =
    let added = rw (c.at-test.ensures, c.at-trial.ensures, c.requires.1) at c.add.ensures in
    held_added _ c.loop-r.invariant added
    (λ i j l b. distant_more c.args.local.integrand (distant_of c.args.lent) i j c.loop-t.t c.loop-r.r _ _ _ _ refl refl c.kernel_width-width.ensures c.table_rows-rows.ensures refl refl)

pub loop-t-preserved : goal.loop-t-preserved
loop-t-preserved g c =
    let end : c.loop-r.r ≡ c.args.lent.trial.points = omega (arith, c.loop-r-test.false) in
    held_as (rw end at c.loop-r.invariant) (λ i j l b. distant_row_end c.args.local.integrand (distant_of c.args.lent) i j c.loop-t.t)

pub returns : goal.returns
returns g c =
    let end : c.loop-t.t ≡ c.args.lent.test.points = omega (arith, c.loop-t-test.false) in
    held_as (rw end at c.loop-t.invariant) (λ i j l b. distant_end c.args.local.integrand (distant_of c.args.lent) i j)

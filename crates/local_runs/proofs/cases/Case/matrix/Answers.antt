-- A pair that is not refused fits. Assumes nothing.
use Rattle.std.proofs.Common.{sym, refl}
use Rattle.lent_numbers.specs.Sizes.{touching_fits, distant_fits}
use Rattle.local_runs.proofs.cases.Case.matrix.Goals as goal

pub touching_matrix-requires : goal.touching_matrix-requires
touching_matrix-requires c = (touching_fits _ _ _ _ c.requires.2 c.requires.0 c.requires.1 (sym c.in_ok-check-in-Touching.ensures), refl)

pub distant_matrix-requires : goal.distant_matrix-requires
distant_matrix-requires c = (distant_fits _ _ _ _ c.requires.2 c.requires.0 c.requires.1 (sym c.in_ok-check-in-Distant.ensures), refl)

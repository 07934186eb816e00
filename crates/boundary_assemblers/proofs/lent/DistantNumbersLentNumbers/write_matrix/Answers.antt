-- `write_matrix` of a distant pair meets its contract: the checks that pass make the lists fit. Assumes nothing.
use Rattle.lent_numbers.specs.Sizes.{distant_fits}
use Rattle.boundary_assemblers.proofs.lent.DistantNumbersLentNumbers.write_matrix.Goals as goal

pub distant_matrix-requires : goal.distant_matrix-requires
distant_matrix-requires c = (distant_fits _ _ _ _ c.requires.right c.requires.few.0 c.requires.few.1 c.requires.passes, c.requires.zeros)

-- `write_matrix` of a touching pair meets its contract: the checks that pass make the lists fit. Assumes nothing.
use Rattle.lent_numbers.specs.Sizes.{touching_fits}
use Rattle.boundary_assemblers.proofs.lent.TouchingNumbersLentNumbers.write_matrix.Goals as goal

pub touching_matrix-requires : goal.touching_matrix-requires
touching_matrix-requires c = (touching_fits _ _ _ _ c.requires.right c.requires.few.0 c.requires.few.1 c.requires.passes, c.requires.zeros)

-- `boundary_assemblers::Run::matrix_right` meets its contract: a product of two numbers below 2^32 is below 2^64. Assumes nothing.
use Prim.Native.Nat.{◌≤◌}
use native.Mathlib.Nat.{mul-le-mul}
use native.Mathlib.Omega.{arith}
use Rattle.runs.specs.Runs.{matrix_right}
use Rattle.boundary_assemblers.proofs.Run.matrix_right.Goals as goal

pub overflow_mul-result : goal.overflow_mul-result
overflow_mul-result c =
    let a : c.wide.result ≤ 4294967295 = omega arith in
    let b : c.wide-2.result ≤ 4294967295 = omega arith in
    omega (arith, mul-le-mul a b)

pub returns : goal.returns
unfolding matrix_right
returns c = simp (c.wide-2.ensures, c.wide.ensures)

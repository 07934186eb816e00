-- `boundary_assemblers::Run::pair_count` meets its contract: a product of two numbers below 2^32 is below 2^64. Assumes nothing.
use Rattle.std.proofs.Common.{◌≤◌, mul-le-mul, arith}
use Rattle.boundary_assemblers.proofs.Run.pair_count.Goals as goal

pub overflow_mul-result : goal.overflow_mul-result
overflow_mul-result c = let a : c.wide.result ≤ 4294967295 = omega arith in let b : c.wide-2.result ≤ 4294967295 = omega arith in omega (arith, mul-le-mul a b)

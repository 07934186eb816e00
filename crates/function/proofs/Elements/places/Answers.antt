-- `function::Elements::places` meets its contract: of any u32 the products stay below 2^47. Assumes nothing.
use Prim.Native.Nat.{ℕ, ◌*◌, ◌≤◌}
use native.Mathlib.Nat.{mul-le-mul}
use native.Mathlib.Omega.{arith}
use mathlib.Core.Path.{refl}
use Rattle.function.specs.Elements.{dim_of, element_of}
use Rattle.function.proofs.Elements.places.Goals as goal

product : (n m : ℕ) → n ≤ 2048 → m ≤ 38654705664 → n * m ≤ 79164837199872
product n m h k = mul-le-mul h k

pub overflow_mul-result : goal.overflow_mul-result
unfolding dim_of element_of
overflow_mul-result c = omega (arith, product c.wide.result c.dim.result (omega (arith, c.wide.ensures, c.requires)) (omega (arith, c.dim.ensures)))

pub overflow_mul-result-2 : goal.overflow_mul-result-2
unfolding dim_of element_of
overflow_mul-result-2 c = omega (arith, product c.wide-2.result c.dim-2.result (omega (arith, c.wide-2.ensures, c.requires)) (omega (arith, c.dim-2.ensures)))

pub overflow_add-result : goal.overflow_add-result
unfolding dim_of element_of
overflow_add-result c = omega (arith, product c.wide.result c.dim.result (omega (arith, c.wide.ensures, c.requires)) (omega (arith, c.dim.ensures)), product c.wide-2.result c.dim-2.result (omega (arith, c.wide-2.ensures, c.requires)) (omega (arith, c.dim-2.ensures)))

pub returns : goal.returns
returns c = rw (c.dim-2.ensures, c.wide-2.ensures, c.dim.ensures, c.wide.ensures) refl

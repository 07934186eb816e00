-- `function::Element::dim` meets its contract. Of a kind below 256 the products stay below 2⁴⁰. Assumes nothing.
use Prim.Native.Nat.{ℕ, ◌*◌, ◌^◌, ◌≤◌, ◌<◌}
use native.Mathlib.Nat.{mul-le-mul_right}
use native.Mathlib.Omega.{arith}
use Rattle.function.specs.Elements.{dim_of}
use Rattle.function.proofs.Element.dim.Goals as goal

product : (n x : ℕ) → n < 256 → x < 2 ^ 32 → n * x < 2 ^ 40
product n x hn hx =
    let a : n * x ≤ 255 * x = mul-le-mul_right x (omega arith) in
    omega (arith, a)

pub returns : goal.returns
unfolding dim_of
returns c = rw (c.corners_of-n.ensures.0, c.wide.ensures, c.wide-2.ensures, c.wide-3.ensures)

-- `integrands::kind_value` meets its contract: in each arm the kind is the arm's number, and the value is that kind's. Assumes nothing.
use mathlib.Core.Path.{sym, ap}
use Prim.Native.Nat.{ℕ}
use native.Mathlib.Nat.{zero-add}
use Rattle.numbers.specs.Floats.{◌!◌}
use Rattle.integrands.specs.ValueFacts.{single_layer_holds, double_layer_holds, adjoint_layer, curl_curl_holds, normal_normal_holds, last_kind}
use Rattle.integrands.proofs.kind_value.Goals as goal

pub returns-in-0 : goal.returns-in-0
returns-in-0 c = rw c.in-0.is (single_layer_holds _ _ _ (ap (λ (x : ℕ). c.args.kernel.now ! x) (sym (zero-add c.args.at))))

pub returns-in-1 : goal.returns-in-1
returns-in-1 c = rw c.in-1.is (double_layer_holds _ _ _ c.along_normal.ensures)

pub returns-in-2 : goal.returns-in-2
returns-in-2 c = rw c.in-2.is (adjoint_layer _ _ _ c.along_normal-in-2.ensures)

pub returns-in-3 : goal.returns-in-3
returns-in-3 c = rw c.in-3.is (curl_curl_holds _ _ _ (ap (λ (x : ℕ). c.args.kernel.now ! x) (sym (zero-add c.args.at))))

pub returns-in-4-to-4294967295 : goal.returns-in-4-to-4294967295
returns-in-4-to-4294967295 c =
    let none = c.in-4-to-4294967295.in-4-to-4294967295-own.rest in
    rw (last_kind c.args.kind c.requires.small none.0.0.0.1 none.0.0.1 none.0.1 none.1) (normal_normal_holds _ _ _ (ap (λ (x : ℕ). c.args.kernel.now ! x) (sym (zero-add c.args.at))))

-- See Invariants.antt. Assumes nothing.
use Prim.Native.Nat.{◌<◌}
use native.Mathlib.Omega.{arith}
use mathlib.Core.Path.{sym}
use lib.ListN.{length-take}
use lib.Seq.{get_or-take}
use Rattle.lists.specs.Bool.{◌or◌}
use Rattle.lists.specs.Bounded.{some_start, some_more}
use Rattle.grid.proofs.edge_rule.has_key.Goals as goal

pub loop-known-init : goal.loop-known-init
loop-known-init c = sym (some_start _)

pub loop-known-preserved : goal.loop-known-preserved
unfolding ◌or◌
loop-known-preserved c =
    let l : c.loop-known.known-index < c.args.count = omega (arith, length-take c.args.count c.args.keys.now) in
    rw (c.loop-known.invariant, get_or-take c.args.count c.args.keys.now c.loop-known.known-index 0 l) (sym (some_more _ _))

-- See Invariants.antt. Assumes nothing.
use native.Mathlib.Omega.{arith}
use Rattle.cell_patterns.specs.SharedFacts.{gathered_start, gathered_turn, gathered_done}
use Rattle.cell_patterns.proofs.shared.matches_of.Goals as goal

pub loop-q-init : goal.loop-q-init
loop-q-init c = gathered_start _ _ _

pub loop-q-preserved : goal.loop-q-preserved
loop-q-preserved c =
    gathered_turn c.loop-q.invariant (omega arith) c.requires _ _ _ c.place_in.ensures c.add_vertex.ensures.0 c.add_vertex.ensures.1

pub returns : goal.returns
returns c =
    let inv = c.loop-q.invariant in
    (gathered_done inv (omega arith), omega (arith, inv.few, inv.below, c.requires.1), inv.size, inv.small)

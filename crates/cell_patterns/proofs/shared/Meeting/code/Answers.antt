-- See Invariants.antt. Assumes nothing.
use mathlib.Core.Path.{refl, ap, ◌∙◌}
use Prim.Native.Nat.{◌+◌, ◌*◌, ◌<◌}
use native.Mathlib.Omega.{arith}
use Rattle.std.proofs.Common.{take_all}
use mathlib.Core.List.{List}
use Rattle.pattern_table.specs.Numbers.{code_of, code_on}
use Rattle.cell_patterns.specs.Shared.{matches_in}
use Rattle.cell_patterns.specs.declared.shared.SharedVertex.{SharedVertex}
use Rattle.cell_patterns.specs.FormulaFacts.{code_turn, code_below, small_at}
use Rattle.cell_patterns.proofs.shared.Meeting.code.Goals as goal
use Rattle.cell_patterns.proofs.shared.Meeting.code.Goals.{In-loop-s}

-- the code so far is small
small : (c : In-loop-s) → c.loop-s.code < 4500000000
small c = rw c.loop-s.invariant (code_below (10 * c.args.self.n + c.args.self.k) c.args.self.shared.now c.loop-s.s-index (omega (arith, c.args.self.le_n)) c.args.self.small (omega (arith, c.args.self.le_n)))

pub loop-s-init : goal.loop-s-init
unfolding code_on
loop-s-init c = refl

pub overflow_mul-code-in-loop-s : goal.overflow_mul-code-in-loop-s
overflow_mul-code-in-loop-s c = omega (arith, small (goal.at.overflow_mul-code-in-loop-s c).In-loop-s)

pub overflow_mul-code-in-loop-s-2 : goal.overflow_mul-code-in-loop-s-2
overflow_mul-code-in-loop-s-2 c =
    let s = small_at c.args.self.shared.now c.args.self.small c.loop-s.s-index (omega arith) in
    omega (arith, s.0)

pub overflow_add-code-in-loop-s : goal.overflow_add-code-in-loop-s
overflow_add-code-in-loop-s c =
    let s = small_at c.args.self.shared.now c.args.self.small c.loop-s.s-index (omega arith) in
    omega (arith, s.0, s.1)

pub overflow_add-code-in-loop-s-2 : goal.overflow_add-code-in-loop-s-2
overflow_add-code-in-loop-s-2 c =
    let s = small_at c.args.self.shared.now c.args.self.small c.loop-s.s-index (omega arith) in
    omega (arith, s.0, s.1, small (goal.at.overflow_add-code-in-loop-s-2 c).In-loop-s)

pub loop-s-preserved : goal.loop-s-preserved
loop-s-preserved c = rw c.loop-s.invariant (code_turn (10 * c.args.self.n + c.args.self.k) c.args.self.shared.now c.loop-s.s-index _ (omega arith))

pub returns : goal.returns
unfolding code_of
returns c = c.loop-s.invariant ∙ ap (λ (vs : List SharedVertex). code_on (10 * c.args.self.n + c.args.self.k) (matches_in vs)) (take_all c.loop-s.s-index c.args.self.shared.now (omega arith))

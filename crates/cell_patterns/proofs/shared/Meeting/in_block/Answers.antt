-- `cell_patterns::shared::Meeting::in_block` meets its contract: each arm is a case of the formula, and its products are small. Assumes nothing.
use mathlib.Core.Path.{sym}
use native.Mathlib.Omega.{arith}
use native.Mathlib.Nat.{le_of_lt}
use Rattle.cell_patterns.specs.FormulaFacts.{sixteen, small_at, in_none, in_one, in_turned, in_straight, in_more}
use Rattle.cell_patterns.proofs.shared.Meeting.in_block.Goals as goal

pub overflow_mul-result : goal.overflow_mul-result
overflow_mul-result c =
    let s = small_at c.args.self.shared.now c.args.self.small 0 (omega arith) in
    omega (arith, sixteen _ _ c.args.self.le_n.3 (le_of_lt s.0))

pub overflow_add-result : goal.overflow_add-result
overflow_add-result c =
    let s = small_at c.args.self.shared.now c.args.self.small 0 (omega arith) in
    omega (arith, sixteen _ _ c.args.self.le_n.3 (le_of_lt s.0), s.1)

pub returns-in-empty : goal.returns-in-empty
returns-in-empty c = sym (in_none c.args.self.n c.args.self.k c.args.self.shared.now (omega arith))

pub returns-in-len1 : goal.returns-in-len1
returns-in-len1 c =
    let s = small_at c.args.self.shared.now c.args.self.small 0 (omega arith) in
    (in_one c.args.self.n c.args.self.k c.args.self.shared.now (omega arith) (omega arith), omega (arith, sixteen _ _ c.args.self.le_n.3 (le_of_lt s.0), s.1))

pub returns-then-s-second_of : goal.returns-then-s-second_of
returns-then-s-second_of c = (
  in_turned c.args.self.n c.args.self.k c.args.self.shared.now (omega arith) (omega arith) c.edge_joining-e.ensures.0 c.edge_joining-g.ensures.0 c.second_of.ensures c.if-s-second_of.true,
  omega (arith, sixteen _ _ c.args.self.le_n.1 c.args.self.le_n.3, sixteen _ _ c.args.self.le_n.3 c.edge_joining-e.ensures.1, c.edge_joining-g.ensures.1),
)

pub returns-else-s-second_of : goal.returns-else-s-second_of
returns-else-s-second_of c = (
  in_straight c.args.self.n c.args.self.k c.args.self.shared.now (omega arith) (omega arith) c.edge_joining-e.ensures.0 c.edge_joining-g.ensures.0 c.second_of.ensures c.if-s-second_of.false,
  omega (arith, sixteen _ _ c.args.self.le_n.1 c.args.self.le_n.3, sixteen _ _ c.args.self.le_n.3 c.edge_joining-e.ensures.1, c.edge_joining-g.ensures.1),
)

pub returns-in_default : goal.returns-in_default
returns-in_default c = (in_more c.args.self.n c.args.self.k c.args.self.shared.now (omega arith), omega (arith, sixteen _ _ c.args.self.le_n.1 c.args.self.le_n.3))

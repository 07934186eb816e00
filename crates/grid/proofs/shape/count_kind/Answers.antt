-- See Invariants.antt. Assumes nothing.
use Prim.Native.Nat.{ℕ, ◌+◌}
use mathlib.Core.List.{List}
use native.Mathlib.Omega.{arith}
use mathlib.Core.Path.{◌≡◌, ap, sym, ◌∙◌}
use Rattle.grid.specs.Mesh.{cells_of}
use Rattle.grid.specs.KindsFacts.{cells_few, cells_append}
use Rattle.grid.proofs.shape.count_kind.Goals as goal
use Rattle.grid.proofs.shape.count_kind.Goals.{After-count_few}

-- the part that comes off and what is left
parts : (c : After-count_few) → c.loop-few.count + (c.count_few.result + cells_of c.next.new.self.rest.now c.args.kind) ≡ cells_of c.args.kinds.now c.args.kind
parts c =
    ap (λ (n : ℕ). c.loop-few.count + n) (rw c.count_few.ensures (sym (cells_append c.in-Some.few.now c.next.new.self.rest.now c.args.kind)) ∙ ap (λ (ks : List ℕ). cells_of ks c.args.kind) (sym c.in-Some.ensures.steps.1.0))
    ∙ c.loop-few.invariant.1

pub overflow_add-count : goal.overflow_add-count
overflow_add-count c =
    omega (arith, parts (goal.at.overflow_add-count c).After-count_few, cells_few c.args.kinds.now c.args.kind, c.requires)

pub loop-few-preserved : goal.loop-few-preserved
loop-few-preserved c =
    (omega (arith, c.in-Some.ensures.steps.0, c.loop-few.invariant.0), omega (arith, parts (goal.at.loop-few-preserved c).After-count_few))

pub returns : goal.returns
returns c =
    omega (arith, c.loop-few.invariant.1, cells_few c.loop-few.few-iterator.rest.now c.args.kind, c.in-None.ensures.steps.1.0)

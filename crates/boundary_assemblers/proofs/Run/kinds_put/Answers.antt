-- `boundary_assemblers::Run::kinds_put` meets its contract: the tests find the block of p. Assumes nothing.
use native.Mathlib.Omega.{arith}
use Prim.Native.Nat.{◌-◌}
use Rattle.lists.specs.Bool.{◌and◌}
use Rattle.runs.specs.Runs.{pairs}
use Rattle.boundary_assemblers.specs.EntryFacts.{put_early, put_in, block_one, block_two, block_three, block_four, last_left}
use Rattle.boundary_assemblers.specs.Forms.{run_of}
use Rattle.boundary_assemblers.proofs.Run.kinds_put.Goals as goal

pub returns-then-self-n : goal.returns-then-self-n
returns-then-self-n c =
    put_early (run_of c.args.self.now) c.args.test.kind c.args.trial.kind c.if-self-n.true

pub returns-then-q-k : goal.returns-then-q-k
unfolding ◌and◌
returns-then-q-k c =
    put_in (run_of c.args.self.now) c.args.test.kind c.args.trial.kind (omega (arith, c.if-self-n.false)) _ (block_one c.args.self.now.numbers (c.args.self.now.position - c.args.self.now.numbers.distant) c.if-q-k.true)

pub returns-then-q-k-2 : goal.returns-then-q-k-2
unfolding ◌and◌
returns-then-q-k-2 c =
    put_in (run_of c.args.self.now) c.args.test.kind c.args.trial.kind (omega (arith, c.if-self-n.false)) _ (block_two c.args.self.now.numbers (c.args.self.now.position - c.args.self.now.numbers.distant) c.if-q-k.false c.if-q-k-2.true)

pub returns-then-q-k-3 : goal.returns-then-q-k-3
unfolding ◌and◌
returns-then-q-k-3 c =
    put_in (run_of c.args.self.now) c.args.test.kind c.args.trial.kind (omega (arith, c.if-self-n.false)) _ (block_three c.args.self.now.numbers (c.args.self.now.position - c.args.self.now.numbers.distant) c.if-q-k.false c.if-q-k-2.false c.if-q-k-3.true)

pub returns : goal.returns
unfolding ◌and◌
returns c =
    put_in (run_of c.args.self.now) c.args.test.kind c.args.trial.kind (omega (arith, c.if-self-n.false)) _ (block_four c.args.self.now.numbers (c.args.self.now.position - c.args.self.now.numbers.distant) c.if-q-k.false c.if-q-k-2.false c.if-q-k-3.false (last_left c.args.self.now.position c.args.self.now.numbers.distant c.args.self.now.numbers.touching (pairs c.args.self.now.numbers) c.args.self.now.numbers.pairs.triangle_triangle c.args.self.now.numbers.pairs.triangle_quad c.args.self.now.numbers.pairs.quad_triangle c.args.self.now.numbers.pairs.quad_quad c.requires.0.touching c.requires.0.all c.requires.1 (omega (arith, c.if-self-n.false)) c.if-q-k.false c.if-q-k-2.false c.if-q-k-3.false))

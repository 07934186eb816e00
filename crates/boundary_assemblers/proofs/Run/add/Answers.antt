-- `boundary_assemblers::Run::add` meets its contract: a refusal is answered as such, and nothing is written; where there is none, the local matrix is added.
-- Assumes nothing.
use Rattle.std.proofs.Common.{ℕ, arith, refl, ap}
use Rattle.std.specs.Prelude.{Bool, not}
use Rattle.std.proofs.lemmas.Result.{err_from_is_err_and}
use Rattle.lists.specs.Bool.{◌and◌, turned, passed}
use Rattle.boundary_assemblers.specs.Forms.{run_of, plan_lent}
use Rattle.refusals.specs.declared.Refusal.TheVariants.{Run as RunRefused}
use Rattle.boundary_assemblers.specs.RunFacts.{unsized, by_plan, passed_by_plan, standing}
use Rattle.boundary_assemblers.specs.AddFacts.{add_by_state, add_by_kind, add_by_lent, add_by_none}
use Rattle.boundary_assemblers.proofs.Run.add.Goals as goal

pub returns-then-not-matrix_right : goal.returns-then-not-matrix_right
returns-then-not-matrix_right g c =
    let both = add_by_state g.L.LentNumbers.is_taken (λ (m n : ℕ). g.L.LentNumbers.checks c.args.self.now.numbers.integrand m n c.args.lent) (g.L.LentNumbers.entry c.args.self.now.numbers.integrand c.args.lent) (run_of c.args.self.now) (plan_lent c.args.plan) c.args.matrix.now RunRefused (unsized _ _ (turned c.matrix_right.ensures c.if-not-matrix_right.true-raw)) in
    record { result_value = both.0; matrix_after = both.1; refused = (refl, refl) }

pub returns-in_err-pair : goal.returns-in_err-pair
returns-in_err-pair g c =
    let p = err_from_is_err_and c.from_residual.result c.from_residual.ensures.1 in
    let both = add_by_state g.L.LentNumbers.is_taken (λ (m n : ℕ). g.L.LentNumbers.checks c.args.self.now.numbers.integrand m n c.args.lent) (g.L.LentNumbers.entry c.args.self.now.numbers.integrand c.args.lent) (run_of c.args.self.now) (plan_lent c.args.plan) c.args.matrix.now _ (by_plan _ _ (passed c.matrix_right.ensures c.if-not-matrix_right.false-raw) c.in_err-pair.ensures.refusal) in
    rw (p.1, p.2) (record { result_value = both.0; matrix_after = both.1; refused = (refl, refl) })

pub returns-then-not-is_taken-self : goal.returns-then-not-is_taken-self
unfolding ◌and◌
returns-then-not-is_taken-self g c =
    let both = add_by_kind g.L.LentNumbers.is_taken (λ (m n : ℕ). g.L.LentNumbers.checks c.args.self.now.numbers.integrand m n c.args.lent) (g.L.LentNumbers.entry c.args.self.now.numbers.integrand c.args.lent) (run_of c.args.self.now) (plan_lent c.args.plan) c.args.matrix.now
    (passed_by_plan _ _ (passed c.matrix_right.ensures c.if-not-matrix_right.false-raw) c.in_ok-pair.ensures.refusal c.in_ok-pair.ensures.pair) (turned (ap (λ (b : Bool). b and not c.args.self.now.entries) c.is_taken.ensures) c.if-not-is_taken-self.true-raw) in
    record { result_value = both.0; matrix_after = both.1; refused = (refl, refl) }

pub write_local-requires : goal.write_local-requires
write_local-requires g c =
    let h = standing _ _ _ (passed_by_plan _ _ (passed c.matrix_right.ensures c.if-not-matrix_right.false-raw) c.in_ok-pair.ensures.refusal c.in_ok-pair.ensures.pair) in
    record { right = h.ranges.integrand; few = (h.test.few, h.trial.few); zeros = refl }

pub returns-in_err-write_local : goal.returns-in_err-write_local
unfolding ◌and◌
returns-in_err-write_local g c =
    let p = err_from_is_err_and c.from_residual-in_err-write_local.result c.from_residual-in_err-write_local.ensures.1 in
    let both = add_by_lent g.L.LentNumbers.is_taken (λ (m n : ℕ). g.L.LentNumbers.checks c.args.self.now.numbers.integrand m n c.args.lent) (g.L.LentNumbers.entry c.args.self.now.numbers.integrand c.args.lent) (run_of c.args.self.now) (plan_lent c.args.plan) c.args.matrix.now
    (passed_by_plan _ _ (passed c.matrix_right.ensures c.if-not-matrix_right.false-raw) c.in_ok-pair.ensures.refusal c.in_ok-pair.ensures.pair) (passed (ap (λ (b : Bool). b and not c.args.self.now.entries) c.is_taken.ensures) c.if-not-is_taken-self.false-raw)
    c.in_err-write_local.ensures.refusal _ refl in
    rw (p.1, p.2) (record { result_value = both.0; matrix_after = both.1; refused = (refl, refl) })

pub add_matrix-requires : goal.add_matrix-requires
add_matrix-requires g c = standing _ _ _ (passed_by_plan _ _ (passed c.matrix_right.ensures c.if-not-matrix_right.false-raw) c.in_ok-pair.ensures.refusal c.in_ok-pair.ensures.pair)

pub overflow_add-self : goal.overflow_add-self
overflow_add-self g c =
    let h = standing _ _ _ (passed_by_plan _ _ (passed c.matrix_right.ensures c.if-not-matrix_right.false-raw) c.in_ok-pair.ensures.refusal c.in_ok-pair.ensures.pair) in omega (arith, h.below, h.ranges.all_pairs)

pub returns : goal.returns
unfolding ◌and◌
returns g c =
    let both = add_by_none g.L.LentNumbers.is_taken (λ (m n : ℕ). g.L.LentNumbers.checks c.args.self.now.numbers.integrand m n c.args.lent) (g.L.LentNumbers.entry c.args.self.now.numbers.integrand c.args.lent) (run_of c.args.self.now) (plan_lent c.args.plan) c.args.matrix.now
    (passed_by_plan _ _ (passed c.matrix_right.ensures c.if-not-matrix_right.false-raw) c.in_ok-pair.ensures.refusal c.in_ok-pair.ensures.pair) (passed (ap (λ (b : Bool). b and not c.args.self.now.entries) c.is_taken.ensures) c.if-not-is_taken-self.false-raw)
    c.in_ok-write_local.ensures.refusal refl c.in_ok-write_local.ensures.held c.add_matrix.ensures in
    record { result_value = both.0; matrix_after = both.1; refused = tt }

-- `boundary_assemblers::Run::enter` meets its contract: a refusal is answered as such, and nothing is written; where there is none, the entries are written.
-- Assumes nothing.
use Rattle.std.proofs.Common.{arith, refl, ap, ◌∙◌}
use Rattle.std.specs.Prelude.{Bool, true, false, not, ◌≡◌}
use Rattle.std.proofs.lemmas.Result.{err_from_is_err_and}
use Rattle.lists.specs.Bool.{◌and◌, and_right, turned, passed}
use Rattle.lent_numbers.specs.Forms.{touching_of}
use Rattle.runs.specs.Runs.{is_touching}
use Rattle.boundary_assemblers.specs.Forms.{run_of, plan_lent, entries_lent}
use Rattle.refusals.specs.declared.Refusal.TheVariants.{Run as RunRefused}
use Rattle.boundary_assemblers.specs.RunFacts.{unsized, by_plan, passed_by_plan, standing}
use Rattle.boundary_assemblers.specs.EntryFacts.{sized_same, fit, entries_by_state, entries_by_put, entries_by_kind, entries_by_lent, entries_by_none}
use Rattle.boundary_assemblers.proofs.Run.enter.Goals as goal

-- the entry lists have their length
lists_sized : (d : Bool) {e b : Bool} → b ≡ (d and e) → not b ≡ false → e ≡ true
lists_sized d q h = and_right d _ (passed q h)

pub returns-then-not-entries_right : goal.returns-then-not-entries_right
returns-then-not-entries_right c =
    let both = entries_by_state (touching_of c.args.lent) (run_of c.args.self.now) (plan_lent c.args.plan) (entries_lent c.args.lists.now) RunRefused (unsized _ _ (turned c.entries_right.ensures c.if-not-entries_right.true-raw) ∙ sized_same _ _ _) in
    record { result_value = both.0; values_after = both.1; refused = (refl, refl); same = record { rows = refl; columns = refl; values = refl } }

pub returns-in_err-pair : goal.returns-in_err-pair
returns-in_err-pair c =
    let p = err_from_is_err_and c.from_residual.result c.from_residual.ensures.1 in
    let both = entries_by_state (touching_of c.args.lent) (run_of c.args.self.now) (plan_lent c.args.plan) (entries_lent c.args.lists.now) _ (by_plan _ _ (lists_sized _ c.entries_right.ensures c.if-not-entries_right.false-raw) c.in_err-pair.ensures.refusal) in
    rw (p.1, p.2) (record { result_value = both.0; values_after = both.1; refused = (refl, refl); same = record { rows = refl; columns = refl; values = refl } })

pub kinds_put-requires : goal.kinds_put-requires
kinds_put-requires c = let h = standing _ _ _ (passed_by_plan _ _ (lists_sized _ c.entries_right.ensures c.if-not-entries_right.false-raw) c.in_ok-pair.ensures.refusal c.in_ok-pair.ensures.pair) in (h.counts, h.below)

pub returns-then-not-kinds_put : goal.returns-then-not-kinds_put
returns-then-not-kinds_put c =
    let both = entries_by_put (touching_of c.args.lent) (run_of c.args.self.now) (plan_lent c.args.plan) (entries_lent c.args.lists.now) (passed_by_plan _ _ (lists_sized _ c.entries_right.ensures c.if-not-entries_right.false-raw) c.in_ok-pair.ensures.refusal c.in_ok-pair.ensures.pair) (turned c.kinds_put.ensures c.if-not-kinds_put.true-raw) in
    record { result_value = both.0; values_after = both.1; refused = (refl, refl); same = record { rows = refl; columns = refl; values = refl } }

pub returns-then-not-is_taken-self : goal.returns-then-not-is_taken-self
unfolding ◌and◌
returns-then-not-is_taken-self c =
    let both = entries_by_kind (touching_of c.args.lent) (run_of c.args.self.now) (plan_lent c.args.plan) (entries_lent c.args.lists.now)
    (passed_by_plan _ _ (lists_sized _ c.entries_right.ensures c.if-not-entries_right.false-raw) c.in_ok-pair.ensures.refusal c.in_ok-pair.ensures.pair) (passed c.kinds_put.ensures c.if-not-kinds_put.false-raw)
    (turned (ap (λ (b : Bool). b and c.args.self.now.entries) c.is_taken.ensures) c.if-not-is_taken-self.true-raw) in
    record { result_value = both.0; values_after = both.1; refused = (refl, refl); same = record { rows = refl; columns = refl; values = refl } }

pub write_local-requires : goal.write_local-requires
write_local-requires c =
    let h = standing _ _ _ (passed_by_plan _ _ (lists_sized _ c.entries_right.ensures c.if-not-entries_right.false-raw) c.in_ok-pair.ensures.refusal c.in_ok-pair.ensures.pair) in
    record { right = h.ranges.integrand; few = (h.test.few, h.trial.few); zeros = refl }

pub returns-in_err-write_local : goal.returns-in_err-write_local
unfolding ◌and◌
returns-in_err-write_local c =
    let p = err_from_is_err_and c.from_residual-in_err-write_local.result c.from_residual-in_err-write_local.ensures.1 in
    let both = entries_by_lent (touching_of c.args.lent) (run_of c.args.self.now) (plan_lent c.args.plan) (entries_lent c.args.lists.now)
    (passed_by_plan _ _ (lists_sized _ c.entries_right.ensures c.if-not-entries_right.false-raw) c.in_ok-pair.ensures.refusal c.in_ok-pair.ensures.pair) (passed c.kinds_put.ensures c.if-not-kinds_put.false-raw)
    (passed (ap (λ (b : Bool). b and c.args.self.now.entries) c.is_taken.ensures) c.if-not-is_taken-self.false-raw) c.in_err-write_local.ensures.refusal _ refl in
    rw (p.1, p.2) (record { result_value = both.0; values_after = both.1; refused = (refl, refl); same = record { rows = refl; columns = refl; values = refl } })

pub write_entries-requires : goal.write_entries-requires
unfolding ◌and◌
write_entries-requires c = record {
  standing = standing _ _ _ (passed_by_plan _ _ (lists_sized _ c.entries_right.ensures c.if-not-entries_right.false-raw) c.in_ok-pair.ensures.refusal c.in_ok-pair.ensures.pair);
  fit = fit _ _ _ (passed_by_plan _ _ (lists_sized _ c.entries_right.ensures c.if-not-entries_right.false-raw) c.in_ok-pair.ensures.refusal c.in_ok-pair.ensures.pair) (and_right (is_touching c.in_ok-pair.pair.item.pattern) _ (passed (ap (λ (b : Bool). b and c.args.self.now.entries) c.is_taken.ensures) c.if-not-is_taken-self.false-raw)) (passed c.kinds_put.ensures c.if-not-kinds_put.false-raw);
}

pub overflow_add-self : goal.overflow_add-self
overflow_add-self c = let h = standing _ _ _ (passed_by_plan _ _ (lists_sized _ c.entries_right.ensures c.if-not-entries_right.false-raw) c.in_ok-pair.ensures.refusal c.in_ok-pair.ensures.pair) in omega (arith, h.below, h.ranges.all_pairs)

pub returns : goal.returns
unfolding ◌and◌
returns c =
    let both = entries_by_none (touching_of c.args.lent) (run_of c.args.self.now) (plan_lent c.args.plan) (entries_lent c.args.lists.now)
    (passed_by_plan _ _ (lists_sized _ c.entries_right.ensures c.if-not-entries_right.false-raw) c.in_ok-pair.ensures.refusal c.in_ok-pair.ensures.pair) (passed c.kinds_put.ensures c.if-not-kinds_put.false-raw)
    (passed (ap (λ (b : Bool). b and c.args.self.now.entries) c.is_taken.ensures) c.if-not-is_taken-self.false-raw) c.in_ok-write_local.ensures.refusal refl c.in_ok-write_local.ensures.held c.write_entries.ensures.written in
    record { result_value = both.0; values_after = both.1; refused = tt; same = c.write_entries.ensures.same }

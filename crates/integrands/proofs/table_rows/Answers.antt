-- `integrands::table_rows` meets its contract: the test is the definition's. Assumes nothing.
use Rattle.std.specs.Prelude.{true, false, eqb}
use Rattle.std.proofs.Common.{sym, ◌∙◌, rules}
use Rattle.integrands.specs.TermFacts.{table_rows_is}
use Rattle.integrands.proofs.table_rows.Goals as goal

pub returns-then-any_kind : goal.returns-then-any_kind
returns-then-any_kind c = table_rows_is c.args.f true (sym c.if-any_kind.true ∙ c.any_kind.ensures (λ kind. eqb kind 3) (λ k x e. search rules))

pub returns : goal.returns
returns c = table_rows_is c.args.f false (sym c.if-any_kind.false ∙ c.any_kind.ensures (λ kind. eqb kind 3) (λ k x e. search rules))

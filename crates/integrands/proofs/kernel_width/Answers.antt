-- `integrands::kernel_width` meets its contract: the test is the definition's. Assumes nothing.
use Rattle.std.specs.Prelude.{true, false, eqb}
use Rattle.std.proofs.Common.{sym, ◌∙◌, rules}
use Rattle.lists.specs.Bool.{◌or◌}
use Rattle.integrands.specs.TermFacts.{kernel_width_is}
use Rattle.integrands.proofs.kernel_width.Goals as goal

pub returns-then-any_kind : goal.returns-then-any_kind
unfolding ◌or◌
returns-then-any_kind c = kernel_width_is c.args.f true (sym c.if-any_kind.true ∙ c.any_kind.ensures (λ kind. eqb kind 1 or eqb kind 2) (λ k x e. search rules))

pub returns : goal.returns
unfolding ◌or◌
returns c = kernel_width_is c.args.f false (sym c.if-any_kind.false ∙ c.any_kind.ensures (λ kind. eqb kind 1 or eqb kind 2) (λ k x e. search rules))

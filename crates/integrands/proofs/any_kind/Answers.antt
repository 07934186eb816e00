-- `integrands::any_kind` meets its contract: the test is the definition's. Assumes nothing.
use Rattle.lists.specs.Bool.{◌and◌, ◌or◌}
use Rattle.integrands.specs.Terms.{any_kind}
use Rattle.integrands.proofs.any_kind.Goals as goal

pub returns : goal.returns
unfolding any_kind ◌and◌ ◌or◌
returns g c p h = rw (h _ _ c.passes.ensures, h _ _ c.passes-2.ensures, c.kind_of.ensures, c.kind_of-2.ensures)

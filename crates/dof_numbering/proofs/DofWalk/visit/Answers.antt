-- `dof_numbering::DofWalk::visit` meets its contract. The two ways are `visited_first` and `visited_again`. Assumes nothing.
use mathlib.Core.Path.{refl}
use Rattle.dof_numbering.specs.DofWalk.{state}
use Rattle.dof_numbering.proofs.Walk.{visited_first, visited_again}
use borrow.Author.Rules.{rules}
use Rattle.dof_numbering.proofs.DofWalk.visit.Goals as goal

pub returns-then-seen-eq0-clause-walked : goal.returns-then-seen-eq0-clause-walked
returns-then-seen-eq0-clause-walked c =
    visited_first (state c.args.self.now) _ _ _ _ _ _ c.slot-i.ensures c.wide.ensures (search rules) refl c.write_numbers.ensures
    (rw (← c.wide-then-seen-eq0.ensures) c.write_owners.ensures) refl refl

pub returns-else-seen-eq0-clause-walked : goal.returns-else-seen-eq0-clause-walked
returns-else-seen-eq0-clause-walked c =
    visited_again (state c.args.self.now) _ _ _ _ _ _ c.slot-i.ensures c.wide.ensures (search rules) refl c.write_numbers-else-seen-eq0.ensures refl refl refl

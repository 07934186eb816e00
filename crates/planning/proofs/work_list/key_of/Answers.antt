-- `planning::work_list::key_of` meets its contract. Assumes nothing.
use native.Mathlib.Omega.{arith}
use borrow.Author.Tests.{eq-eqb, ne_eqb}
use Rattle.planning.proofs.work_list.key_of.Goals as goal

pub returns-then-kind-eq4 : goal.returns-then-kind-eq4
returns-then-kind-eq4 c = rw (eq-eqb _ 4 c.if-kind-eq4.true)

pub returns-else-kind-eq4 : goal.returns-else-kind-eq4
returns-else-kind-eq4 c = rw (ne_eqb _ 4 c.if-kind-eq4.false) (omega arith)

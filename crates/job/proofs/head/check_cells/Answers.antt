-- Each way out is the ladder of the checks, read to the one that answers. Assumes nothing.
use Rattle.std.proofs.Common.{◌∙◌}
use borrow.Author.Tests.{eq-eqb, ne_eqb, le-leb, lt-leb}
use Rattle.lists.specs.Refusals.{answers, accepted, refused, ◌then◌}
use Rattle.job.specs.JobFacts.{within_most}
use Rattle.job.proofs.head.check_cells.Goals as goal

pub returns-then-bytes-cells : goal.returns-then-bytes-cells
returns-then-bytes-cells c = answers (refused (ne_eqb _ _ c.if-bytes-cells.true))

pub returns-then-most-cells : goal.returns-then-most-cells
returns-then-most-cells c = answers (eq-eqb _ _ c.if-bytes-cells.false then refused (within_most _ _ c.unwrap_or-most.ensures ∙ lt-leb _ _ c.if-most-cells.true))

pub returns : goal.returns
returns c = answers (eq-eqb _ _ c.if-bytes-cells.false then (within_most _ _ c.unwrap_or-most.ensures ∙ le-leb _ _ c.if-most-cells.false) then accepted)

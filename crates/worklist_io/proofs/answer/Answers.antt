-- The bytes read first are refused, or there are 7 and they say how many cells. Assumes nothing.
use Rattle.std.proofs.Common.{arith, refl, sym, ap, ◌∙◌}
use Rattle.job.proofs.HeadFacts.{cells_said, refused_said}
use Rattle.worklist_text.specs.Text.{refused_line}
use Rattle.worklist_io.specs.AnswersFacts.{came_seven, wrong_answers}
use Rattle.worklist_io.proofs.answer.Goals as goal

pub small_answer-requires : goal.small_answer-requires
small_answer-requires g c =
    let came = c.read_some-came in
    (c.if-cells-le-MOST_WORKLIST_CELLS.true, came_seven came.new.piece came.result (omega (arith, came.ensures)) (omega (arith, came.ensures)) (cells_said (sym c.in-Ok.ensures)))

pub large_answer-requires : goal.large_answer-requires
large_answer-requires g c =
    let came = c.read_some-came in (
      c.if-cells-le-MOST_WORKLIST_CELLS.false,
      omega (arith, c.told-bytes),
      came_seven came.new.piece came.result (omega (arith, came.ensures)) (omega (arith, came.ensures)) (cells_said (sym c.in-Ok.ensures)),
    )

pub returns-in-Err : goal.returns-in-Err
returns-in-Err g c =
    let came = c.read_some-came in
    let said = refused_said _ (sym c.in-Err.ensures) in
    wrong_answers _ _ _ (omega (arith, came.ensures)) (omega (arith, came.ensures)) refl said.0 said.1 (c.write_refused.ensures ∙ ap refused_line c.number.ensures)

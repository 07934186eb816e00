-- Assumes nothing.
use Rattle.std.proofs.Common.{arith, refl, ap, sym, ◌∙◌}
use Rattle.job.specs.Answers.{told}
use Rattle.worklist_text.specs.Text.{refused_line}
use Rattle.worklist_io.specs.AnswersFacts.{turned_down, large_answers}
use Rattle.worklist_io.proofs.large_answer.Goals as goal

pub unwrap_err-refusal-requires : goal.unwrap_err-refusal-requires
unwrap_err-refusal-requires g c = turned_down _ _ _ c.check_size.ensures c.requires.0

pub returns : goal.returns
returns g c =
    let number = c.number.ensures ∙ ap told (sym c.unwrap_err-refusal.ensures) ∙ c.check_size.ensures in
    large_answers _ _ _ c.requires.2 c.requires.0 (omega arith) (omega (arith, c.skip-came.ensures)) c.requires.1 refl (c.write_refused.ensures ∙ ap refused_line number)

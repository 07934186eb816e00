-- The first 7 bytes stay where they are. Assumes nothing.
use Rattle.std.proofs.Common.{arith, refl, length-append, length-take-le}
use Rattle.worklist_io.specs.AnswersFacts.{says_still, small_answers}
use Rattle.worklist_io.proofs.small_answer.Goals as goal

pub returns : goal.returns
returns g c =
    let more = c.read_some-came in
    let seven = length-take-le 7 c.args.bytes.now (omega (arith, c.told-bytes)) in
    small_answers _ _ _ (says_still c.args.bytes.now _ (omega (arith, c.told-bytes)) c.requires.1) (omega arith) (omega (arith, more.ensures))
    (simp length-append (omega (arith, more.ensures, seven))) refl c.write_worklist.ensures

-- See Invariants.antt. Assumes nothing.
use Rattle.std.proofs.Common.{◌≡◌, ◌*◌, length, arith, refl, ap, ◌∙◌}
use Rattle.std.proofs.Math.Seq.{sets, length-sets}
use Rattle.replay.specs.Laws.{calls_none, calls_more, length_calls, going_none, going_more, stepped, stored_is, four}
use Rattle.replay.proofs.play_calls.Goals as goal

pub loop-k-init : goal.loop-k-init
loop-k-init c = (omega arith, refl, record { matrix = refl; entries = record { rows = refl; columns = refl; values = refl }; answers = refl }, rw calls_none (going_none _ _ _ _ _))

pub loop-k-preserved : goal.loop-k-preserved
loop-k-preserved c =
    let inv = c.loop-k.invariant in
    let step = rw c.call-call.ensures at c.play-answer.ensures.answered in
    let long : length c.copy_from_slice.new.self ≡ 4 = ap length (c.copy_from_slice.ensures.after ∙ step.answer) ∙ four _ in
    let stored = stored_is c.loop-k.written.answers.now c.copy_from_slice.new.self (4 * c.loop-k.k) (omega (arith, inv.1, c.count-k-end.ensures.room.1, c.loop-k-test.true)) long in
    let same = c.play-answer.ensures.same in (
      omega (arith, c.loop-k-test.true),
      ap length stored ∙ length-sets c.loop-k.written.answers.now (4 * c.loop-k.k) c.copy_from_slice.new.self ∙ inv.1,
      record {
        matrix = inv.2.matrix;
        entries = record { rows = same.rows ∙ inv.2.entries.rows; columns = same.columns ∙ inv.2.entries.columns; values = same.values ∙ inv.2.entries.values };
        answers = inv.2.answers;
      },
      rw calls_more (going_more _ _ _ _ _ _ _ _ _ _ _ _ _ _ (length_calls _ _ _) inv.3 (stepped step (stored ∙ ap (sets c.loop-k.written.answers.now (4 * c.loop-k.k)) c.copy_from_slice.ensures.after))),
    )

pub returns : goal.returns
returns c =
    let end : c.loop-k.k ≡ c.count-k-end.result = omega arith in
    record { going = rw (end, c.count-k-end.ensures.value) at c.loop-k.invariant.3; same = c.loop-k.invariant.2 }

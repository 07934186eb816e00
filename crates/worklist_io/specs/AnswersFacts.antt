-- The three ways to the text, each by what its calls say. Assumes nothing.
use Rattle.std.specs.Prelude.{ℕ, ◌+◌, ◌*◌, ◌≤◌, ◌<◌, ◌≡◌, List, ◌++◌, length, take, Result, Ok, Err, IsErr}
use Rattle.std.proofs.Common.{arith, refl, sym, ap, ◌∙◌, length-take-le, take_all, take_at, take-take}
use Rattle.job.specs.declared.refusal.JobRefusal.{JobRefusal}
use Rattle.job.specs.Answers.{told}
use Rattle.job.specs.Head.{read_head, head_number, Says, size_refusal}
use Rattle.job.specs.Job.{most_worklist_cells}
use Rattle.job.proofs.HeadFacts.{head_alone, says_long, enough_seven, size_refused}
use Rattle.worklist_text.specs.Text.{refused_line, worklist}
use Rattle.worklist_text.specs.WorklistFacts.{head_wrong_text, head_large_text}
use Rattle.worklist_io.specs.declared.Answered.{Answered}
use Rattle.worklist_io.specs.Answers.{Answers}

-- the bytes read say C: there are 7
pub came_seven : (bytes : List ℕ) (n : ℕ) {C : ℕ} → n ≤ 7 → n ≤ length bytes → Says (read_head (take n bytes)) C → Says (read_head (take 7 bytes)) C
came_seven bytes n h room says =
    let seven : n ≡ 7 = omega (arith, says_long (take n bytes) says, length-take-le n bytes room) in
    rw seven at says

-- the first 7 stay, and others are read behind them
pub says_still : (bytes more : List ℕ) {C : ℕ} → 7 ≤ length bytes → Says (read_head (take 7 bytes)) C → Says (read_head (take 7 (take 7 bytes ++ more))) C
says_still bytes more h says = rw (take_at (take 7 bytes) more 7 (length-take-le 7 bytes h)) says

-- all are kept
all_kept : (came bytes : List ℕ) {n : ℕ} → length came ≡ n → take n came ≡ take n bytes → came ≡ take n bytes
all_kept came bytes {n} long e = sym (take_all n came (omega arith)) ∙ e

-- more than 64 cells are turned down
pub turned_down : (r : Result (Unit {0}) JobRefusal) (C n : ℕ) → told r ≡ size_refusal C n → most_worklist_cells < C → IsErr r
turned_down (Ok _) C n e large = absurd (omega (arith, e, size_refused C n large))
turned_down (Err _) C n e large = refl

module _ (bytes text : List ℕ) (r : Answered) where
  -- the first 7 are refused
  pub wrong_answers : {v : ℕ} → r.came ≤ 7 → r.came ≤ length bytes → r.kept ≡ r.came → head_number (read_head (take r.came bytes)) ≡ v → 0 < v
      → text ≡ refused_line v → Answers bytes text r
  wrong_answers h room kept e wrong s =
      record {
        shown =
            λ came long same.
            let whole = all_kept came bytes long (rw kept at same) in
            let seven : take 7 came ≡ take r.came bytes = take_all 7 came (omega arith) ∙ whole in
            s ∙ head_wrong_text came (ap (λ (k : List ℕ). head_number (read_head k)) seven ∙ e) wrong;
        among = omega (arith, kept);
        room = rw kept room;
        few = omega (arith, h, enough_seven (read_head (take r.kept bytes)));
      }

  module _ {C : ℕ} (says : Says (read_head (take 7 bytes)) C) where
    -- they say C, and all are kept
    pub small_answers : 7 ≤ r.came → r.came ≤ 20 + 12 * C → r.came ≤ length bytes → r.kept ≡ r.came → text ≡ worklist (take r.came bytes) → Answers bytes text r
    small_answers h few room kept s =
        let front = take r.came bytes in
        let head : read_head front ≡ read_head (take 7 bytes) = sym (head_alone front) ∙ ap read_head (take-take 7 r.came bytes h) in
        record {
          shown = λ came long same. s ∙ ap worklist (sym (all_kept came bytes long (rw kept at same)));
          among = omega (arith, kept);
          room = rw kept room;
          few = rw (kept, head, says.number, says.cells) few;
        }

    -- they say more than 64 cells, and they alone are kept
    pub large_answers : most_worklist_cells < C → 7 ≤ r.came → r.came ≤ 20 + 12 * C → 7 ≤ length bytes → r.kept ≡ 7 → text ≡ refused_line (size_refusal C r.came)
        → Answers bytes text r
    large_answers large h few room kept s =
        record {
          shown =
              λ came long same.
              let head : take 7 came ≡ take 7 bytes = rw kept at same in
              s ∙ rw (← long) (head_large_text came (rw head says) large);
          among = rw kept h;
          room = rw kept room;
          few = rw (kept, says.number, says.cells) few;
        }

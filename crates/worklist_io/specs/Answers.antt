-- What the program says of the text that it prints. What is read is outside every contract, so it speaks of the bytes that came. Assumes nothing.
use Rattle.std.specs.Prelude.{◌*◌, ◌+◌, ◌≤◌, ℕ, ◌≡◌, List, length, take}
use Rattle.job.specs.Head.{read_head, enough_bytes}
use Rattle.job.specs.Job.{most_worklist_cells}
use Rattle.worklist_text.specs.Text.{worklist}
use Rattle.worklist_io.specs.declared.Answered.{Answered}

-- the most bytes that are kept: one more than the largest job has
abbrev pub most_bytes : ℕ
most_bytes = 20 + 12 * most_worklist_cells

-- whatever the bytes that came, if so many did and those that are kept stand in the list, the text is theirs; such bytes there are, as the kept ones are
-- among those that came and have room in the list; and no more came than are enough (`enough_text`)
pub record Answers (bytes text : List ℕ) (r : Answered) : Type 0 where
  pub shown : (came : List ℕ) → length came ≡ r.came → take r.kept came ≡ take r.kept bytes → text ≡ worklist came
  pub among : r.kept ≤ r.came
  pub room : r.kept ≤ length bytes
  pub few : r.came ≤ enough_bytes (read_head (take r.kept bytes))

-- The text of what planning answers, and how long it can be. Assumes nothing.
use Rattle.std.specs.Prelude.{ℕ, zero, suc, ◌*◌}
use mathlib.Core.List.{List, flat_map}
use Rattle.job.specs.Job.{most_worklist_cells}
use Rattle.plans.specs.Planning.{Planning, Lists, lists_for, plan_refusal, work_records}
use Rattle.worklist_text.specs.Text.{line_of, refused_line}

abbrev pub answer_text : ℕ → Planning → List ℕ
answer_text zero x = flat_map line_of (work_records x)
answer_text (suc n) x = refused_line (suc n)

unfoldable pub planned_text : Planning → Lists → List ℕ
planned_text x l = answer_text (plan_refusal x l) x

-- with lists of the right lengths
abbrev pub right_text : Planning → List ℕ
right_text x = planned_text x (lists_for x)

-- the most bytes of the text, 49,152: a line of at most 12 bytes for each pair of cells
abbrev pub most_text : ℕ
most_text = 12 * (most_worklist_cells * most_worklist_cells)

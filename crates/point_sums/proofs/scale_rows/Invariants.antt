-- `point_sums::scale_rows` meets its contract: the invariant is that those passed are right. Assumes nothing.
use Rattle.std.specs.Prelude.{ℕ, Float}
use Rattle.std.specs.Float.{nan}
use Rattle.lists.specs.Maps.{Mapped}
use Rattle.numbers.specs.Floats.{◌⊗◌}
use Rattle.table.specs.Views.{row_of}
use Rattle.point_sums.proofs.scale_rows.Given as goal

abbrev pub invariant-loop-b : goal.invariant-loop-b
invariant-loop-b l = Mapped nan 0 l.b (λ (b : ℕ) (x : Float). l.c ⊗ row_of l.table b 0) l.initial.scaled l.scaled

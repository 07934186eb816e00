-- `point_sums::add_values` meets its contract: the invariants are that the columns passed are added, and the entries passed of one more. Assumes nothing.
use Rattle.std.specs.Prelude.{◌≡◌, ℕ, ◌*◌, ◌<◌, length, Float}
use Rattle.std.specs.Float.{nan}
use Rattle.lists.specs.Maps.{Mapped}
use Rattle.numbers.specs.Floats.{◌⊕◌}
use Rattle.integrands.specs.Columns.{Added}
use Rattle.point_sums.specs.Weights.{weighed}
use Rattle.point_sums.proofs.add_values.Given as goal

abbrev pub invariant-loop-j : goal.invariant-loop-j
invariant-loop-j g l =
    record {
      size : length l.entries ≡ 100;
      added : (u : ℕ → ℕ → Float)
          → ((i j : ℕ) (t : _) (x : Float) → i < l.pair.test.table.dim → j < l.pair.trial.table.dim → goal.B-post g l.brings j t → goal.V-post g l.value i t x → x ≡ u i j)
          → Added l.pair.test.table.dim l.j l.initial.entries l.entries (λ (i j : ℕ). weighed l.pair.weight (u i j));
    }

abbrev pub invariant-loop-i : goal.invariant-loop-i
invariant-loop-i g l =
    record {
      size : length l.entries ≡ 100;
      mapped : (h : ℕ → Float) → ((i : ℕ) (x : Float) → i < l.test_dim → goal.V-post g l.value i l.t x → x ≡ h i)
          → Mapped nan (l.test_dim * l.j) l.i (λ (i : ℕ) (s : Float). s ⊕ weighed l.weight (h i)) l.initial.entries l.entries;
    }

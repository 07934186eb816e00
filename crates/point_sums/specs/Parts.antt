-- What each test basis function brings, number by number. Assumes nothing.
use Rattle.std.specs.Prelude.{ℕ, ◌<◌, ◌≡◌, length}
use Rattle.numbers.specs.Floats.{◌!◌}
use Rattle.function.specs.Elements.{most_dim}
use Rattle.integrands.specs.declared.Part.{Part}
use Rattle.integrands.specs.declared.Point.{Point}
use Rattle.integrands.specs.Parts.{curls}
use Rattle.table.specs.Views.{row_of}
use Rattle.point_sums.specs.declared.Parts.{Parts}

pub record Long (s : Parts) : Type 0 where
  pub x0 : length s.x0 ≡ most_dim
  pub x1 : length s.x1 ≡ most_dim
  pub x2 : length s.x2 ≡ most_dim

-- basis function b
abbrev pub part_at : Parts → ℕ → Part
part_at s b = record { x0 = s.x0 ! b; x1 = s.x1 ! b; x2 = s.x2 ! b }

-- the curls of each test basis function
pub record Turned (test : Point) (s : Parts) : Type 0 where
  pub long : Long s
  pub right : (b : ℕ) → b < test.table.dim → part_at s b ≡ curls test.geometry (row_of test.table b)

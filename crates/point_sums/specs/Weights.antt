-- How a point value is weighed. Assumes nothing.
use Rattle.std.specs.Prelude.{Float}
use Rattle.numbers.specs.Floats.{◌⊗◌}
use Rattle.point_sums.specs.declared.Weight.{Weight}

-- value·w·v
abbrev pub weighed : Weight → Float → Float
weighed weight x = x ⊗ weight.w ⊗ weight.v

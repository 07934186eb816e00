-- `triangle_patterns::pattern_at` meets its contract: each arm has the bits of its case. Assumes nothing.
use native.Mathlib.Omega.{arith}
use Rattle.triangle_patterns.specs.Written.{arm, last_arm}
use Rattle.triangle_patterns.proofs.pattern_at.Goals as goal

pub returns-in-15 : goal.returns-in-15
returns-in-15 c = (arm c.requires c.in-15.is, omega arith)

pub returns-in-51 : goal.returns-in-51
returns-in-51 c = (arm c.requires c.in-51.is, omega arith)

pub returns-in-60 : goal.returns-in-60
returns-in-60 c = (arm c.requires c.in-60.is, omega arith)

pub returns-in-31 : goal.returns-in-31
returns-in-31 c = (arm c.requires c.in-31.is, omega arith)

pub returns-in-55 : goal.returns-in-55
returns-in-55 c = (arm c.requires c.in-55.is, omega arith)

pub returns-in-61 : goal.returns-in-61
returns-in-61 c = (arm c.requires c.in-61.is, omega arith)

pub returns-in-47 : goal.returns-in-47
returns-in-47 c = (arm c.requires c.in-47.is, omega arith)

pub returns-in-59 : goal.returns-in-59
returns-in-59 c = (arm c.requires c.in-59.is, omega arith)

pub returns-in-62 : goal.returns-in-62
returns-in-62 c = (arm c.requires c.in-62.is, omega arith)

pub returns-in-54 : goal.returns-in-54
returns-in-54 c = (arm c.requires c.in-54.is, omega arith)

pub returns-in-57 : goal.returns-in-57
returns-in-57 c = (arm c.requires c.in-57.is, omega arith)

pub returns-in-30 : goal.returns-in-30
returns-in-30 c = (arm c.requires c.in-30.is, omega arith)

pub returns-in-45 : goal.returns-in-45
returns-in-45 c = (arm c.requires c.in-45.is, omega arith)

pub returns-in-27 : goal.returns-in-27
returns-in-27 c = (arm c.requires c.in-27.is, omega arith)

pub returns-in-39 : goal.returns-in-39
returns-in-39 c = (arm c.requires c.in-39.is, omega arith)

pub returns-in-50 : goal.returns-in-50
returns-in-50 c = (arm c.requires c.in-50.is, omega arith)

pub returns-in-56 : goal.returns-in-56
returns-in-56 c = (arm c.requires c.in-56.is, omega arith)

pub returns-in-14 : goal.returns-in-14
returns-in-14 c = (arm c.requires c.in-14.is, omega arith)

pub returns-in-44 : goal.returns-in-44
returns-in-44 c = (arm c.requires c.in-44.is, omega arith)

pub returns-in-11 : goal.returns-in-11
returns-in-11 c = (arm c.requires c.in-11.is, omega arith)

pub returns-in-35 : goal.returns-in-35
returns-in-35 c = (arm c.requires c.in-35.is, omega arith)

pub returns-in-49 : goal.returns-in-49
returns-in-49 c = (arm c.requires c.in-49.is, omega arith)

pub returns-in-52 : goal.returns-in-52
returns-in-52 c = (arm c.requires c.in-52.is, omega arith)

pub returns-in-13 : goal.returns-in-13
returns-in-13 c = (arm c.requires c.in-13.is, omega arith)

pub returns-in-28 : goal.returns-in-28
returns-in-28 c = (arm c.requires c.in-28.is, omega arith)

pub returns-in-7 : goal.returns-in-7
returns-in-7 c = (arm c.requires c.in-7.is, omega arith)

pub returns-in-19 : goal.returns-in-19
returns-in-19 c = (arm c.requires c.in-19.is, omega arith)

pub returns-in_default : goal.returns-in_default
returns-in_default c = last_arm c.requires c.in_default.in_default-own.rest _ c.all_three.ensures

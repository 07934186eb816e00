-- What the arguments of `plan` stand for. Assumes nothing.
use Rattle.grid.specs.Mesh.{Mesh}
use Rattle.plans.specs.Planning.{Planning, planning_of}
use Rattle.planning.specs.declared.Assembly.{Assembly}

abbrev pub planning_with : Mesh → Assembly → Planning
planning_with m a = planning_of m a.test a.trial a.batch a.integrand

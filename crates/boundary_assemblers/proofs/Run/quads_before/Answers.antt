-- `boundary_assemblers::Run::quads_before` meets its contract: of one kind alone there is nothing to count. Assumes nothing.
use native.Mathlib.Omega.{arith}
use mathlib.Core.Path.{sym, ap, ◌∙◌}
use Prim.Native.Nat.{ℕ}
use lib.ListN.{take, length-take}
use lib.Seq.{length-take-le}
use Rattle.grid.specs.Mesh.{cells_of}
use Rattle.boundary_assemblers.specs.KindPlaces.{kinds_part}
use Rattle.boundary_assemblers.specs.RunFacts.{none_before, all_before}
use Rattle.boundary_assemblers.proofs.Run.quads_before.Goals as goal

pub returns-then-n-eq0 : goal.returns-then-n-eq0
returns-then-n-eq0 c = none_before c.requires.0 _ c.requires.1 c.if-n-eq0.true

pub returns-then-n-eq0-2 : goal.returns-then-n-eq0-2
returns-then-n-eq0-2 c = all_before c.requires.0 _ c.requires.1 c.if-n-eq0-2.true

pub slice_bounds-count_kind-end : goal.slice_bounds-count_kind-end
slice_bounds-count_kind-end c =
    sym (length-take-le c.wide.result c.args.kinds.now (omega (arith, c.wide.ensures, c.requires.0.kinded.long, c.requires.1)))

pub count_kind-requires : goal.count_kind-requires
count_kind-requires c =
    omega (arith, length-take c.wide.result c.args.kinds.now, c.wide.ensures, c.requires.0.cells, c.requires.1)

pub returns : goal.returns
returns c =
    c.count_kind.ensures ∙ ap (λ (i : ℕ). cells_of (take i c.args.kinds.now) 4) c.wide.ensures ∙ kinds_part _ 4 _ (omega (arith, c.requires.0.kinded.long, c.requires.1))

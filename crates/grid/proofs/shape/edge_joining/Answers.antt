-- `grid::shape::edge_joining` meets its contract: the first edge that joins the two. Assumes nothing.
use Rattle.std.proofs.Common.{rules}
use borrow.Author.Tests.{tests}
use native.Mathlib.Omega.{arith}
use Rattle.std.proofs.lemmas.Iterator.{IsFirst-from_position, YieldsList-from_slice}
use mathlib.Core.Bool.{true, false}
use mathlib.Core.Path.{◌≡◌, sym}
use Rattle.grid.specs.Cells.{same_two, edge_joining}
use Rattle.grid.specs.EdgesFacts.{IsEdge, edge_told}
use Rattle.grid.proofs.shape.edge_joining.Goals as goal
use Rattle.grid.proofs.shape.edge_joining.Goals.{After-position}

-- as the search answers
told : (c : After-position) → IsEdge c.position.result (edge_joining c.args.n c.args.a c.args.b) c.args.n
told c =
    let joins = λ (y : _). same_two y.0 y.1 c.args.a c.args.b in
    edge_told c.args.n c.args.a c.args.b c.requires.0 c.requires.1 c.edges_of.ensures c.position.result
    (IsFirst-from_position _ _ _ (λ y. joins y ≡ true) (λ y. joins y ≡ false) c.position.ensures.ran (YieldsList-from_slice c.edges_of.result.now c.iter.ensures.rest) (λ x q k. search (rules, tests)) (λ x q k. search (rules, tests)))

pub returns-in-Some : goal.returns-in-Some
returns-in-Some c =
    let e = rw c.in-Some.is at (told (goal.at.returns-in-Some c).After-position) in
    (e.0, omega (arith, e.1, c.requires.1))

pub returns-in-None : goal.returns-in-None
returns-in-None c =
    let e = rw c.in-None.is at (told (goal.at.returns-in-None c).After-position) in
    (sym e, c.requires.1)

-- `grid::checks::mesh_refusal` meets its contract: each way out is the ladder of the checks, read to the one that answers. Assumes nothing.
use native.Mathlib.Omega.{arith}
use mathlib.Core.Path.{◌≡◌, sym, ◌∙◌}
use Rattle.lists.specs.Refusals.{answers, accepted, refused, ◌then◌}
use Rattle.numbers.specs.Ranges.{within, within_high, contains_within}
use Rattle.grid.specs.Lent.{mesh_lent}
use Rattle.grid.specs.Mesh.{most_cells, cells_right, kinds_right, corners}
use Rattle.grid.specs.Facts.{shaped, kinds_long_lem, places_by, vertices_by, vertices_below}
use Rattle.grid.proofs.checks.mesh_refusal.Goals as goal
use Rattle.grid.proofs.checks.mesh_refusal.Goals.{After-contains}

in_range : (c : After-contains) → c.contains.result ≡ within 1 most_cells c.args.mesh.sizes.cells
in_range c =
    rw (c.new.ensures.start, c.new.ensures.end, c.new.ensures.exhausted, c.wide.ensures) at c.contains.ensures.value ∙ contains_within _ _ _

pub places_right-requires : goal.places_right-requires
places_right-requires c =
    let cells = sym (in_range (goal.at.places_right-requires c).After-contains) ∙ c.if-not-contains.false in
    let kinds = sym c.kinds_right.ensures ∙ c.if-not-kinds_right.false in
    omega (arith, within_high 1 most_cells c.args.mesh.sizes.cells cells, kinds_long_lem _ _ kinds)

pub vertices_right-requires : goal.vertices_right-requires
unfolding cells_right kinds_right
vertices_right-requires c =
    let cells = sym (in_range (goal.at.vertices_right-requires c).After-contains) ∙ c.if-not-contains.false in
    let kinds = sym c.kinds_right.ensures ∙ c.if-not-kinds_right.false in
    let places = sym (places_by _ kinds c.places_right.ensures) ∙ c.if-not-places_right.false in
    shaped (mesh_lent c.args.mesh) cells kinds places

pub edges_right-requires : goal.edges_right-requires
unfolding cells_right kinds_right corners
edges_right-requires c =
    let m = mesh_lent c.args.mesh in
    let cells = sym (in_range (goal.at.edges_right-requires c).After-contains) ∙ c.if-not-contains.false in
    let kinds = sym c.kinds_right.ensures ∙ c.if-not-kinds_right.false in
    let places = sym (places_by _ kinds c.places_right.ensures) ∙ c.if-not-places_right.false in
    let vertices = sym (vertices_by _ kinds c.vertices_right.ensures) ∙ c.if-not-vertices_right.false in
    record { shaped = (shaped m cells kinds places, vertices_below m vertices); kinds_len = kinds_long_lem m.cells m.kinds kinds }

pub returns-then-not-contains : goal.returns-then-not-contains
unfolding cells_right
returns-then-not-contains c =
    answers (refused (sym (in_range (goal.at.returns-then-not-contains c).After-contains) ∙ c.if-not-contains.true))

pub returns-then-not-kinds_right : goal.returns-then-not-kinds_right
unfolding cells_right kinds_right
returns-then-not-kinds_right c =
    let cells = sym (in_range (goal.at.returns-then-not-kinds_right c).After-contains) ∙ c.if-not-contains.false in
    answers (cells then refused (sym c.kinds_right.ensures ∙ c.if-not-kinds_right.true))

pub returns-then-not-places_right : goal.returns-then-not-places_right
unfolding cells_right kinds_right
returns-then-not-places_right c =
    let cells = sym (in_range (goal.at.returns-then-not-places_right c).After-contains) ∙ c.if-not-contains.false in
    let kinds = sym c.kinds_right.ensures ∙ c.if-not-kinds_right.false in
    answers (cells then kinds then refused (sym (places_by _ kinds c.places_right.ensures) ∙ c.if-not-places_right.true))

pub returns-then-not-vertices_right : goal.returns-then-not-vertices_right
unfolding cells_right kinds_right corners
returns-then-not-vertices_right c =
    let cells = sym (in_range (goal.at.returns-then-not-vertices_right c).After-contains) ∙ c.if-not-contains.false in
    let kinds = sym c.kinds_right.ensures ∙ c.if-not-kinds_right.false in
    let places = sym (places_by _ kinds c.places_right.ensures) ∙ c.if-not-places_right.false in
    answers (cells then kinds then places then refused (sym (vertices_by _ kinds c.vertices_right.ensures) ∙ c.if-not-vertices_right.true))

pub returns-then-not-edges_right : goal.returns-then-not-edges_right
unfolding cells_right kinds_right corners
returns-then-not-edges_right c =
    let cells = sym (in_range (goal.at.returns-then-not-edges_right c).After-contains) ∙ c.if-not-contains.false in
    let kinds = sym c.kinds_right.ensures ∙ c.if-not-kinds_right.false in
    let places = sym (places_by _ kinds c.places_right.ensures) ∙ c.if-not-places_right.false in
    let vertices = sym (vertices_by _ kinds c.vertices_right.ensures) ∙ c.if-not-vertices_right.false in
    answers (cells then kinds then places then vertices then refused (sym c.edges_right.ensures ∙ c.if-not-edges_right.true))

pub returns : goal.returns
unfolding cells_right kinds_right corners
returns c =
    let cells = sym (in_range (goal.at.returns c).After-contains) ∙ c.if-not-contains.false in
    let kinds = sym c.kinds_right.ensures ∙ c.if-not-kinds_right.false in
    let places = sym (places_by _ kinds c.places_right.ensures) ∙ c.if-not-places_right.false in
    let vertices = sym (vertices_by _ kinds c.vertices_right.ensures) ∙ c.if-not-vertices_right.false in
    let edges = sym c.edges_right.ensures ∙ c.if-not-edges_right.false in
    answers (cells then kinds then places then vertices then edges then accepted)

-- A function space on the mesh that a call is lent. Assumes nothing.
use Rattle.grid.specs.declared.Mesh.{Mesh}
use Rattle.function.specs.declared.Elements.{Elements}
use Rattle.function.specs.Elements.{Space}

abbrev pub space_lent : Mesh → Elements → Space
space_lent m elements =
    record { kinds = m.kinds.now; cell_vertices = m.cell_vertices.now; cell_edges = m.cell_edges.now; elements = elements }

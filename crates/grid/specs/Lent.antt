-- The mesh that a call is lent, as `Mesh` of grid says it: its lists are what the references point to. Assumes nothing.
use Rattle.grid.specs.declared.Mesh.{Mesh as LentMesh}
use Rattle.grid.specs.Mesh.{Mesh, mesh_with}

abbrev pub mesh_lent : LentMesh → Mesh
mesh_lent m = mesh_with m.sizes m.kinds.now m.cell_vertices.now m.cell_edges.now

-- The elements, one for each kind of cell: local DOFs, and check 4; a function space. Assumes nothing.
use Rattle.std.specs.Prelude.{ℕ, ◌+◌, ◌*◌, Bool, cond, List, [], ◌∷◌, eqb}
use Rattle.lists.specs.Bool.{◌and◌, ◌or◌, every}
use Rattle.numbers.specs.Ranges.{within}
use Rattle.function.specs.declared.Element.{Element}
use Rattle.function.specs.declared.Elements.{Elements}

-- a DOFs per vertex, b per edge, c per cell: a cell of kind n, which has n vertices and n edges, has na + nb + c local DOFs
unfoldable pub dim_of : Element → ℕ → ℕ
dim_of e n = n * e.a + n * e.b + e.c

-- a triangle's dim: 3a + 3b + c
abbrev pub dim : Element → ℕ
dim e = dim_of e 3

-- the element of cells of kind n
unfoldable pub element_of : Elements → ℕ → Element
element_of es n = cond (eqb n 3) es.triangle es.quad

-- so a cell of kind n has so many local DOFs
abbrev pub cell_dim : Elements → ℕ → ℕ
cell_dim es n = dim_of (element_of es n) n

-- the same element for both kinds: what a mesh of triangles alone is given, where the quad's is not read
abbrev pub alike : Element → Elements
alike e = record { triangle = e; quad = e }

abbrev pub most_dim : ℕ
most_dim = 10

-- 4, of one side of a mesh with so many triangles and quads: the dim of each kind present is from 1 to 10 and, where both are present, a and b are the same
-- in their elements. The element of a kind that is not present is not read
unfoldable pub elements_right : ℕ → ℕ → Elements → Bool
elements_right triangles quads es =
    every ((eqb triangles 0 or within 1 most_dim (cell_dim es 3))
    ∷ (eqb quads 0 or within 1 most_dim (cell_dim es 4))
    ∷ (eqb triangles 0 or eqb quads 0 or (eqb es.triangle.a es.quad.a and eqb es.triangle.b es.quad.b))
    ∷ [])

-- 4: each side by itself
unfoldable pub dims_right : ℕ → ℕ → Elements → Elements → Bool
dims_right triangles quads test trial = elements_right triangles quads test and elements_right triangles quads trial

-- A function space: the kinds of a mesh's cells, its vertex list and its edge list, and the elements on it
pub record Space : Type 0 where
  pub kinds : List ℕ
  pub cell_vertices : List ℕ
  pub cell_edges : List ℕ
  pub elements : Elements

-- The colours (`cell_colouring`). Cells rise; each takes the smallest colour that no earlier cell sharing an entity of the dimension has.
-- Assumes nothing.
use Rattle.std.specs.Prelude.{ℕ, zero, suc, max, ◌≤◌, Bool, not, cond, ◌≡◌, List, [], ◌∷◌, ◌++◌, length, get_or, eqb, ltb}
use Rattle.lists.specs.Bool.{◌and◌}
use Rattle.lists.specs.Bounded.{some, least}
use Rattle.grid.specs.Cells.{share_in}
use Rattle.grid.specs.CellsFacts.{Shaped}
use Rattle.grid.specs.Mesh.{most_cells, most_vertices, most_edges, kinds_present}
use Rattle.grid.specs.declared.Sizes.{Sizes}
use Rattle.cells_by_key.specs.Groups.{Below}
use Rattle.function.specs.declared.Element.{Element}
use Rattle.function.specs.Elements.{element_of, Space}

-- an earlier cell that shares with cell i, by the relation r, has colour c of the colours cs
unfoldable pub taken : (ℕ → ℕ → Bool) → List ℕ → ℕ → ℕ → Bool
taken r cs i c = some i (λ j. r i j and eqb (get_or cs j 0) c)

-- the smallest colour that is not taken. There are i earlier cells, so one of the colours 0 to i is not
unfoldable pub smallest : (ℕ → ℕ → Bool) → List ℕ → ℕ → ℕ
smallest r cs i = least i (λ c. not (taken r cs i c))

-- the colours of the first n cells
unfoldable pub colours_to : (ℕ → ℕ → Bool) → ℕ → List ℕ
colours_to r zero = []
colours_to r (suc n) = colours_to r n ++ (smallest r (colours_to r n) n ∷ [])

-- the element of the first kind present (of no cells, the triangle's), from which the dimension is read
abbrev pub leading : Space → Element
leading s = element_of s.elements (get_or (kinds_present s.kinds) 0 3)

-- it is 0 if a > 0, else 1 if b > 0, else 2, where the entity of a cell is the cell itself
abbrev pub sharing : Space → ℕ → ℕ → Bool
sharing s = cond (ltb 0 (leading s).a) (share_in s.kinds s.cell_vertices) (cond (ltb 0 (leading s).b) (share_in s.kinds s.cell_edges) eqb)

-- the colours of C cells
unfoldable pub colour_list : Space → ℕ → List ℕ
colour_list s C = colours_to (sharing s) C

-- how many colours a list of colours has: one more than the largest
unfoldable pub colour_count : List ℕ → ℕ
colour_count [] = 0
colour_count (c ∷ cs) = max (suc c) (colour_count cs)

-- what `cell_colouring` asks of its lists: the own numbers of each cell, each below the number of vertices or of edges, and one place for each colour
pub record Colourable (s : Sizes) (kinds vertices edges colours : List ℕ) : Type 0 where
  pub cells : s.cells ≤ most_cells
  pub few_vertices_holds : s.vertices ≤ most_vertices
  pub few_edges_holds : s.edges ≤ most_edges
  pub kind_list : length kinds ≡ s.cells
  pub vertex_list_holds : Shaped kinds vertices
  pub edge_list_holds : Shaped kinds edges
  pub vertices_below : Below vertices s.vertices
  pub edges_below : Below edges s.edges
  pub places : length colours ≡ s.cells

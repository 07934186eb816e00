-- Cells as lists of numbers, and where each begins in a flat list (`Cells`), the mesh with checks 1, 26, 2 and 3 (`Mesh`), and the meshes of the examples
-- (`Examples`); the mesh that a call is lent (`Lent`). Four numbers a cell in a flat list, as code reads the cells (`Rows`). Laws: of parts of a flat list and
-- of cells that share a number (`CellsFacts`), of rows (`RowsFacts`), of local edges (`EdgesFacts`), of a mesh that the checks pass (`Facts`), of the kinds of its
-- cells (`KindsFacts`), of the edge rule by keys (`EdgeRule`).
pub mod Cells
pub mod CellsFacts
pub mod Rows
pub mod RowsFacts
pub mod EdgesFacts
pub mod Mesh
pub mod Lent
pub mod Facts
pub mod KindsFacts
pub mod EdgeRule
pub mod Examples

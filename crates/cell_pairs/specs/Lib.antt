-- A record of the work list (`Records`), the vertices that two cells share and the pattern formula of triangles (`Matches`), the 27 cases of one and of two shared
-- vertices (`Cases`), the table of the patterns of triangles and quads (`Table`), the pattern of two cells check 7 and the test of cells with the same vertices (`Patterns`), the work list with S and N
-- (`WorkList`), the touching part by the kinds of its cells (`Blocks`), and the examples of these (`Examples`). What the theorem on the 27 cases
-- says (`CasesProperty`), what the theorem on the table says (`TableProperty`), what the counting theorem on the work list asks (`Counting`), what a record of it can be
-- (`WorkRecords`), and what that test leaves (`Coincident`); the theorems stand in `proofs/`. What the proofs lean on: the cells by vertex (`CellGroups`), and laws of
-- records in a list of numbers (`RecordsFacts`), of shared vertices (`SharedVertices`) and of their places (`MatchesFacts`).
pub mod Records
pub mod Matches
pub mod Cases
pub mod CasesProperty
pub mod Table
pub mod TableProperty
pub mod Patterns
pub mod WorkList
pub mod Blocks
pub mod Examples
pub mod WorkRecords
pub mod Counting
pub mod Coincident
pub mod CellGroups
pub mod RecordsFacts
pub mod SharedVertices
pub mod MatchesFacts

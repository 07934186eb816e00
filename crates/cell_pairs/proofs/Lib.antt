-- The theorem on the 27 cases (`CasesProperty`), the theorem on the table (`TableProperty`), the counting theorem on the work list (`Counting`), what the test of cells with the same vertices leaves
-- (`Coincident`), and the examples of work lists (`WorkExamples`). What these lean on: laws of the 27 cases (`CasesFacts`), of the table (`TableFacts`), of the cells by
-- kind and colour and by vertex (`CellGroupsFacts`), of each record (`WorkRecordsFacts`), of sums over the records (`CountingFacts`), of cells with the same vertices
-- (`CoincidentFacts`) and of the touching part block after block (`BlocksFacts`).
pub mod CasesFacts
pub mod TableFacts
pub mod CasesProperty
pub mod CoincidentFacts
pub mod Coincident
pub mod TableProperty
pub mod WorkRecordsFacts
pub mod CountingFacts
pub mod Counting
pub mod CellGroupsFacts
pub mod BlocksFacts
pub mod WorkExamples

-- Pairs of cells in rows (`Flat`), and shared vertices as the code lists them (`Shared`). Laws of shared vertices (`SharedFacts`), of the table as numbers
-- (`TableRows`), of the formula and the row where it points (`FormulaFacts`), and of patterns, check 7 and the smallest shared vertex (`PatternFacts`).
pub mod Flat
pub mod Shared
pub mod SharedFacts
pub mod TableRows
pub mod FormulaFacts
pub mod PatternFacts

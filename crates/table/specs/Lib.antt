-- Reads of a lent table (`Rows`), and of a view of one (`Views`).
pub mod Rows
pub mod Views

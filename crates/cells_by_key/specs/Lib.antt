-- Cells grouped by a key (`Groups`). Laws: the sort groups them (`Sorting`), and each group is of the cells that have its key (`GroupsFacts`).
pub mod Groups
pub mod Sorting
pub mod GroupsFacts

-- The third property of lists of calls through C (`Whole`).
pub mod Whole

-- The table of patterns as numbers, one a row (`Numbers`).
pub mod Numbers

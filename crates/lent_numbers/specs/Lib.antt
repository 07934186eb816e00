-- What a pair is lent, with checks 9 to 11 (`Lent`), what the structs stand for (`Forms`), the local entries that it gives (`Entries`), the examples of these
-- (`Examples`), and what checks that passed say (`Sizes`).
pub mod Lent
pub mod Forms
pub mod Entries
pub mod Examples
pub mod Sizes

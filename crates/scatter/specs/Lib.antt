-- A local matrix put into the matrix and into entry lists (`Adding`), the examples of these (`Examples`), how its entries lie in a list and what an add asks
-- (`Entries`), the entry lists as they are lent (`Lent`), and the laws on all this (`AddingFacts`).
pub mod Adding
pub mod Examples
pub mod Entries
pub mod Lent
pub mod AddingFacts

-- What the program's structs and answers stand for (`Forms`), how many of the cells before a cell are of a kind (`KindPlaces`), and what the checks, the
-- adds and the entries call come to (`RunFacts`, `AddFacts`, `EntryFacts`).
pub mod Forms
pub mod KindPlaces
pub mod RunFacts
pub mod AddFacts
pub mod EntryFacts

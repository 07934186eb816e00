-- The pairs in the order of their visits (`Visits`), and the two passes over them (`Passes`). Laws: of the mesh of some rows (`BareFacts`), of a visited pair
-- (`VisitsFacts`), from the visits to the touching part of the work list (`Touching`).
pub mod Visits
pub mod BareFacts
pub mod VisitsFacts
pub mod Passes
pub mod Touching

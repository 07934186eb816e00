-- Planning (`Planning`), its lists and its answer as the code has them (`Lent`), the paper's examples of it (`Examples`), what holds where it turns nothing
-- down (`Accepted`), and what is promised of every planning that is accepted (`Promises`, proved in `proofs/Promises.antt`).
pub mod Planning
pub mod Lent
pub mod Examples
pub mod Accepted
pub mod Promises

-- What a reader believes: `Sparse`, with examples that compute (`Examples`), and the code's answer in its words (`Answers`); and of a whole run
-- `SparseProperty`, with `Pairs`. Laws and proofs stand in `proofs/`.
pub mod Sparse
pub mod Answers
pub mod Examples
pub mod Pairs
pub mod SparseProperty

-- For the proofs of the code: the comprehension of the sparse rows in the order of keys (`RowMajor`), band after band (`Written`), and the call (`Call`).
pub mod RowMajor
pub mod Written
pub mod Call
pub mod Lent

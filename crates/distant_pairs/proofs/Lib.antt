-- The laws of the distant part, and that it is the work list's (`Facts`); the walk over the batches of a colour (`Batches`).
pub mod Facts
pub mod Batches

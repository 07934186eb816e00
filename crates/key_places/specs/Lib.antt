-- Sums by key (`Sums`), what a pass over the entries of a band writes (`Placed`, `Places`, `Blocks`), and what the pass over the rows does (`Starts`).
pub mod Sums
pub mod Placed
pub mod Places
pub mod Starts
pub mod Blocks

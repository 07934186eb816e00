-- What is promised of DOF numbers and owner records (`Promises`), and laws for the proofs: `Facts`, `ByCell`, `Walk`, `WholeWalk`.
pub mod Facts
pub mod ByCell
pub mod Walk
pub mod WholeWalk
pub mod Promises

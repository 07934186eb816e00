-- DOF numbers and owner records (`Numbering`), with their examples (`Examples`), and the words in which they are promised and in which the code's contracts
-- speak: `ByCell`, `Walk`, `DofWalk`, `Promises`. The promises and laws stand in `proofs/`.
pub mod Numbering
pub mod Examples
pub mod ByCell
pub mod Walk
pub mod DofWalk
pub mod Promises

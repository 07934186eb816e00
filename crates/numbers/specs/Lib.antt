-- Ranges and bounds of whole numbers, with their laws (`Ranges`), and Rust's f64 (`Floats`) with a law of its product (`One`) and one of its sum (`Zero`).
pub mod Ranges
pub mod Floats
pub mod One
pub mod Zero

-- How a point value is weighed (`Weights`), what each test basis function brings (`Parts`), what a pair of points reads and adds (`Reads`), and laws on that
-- (`Facts`).
pub mod Weights
pub mod Parts
pub mod Reads
pub mod Facts

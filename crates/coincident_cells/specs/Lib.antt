-- The test of cells with the same vertices, of cells in rows (`Differ`), and laws of it at one vertex of each cell (`DifferFacts`).
pub mod Differ
pub mod DifferFacts

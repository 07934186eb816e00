-- What the first 7 bytes of a job decide (`HeadFacts`).
pub mod HeadFacts

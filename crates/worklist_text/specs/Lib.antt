-- What `worklist` prints (`Text`), the same for lists of numbers and for a planning (`Lines`, `PlannedText`), what the code rests on (`TextFacts`,
-- `PlannedFacts`, `WorklistFacts`), and the examples (`Examples`).
pub mod Text
pub mod Lines
pub mod TextFacts
pub mod PlannedText
pub mod PlannedFacts
pub mod WorklistFacts
pub mod Examples

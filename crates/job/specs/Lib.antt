-- The job format with checks 12 and 13, and what reading a job answers and writes (`Job`); what its first 7 bytes say (`Head`); what the code answers
-- (`Answers`) and rests on (`JobFacts`); and examples (`Examples`). What those bytes decide stands in `proofs/HeadFacts.antt`.
pub mod Job
pub mod Head
pub mod Answers
pub mod JobFacts
pub mod Examples

-- That what is promised of every planning that is accepted holds (`Promises`), and the examples of work lists (`WorkListExamples`).
pub mod Promises
pub mod WorkListExamples

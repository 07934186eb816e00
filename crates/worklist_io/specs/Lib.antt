-- What the program says of the text that it prints (`Answers`), and how each way to the text gives it (`AnswersFacts`).
pub mod Answers
pub mod AnswersFacts

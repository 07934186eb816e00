-- That the program's answers and numbers are the machine's (`Beside`, along the list of planning in `Listed`), what a run is read as (`ReadingFacts`), the
-- third property (`ThirdProperty`) and the like of an entries run (`EntriesFacts`, `EntriesProperty`).
pub mod Beside
pub mod Listed
pub mod ThirdProperty
pub mod EntriesProperty
pub mod EntriesFacts
pub mod ReadingFacts

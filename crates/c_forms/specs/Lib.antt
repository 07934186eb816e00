-- The C forms of arguments and answers (`Forms`), lists of calls through C (`Calls`), that the C form of an answer stands for it (`Stands`) and which numbers
-- it may hold (`Numbers`, proved in `proofs/Numbers.antt`).
pub mod Forms
pub mod Calls
pub mod Stands
pub mod Numbers

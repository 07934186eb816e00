-- The run's calls (`Runs`), what they answer on one cell and on two of both kinds (`Examples`), lists of them as the program takes them (`Calls`), that a
-- refused call changes nothing (`Refused`), the machine that a run is set beside (`Machine`), the program beside it (`Beside` with `CellDofs`, along the list
-- of planning in `Listed`), how a run is read (`Reading`), the third property (`ThirdProperty`) and the like of an entries run (`EntriesProperty`). The proofs
-- of the last two, and that the program is beside the machine, stand in `proofs/`.
pub mod Runs
pub mod Examples
pub mod Calls
pub mod Refused
pub mod Machine
pub mod CellDofs
pub mod Beside
pub mod Listed
pub mod Reading
pub mod ThirdProperty
pub mod EntriesProperty

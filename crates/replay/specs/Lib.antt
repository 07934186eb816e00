-- A list of calls as numbers (`Encoding`), what `replay` leaves (`Replay`), that this has the third property (`Property`), and laws: each list of calls has an
-- encoding (`Encodes`), and a loop over the calls folds them (`Laws`).
pub mod Encoding
pub mod Replay
pub mod Property
pub mod Encodes
pub mod Laws

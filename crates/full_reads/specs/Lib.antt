-- What a clause reads of a `Source` (`Sources`).
pub mod Sources

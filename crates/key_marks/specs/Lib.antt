-- Entries by their row-major keys (`Keys`), how many numbers pass a test (`Count`), marks as bits of words (`Words`), the passes over a band of keys
-- (`Bands`), the blocks of the entries (`Blocks`) and the marks before each (`Ranks`).
pub mod Count
pub mod Words
pub mod Keys
pub mod Bands
pub mod Ranks
pub mod Blocks

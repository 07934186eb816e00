-- The numbers of refusals (`Numbers`).
pub mod Numbers

-- The distant part of the work list over cells laid out by kind and colour (`Distant`). That it is the work list's stands in `proofs/Facts.antt`.
pub mod Distant

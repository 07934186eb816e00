-- Laws of sparse rows (`Laws`), and what they hold after a whole run (`SparseProperty`); `BlockFacts` and `RunFacts` are for its proof.
pub mod RunFacts
pub mod SparseProperty
pub mod BlockFacts
pub mod Laws

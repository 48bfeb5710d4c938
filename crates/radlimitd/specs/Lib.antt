pub mod Paces
pub mod Proofs

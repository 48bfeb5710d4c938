-- What the crates above cite.
pub use Rattle.rld_values.proofs.Pieces.{written_2, written_3, written_4, written_5, written_6, written_7, written_8, written_9}

-- The lemmas that this crate offers to the proofs of others: what follows from the definitions alone.

-- a payload more: its frame stands behind the others
pub use Rattle.rld_log.proofs.Readings.{all_fit_more, frames_more}
-- the parts of a frame
pub use Rattle.rld_log.proofs.Blocks.{Parts, frame_shape, parts_of}
-- whole frames are a file of their payloads, and a file has one list of them
pub use Rattle.rld_log.proofs.Recordings.{whole_has}
pub use Rattle.rld_log.proofs.Readings.{ends_so, have_one_reading}

-- The lemmas that this crate offers to the proofs of others. Another crate cites no other file of these proofs.

-- a meaning is one that a request of its client can have: its account is there, and its Proxy-States have room
pub use Rattle.rsl_event.proofs.PreparedLaws.{meaning_meant}

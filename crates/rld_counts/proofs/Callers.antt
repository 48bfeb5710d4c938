-- The lemmas that this crate offers to the proofs of others: what follows from the definitions alone.

-- a counter is how many of the numbers are its own, and a list's numbers are those of its parts
pub use Rattle.rld_counts.proofs.Tallies.{counter_of}
pub use Rattle.rld_counts.proofs.Counting.{mapped_append, number_below}

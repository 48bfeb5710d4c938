-- The lemmas that this crate offers to the proofs of others, as its definitions are offered. Another crate cites no other
-- file of these proofs.

-- a list of values that stand for those of another list, made one by one
pub use Rattle.rsl_book.proofs.OneByOne.{stands_steps}

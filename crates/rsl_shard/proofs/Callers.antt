-- The lemmas that this crate offers to the proofs of others, as its definitions are offered: what follows from the
-- definitions alone. Another crate cites no other file of these proofs.

-- an account of a shard stands at its index, and its book at that index of the list
pub use Rattle.rsl_shard.proofs.Numbers.{account_is}
pub use Rattle.rsl_shard.proofs.Moving.{book_at_index}
-- a move steps the book of an account by what it is to the account
pub use Rattle.rsl_shard.proofs.Moving.{moved_book}
-- the new book at an index is that of the account whose index it is
pub use Rattle.rsl_shard.proofs.Beginning.{new_book_at}
-- the new books of a shard's accounts are the same whatever the shard has come to
pub use Rattle.rsl_shard.proofs.Journaling.{renewed_line, renewed_cut, renewed_begun}

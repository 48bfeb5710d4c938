-- The lemmas that this crate offers to the proofs of others: what follows from the definitions alone.

-- what a crash leaves of the log of a store that stands for a history
pub use Rattle.rld_store.proofs.Standing.{crashes_lose}
-- books of accounts are of any accounts with the same table
pub use Rattle.rld_store.proofs.SameTable.{still_server}

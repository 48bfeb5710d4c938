-- The lemmas that this crate offers to the proofs of others: what follows from the definitions alone.

-- a move steps the book of an account by what it is to the account
pub use Rattle.rld_books.proofs.Stepping.{book_after_move}
-- the books of a server take the same moves after a move
pub use Rattle.rld_books.proofs.Stepping.{still_taken}
-- books are of their configuration, also after moves, and are known by what is saved of them
pub use Rattle.rld_books.proofs.Saving.{new_is_of, one_server, replay_is_of}

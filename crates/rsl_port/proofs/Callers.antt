-- The lemmas that this crate offers to the proofs of others: what follows from the definitions alone.

-- how what a clock or a pause has shown adds up
pub use Rattle.rsl_port.proofs.Showing.{more_shown, none_shown}

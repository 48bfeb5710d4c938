-- The lemmas that this crate offers to the proofs of others, as its definitions are offered. Another
-- crate cites no other file of these proofs.

-- what a step that did not fail gave, and which way a test went
pub use Rattle.rld_spelling.proofs.Smallest.{ok_is, then_ok, made_ok, chosen, octets_rest, octets_behind}
-- each of the smallest fields is read as it is spelled
pub use Rattle.rld_spelling.proofs.Smallest.{nothing_read, octet_read, fixed_read, short_read, flag_read}
pub use Rattle.rld_spelling.proofs.Numbered.{pair_read, number_read, below_read, between_read, exactly_read}
-- and so is what is made of such fields
pub use Rattle.rld_spelling.proofs.Made.{behind_read, both_read, seen_as_read, optional_read, listed_read, list_read, checked_read}
-- what was read as one of several cases is spelled so
pub use Rattle.rld_spelling.proofs.Made.{tag_case, case_spelled}
-- a value that takes all of the octets
pub use Rattle.rld_spelling.proofs.Wholes.{all_again, all_found, all_only, front_found, front_only}
-- values that a loop reads one behind the other
pub use Rattle.rld_spelling.proofs.Loops.{with_front, front_none, front_more, front_fault, front_all, front_steps}

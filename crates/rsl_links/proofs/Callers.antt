-- The lemmas that this crate offers to the proofs of others, as its definitions are offered. Another crate cites no other
-- file of these proofs.

pub use Rattle.rsl_links.proofs.Found.{seen_changed, seen_taken, seen_touched}
pub use Rattle.rsl_links.proofs.Lists.{any_end, any_no, any_steps, any_yes, find_end, find_no, find_steps, find_yes, push_steps}
pub use Rattle.rsl_links.proofs.OneByOne.{ring_more, ring_not, same_steps}
pub use Rattle.rsl_links.proofs.Opened.{bundles-push, length-bundles, more_alone}
pub use Rattle.rsl_links.proofs.Indexed.{new_index, indexed_none, indexed_put}
pub use Rattle.rsl_links.proofs.Stepping.{accept_left, alive_renews, bind_takes, fits_freed, fresh_alone, fresh_in_place, fresh_tight, placed_fits, placed_full, placed_in_place, placed_tight, room_without, seen_without}
pub use Rattle.rsl_links.proofs.Touching.{one_of, own_bundle}

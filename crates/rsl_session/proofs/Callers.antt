-- The lemmas that this crate offers to the proofs of others, as its definitions are offered: what follows from the
-- definitions alone. Another crate cites no other file of these proofs.

-- two sessions, bundles, keys or access servers are the same exactly where they are equal
pub use Rattle.rsl_session.proofs.Sameness.{key_is_same, nas_is_same, same_bundle-refl, same_key-true, same_nas-true, same_session-refl, same_session-true}
-- places of links: at most one a link, and what one link more adds
pub use Rattle.rsl_session.proofs.Counting.{length-le-places, places_of-Some, places_of-le, places_of_alone, places_of_front}
-- places after events are within the limit
pub use Rattle.rsl_session.proofs.Limit.{places_after-le}
-- pasts follow the rule, and what a past says of a link stays with the events that come after
pub use Rattle.rsl_session.proofs.Ruled.{IsRuled-past_of, bound-later, bundle_at-later, is_in, is_in-true, links-in, same_past, station_at-later, touched-later, yielded-le}
-- which links are held after an event
unfoldable pub use Rattle.rsl_session.proofs.Ending.{gives_way, left_by}
pub use Rattle.rsl_session.proofs.Ending.{any_link, filter-filter, freed_later, freed_older, held-opened, held-quiet, left_by-held, list_all_any, not-or}
-- the book of a past
pub use Rattle.rsl_session.proofs.BookJoined.{books_are, books_hold, joins}

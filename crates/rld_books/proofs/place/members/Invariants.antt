use Rattle.std.proofs.Common.{◌≡◌, ◌≤◌, take}
use Rattle.std.specs.Prelude.{count_by}
use Rattle.rsl_session.specs.Saved.{saved_links}
use Rattle.rsl_session.specs.Book.{bundles_in}
use Rattle.rsl_session.specs.Places.{is_bundle}
use Rattle.rld_books.proofs.place.members.Given as goal

-- how many of the links that were looked at are of the bundle
abbrev pub invariant-loop-link : goal.invariant-loop-link
invariant-loop-link l = record {
  counted : l.count ≡ count_by (is_bundle (record { nas = l.nas; id = l.id })) (bundles_in (saved_links (take l.link-index l.links)));
  few : l.count ≤ l.link-index;
}

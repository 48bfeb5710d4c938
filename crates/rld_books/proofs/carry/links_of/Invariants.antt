use Rattle.std.proofs.Common.{◌≡◌, ◌≤◌, [], take}
use Rattle.rsl_session.specs.Saved.{saved_links}
use Rattle.rsl_session.specs.Book.{bundles_in}
use Rattle.rsl_session.specs.Places.{places_of}
use Rattle.rld_books.specs.Carried.{links_on, placed}
use Rattle.rld_books.specs.Numbers.{number_in}
use Rattle.rld_books.proofs.carry.links_of.Given as goal

-- those of the links that were looked at
abbrev pub invariant-loop-link : goal.invariant-loop-link
invariant-loop-link l = record {
  links : saved_links l.found.links.items ≡ placed l.rules [] (links_on (number_in l.numbers) (saved_links (take l.link-index l.links)));
  counted : l.found.places ≡ places_of l.rules.ports (bundles_in (saved_links l.found.links.items));
  limit : l.found.places ≤ l.rules.places;
}

-- The places that links take, carried as a number beside them; and the positions of links.
use Rattle.std.specs.Prelude.{◌≡◌, ◌≤◌, List}
use Rattle.rsl_event.specs.declared.nas.Nas.{Nas}
use Rattle.rsl_session.specs.Places.{places_of}
use Rattle.rsl_session.specs.Book.{bundles_in}
use Rattle.rsl_links.specs.declared.links.Links.{Links}
use Rattle.rsl_links.specs.Named.{AreIndexed}
use Rattle.rsl_links.specs.Seen.{links_seen}

pub record AreCounted (servers : List Nas) (links : Links) : Type 0 where
  pub a_port : 1 ≤ links.ports
  pub places : links.places ≡ places_of links.ports
      (bundles_in (links_seen servers links.list.items))
  pub indexed : AreIndexed servers links.list.items

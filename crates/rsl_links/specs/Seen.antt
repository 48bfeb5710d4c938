-- What a book's links stand for: each names its access server by an index of a table.
use Rattle.std.specs.Prelude.{ℕ, List, map, get_or, Option}
use Rattle.std.specs.Option.{option_map}
use Rattle.rsl_event.specs.declared.nas.Nas.{Nas}
use Rattle.rsl_event.specs.declared.nas.NasName.TheVariants.{Unnamed}
use Rattle.rsl_session.specs.declared.bundle.Bundle.{Bundle}
use Rattle.rsl_session.specs.Book.{BookLink, Holder, Reserved, Bound}
use Rattle.rsl_links.specs.declared.link.Link.{Link}
use Rattle.rsl_links.specs.declared.link.Holder.{Holder as LinkHolder}
use Rattle.rsl_links.specs.declared.link.Holder.TheVariants.{Reserved as LinkReserved, Bound as LinkBound}

abbrev pub unnamed : Nas
unnamed = record { client = 0; name = Unnamed }

-- the access server at an index of the table, and past its end one without a name
abbrev pub server_at : List Nas → ℕ → Nas
server_at servers at = get_or servers at unnamed

-- what holds a link at an access server
abbrev pub holder_at : Nas → LinkHolder → Holder
holder_at nas (LinkReserved number) = Reserved number
holder_at nas (LinkBound id) = Bound (record { nas = nas; id = id })

-- the bundle of this id at an access server
abbrev pub bundle_with : Nas → Option (List ℕ) → Option Bundle
bundle_with nas id = option_map (λ id. record { nas = nas; id = id }) id

unfoldable pub link_seen : List Nas → Link → BookLink
link_seen servers link =
    record {
      nas = server_at servers link.nas;
      holder = holder_at (server_at servers link.nas) link.holder;
      bundle = bundle_with (server_at servers link.nas) link.bundle;
      station = link.station;
      opened = link.opened;
      touched = link.touched;
    }

unfoldable pub links_seen : List Nas → List Link → List BookLink
links_seen servers links = map (link_seen servers) links

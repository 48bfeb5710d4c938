use Rattle.std.proofs.Common.{◌≡◌, List, false, ap, subst}
use Rattle.std.specs.List.{list_any}
use Rattle.std.proofs.lemmas.Option.{IfSome_then}
use Rattle.rsl_links.specs.declared.link.Link.{Link}
use Rattle.rsl_links.specs.LinkList.{IsOldest, RoomyList, is_of_station}
use Rattle.rsl_links.proofs.Indexed.{none_then}
use Rattle.rsl_links.proofs.list.LinkList.oldest_of.Goals as goal

pub returns-clause-found : goal.returns-clause-found
returns-clause-found c =
    IfSome_then c.oldest_of.result c.oldest_of.ensures.found
    (λ at oldest. subst (λ (xs : List Link). IsOldest (is_of_station c.args.station.now) xs at) (ap (λ (value : RoomyList). value.items) c.self.view_is) oldest)

pub returns-clause-missed : goal.returns-clause-missed
returns-clause-missed c =
    none_then c.oldest_of.result c.oldest_of.ensures.missed
    (λ none. subst (λ (xs : List Link). list_any (is_of_station c.args.station.now) xs ≡ false) (ap (λ (value : RoomyList). value.items) c.self.view_is) none)

use Rattle.std.proofs.Common.{◌≡◌, List, ℕ, false, subst}
use Rattle.std.specs.List.{list_any}
use Rattle.std.proofs.lemmas.Option.{IfSome_then}
use Rattle.rsl_links.specs.LinkList.{IsOldest, is_of_station}
use Rattle.rsl_links.proofs.Indexed.{none_then}
use Rattle.rsl_links.proofs.Yielding.{no_station, none_returns, returns_first}
use Rattle.rsl_links.proofs.links.Links.returning.Goals as goal

pub returns-in-None-clause-missed : goal.returns-in-None-clause-missed
returns-in-None-clause-missed c = rw c.in-None.is (λ servers. no_station servers c.args.self.now.list.items)

pub returns-in-Some-clause-found : goal.returns-in-Some-clause-found
returns-in-Some-clause-found c =
    rw c.in-Some.is (λ servers. IfSome_then c.oldest_of.result c.oldest_of.ensures.found
    (λ at oldest. returns_first servers c.in-Some.station c.args.self.now.list.items at
    (subst (λ (octets : List ℕ). IsOldest (is_of_station octets) c.args.self.now.list.items at) c.as_slice.ensures oldest)))

pub returns-in-Some-clause-missed : goal.returns-in-Some-clause-missed
returns-in-Some-clause-missed c =
    rw c.in-Some.is (λ servers. none_then c.oldest_of.result c.oldest_of.ensures.missed
    (λ none. none_returns servers c.in-Some.station c.args.self.now.list.items
    (subst (λ (octets : List ℕ). list_any (is_of_station octets) c.args.self.now.list.items ≡ false) c.as_slice.ensures none)))

use Rattle.std.proofs.Common.{◌≡◌, List, false, ap, subst}
use Rattle.std.specs.List.{list_any}
use Rattle.std.proofs.lemmas.Option.{IfSome_then}
use Rattle.rsl_links.specs.declared.link.Link.{Link}
use Rattle.rsl_links.specs.First.{IsFirst}
use Rattle.rsl_links.specs.LinkList.{RoomyList, is_held}
use Rattle.rsl_links.proofs.Indexed.{none_then}
use Rattle.rsl_links.proofs.list.LinkList.session.Goals as goal

pub returns-clause-found : goal.returns-clause-found
returns-clause-found c =
    IfSome_then c.first_session.result c.first_session.ensures.found
    (λ at first. subst (λ (xs : List Link). IsFirst (is_held c.args.nas c.args.id.now) xs at) (ap (λ (value : RoomyList). value.items) c.self.view_is) first)

pub returns-clause-missed : goal.returns-clause-missed
returns-clause-missed c =
    none_then c.first_session.result c.first_session.ensures.missed
    (λ none. subst (λ (xs : List Link). list_any (is_held c.args.nas c.args.id.now) xs ≡ false) (ap (λ (value : RoomyList). value.items) c.self.view_is) none)

use Rattle.std.proofs.lemmas.Option.{IfSome_then}
use Rattle.rsl_links.proofs.Indexed.{no_reservation_seen, none_then, reservation_seen, taken_nowhere}
use Rattle.rsl_links.proofs.links.Links.reservation.Goals as goal

pub returns-in-None-clause-missed : goal.returns-in-None-clause-missed
returns-in-None-clause-missed c = taken_nowhere c.args.servers.now c.args.nas.now c.args.self.now.list.items c.requires.indexed c.args.class c.in-None.ensures.missed

pub returns-in-Some-clause-found : goal.returns-in-Some-clause-found
returns-in-Some-clause-found c =
    IfSome_then c.reservation.result c.reservation.ensures.found
    (λ at first. reservation_seen c.args.servers.now c.args.nas.now c.args.self.now.list.items c.requires.indexed c.in-Some.index c.in-Some.ensures.index c.in-Some.ensures.found c.args.class at first)

pub returns-in-Some-clause-missed : goal.returns-in-Some-clause-missed
returns-in-Some-clause-missed c =
    none_then c.reservation.result c.reservation.ensures.missed
    (λ none. no_reservation_seen c.args.servers.now c.args.nas.now c.args.self.now.list.items c.requires.indexed c.in-Some.index c.in-Some.ensures.index c.in-Some.ensures.found c.args.class none)

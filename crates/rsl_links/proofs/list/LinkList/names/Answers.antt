use Rattle.std.proofs.Common.{◌∙◌, sym}
use Rattle.rsl_links.proofs.Sought.{named_bound, named_reserved}
use Rattle.rsl_links.proofs.list.LinkList.names.Goals as goal

pub returns-then-sessions_name : goal.returns-then-sessions_name
returns-then-sessions_name c = named_bound c.args.nas c.args.self.now.items (sym c.sessions_name.ensures ∙ c.if-sessions_name.true)

pub returns : goal.returns
returns c =
    c.is_some.ensures
    ∙ named_reserved c.args.nas c.args.self.now.items c.reservation.result (sym c.sessions_name.ensures ∙ c.if-sessions_name.false) c.reservation.ensures.found c.reservation.ensures.missed

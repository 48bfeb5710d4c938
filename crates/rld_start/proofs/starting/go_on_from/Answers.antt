use Rattle.std.proofs.Common.{rules, subst, sym}
use Rattle.rld_start.specs.Counted.{AreSessionsOf}
use Rattle.std.specs.Arc.{arc_value}
use Rattle.rld_books.specs.Saved.{IsServerOf}
use Rattle.rld_books.specs.Server.{ServerSeen}
use Rattle.rld_start.proofs.starting.go_on_from.Goals as goal

-- the books stay those of the accounts
pub invariant_of-result-clause-server : goal.invariant_of-result-clause-server
invariant_of-result-clause-server g c =
    let former = c.args.former.opened.store in
    subst (λ config. IsServerOf (arc_value config) c.renew.new.store.books) (sym c.renew.ensures.config)
    (subst (λ (b : ServerSeen). IsServerOf (arc_value former.config) b) (sym c.renew.ensures.books) c.requires)

pub invariant_of-result-clause-counted : goal.invariant_of-result-clause-counted
invariant_of-result-clause-counted g c =
    let counted : AreSessionsOf c.args.former.opened.store.books c.sessions_in.result = search rules in
    subst (λ (b : ServerSeen). AreSessionsOf b c.sessions_in.result) (sym c.renew.ensures.books) counted

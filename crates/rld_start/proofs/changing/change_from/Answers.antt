use Rattle.std.proofs.Common.{◌∙◌, ℕ, Option, IfSome, ap, rules, subst, sym}
use Rattle.std.specs.Arc.{arc_value}
use Rattle.rsl_accounts.specs.Configuration.{Configuration}
use Rattle.rld_books.specs.Saved.{IsServerOf}
use Rattle.rld_books.specs.Server.{ServerSeen}
use Rattle.rld_start.specs.Counted.{AreSessionsOf}
use Rattle.rld_start.proofs.changing.change_from.Goals as goal

pub returns-clause-held : goal.returns-clause-held
returns-clause-held g c =
    let counted : AreSessionsOf c.args.end.books c.sessions_in-held.result = search rules in
    subst (λ (found : Option ℕ). IfSome found (AreSessionsOf c.args.end.books)) (sym c.in_ok-found.ensures.held) counted

-- the books that were admitted are of the accounts
pub invariant_of-result-clause-server : goal.invariant_of-result-clause-server
invariant_of-result-clause-server g c =
    let store = c.in_ok-begun.begun.store in
    subst (λ (x : Configuration). IsServerOf x store.books) (c.deref.ensures ∙ sym (ap arc_value c.in_ok-begun.ensures.config))
    (subst (λ (b : ServerSeen). IsServerOf c.deref.result.now b) (sym c.in_ok-begun.ensures.books) c.in_ok-books.ensures.server)

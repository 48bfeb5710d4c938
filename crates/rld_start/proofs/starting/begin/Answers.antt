use Rattle.std.proofs.Common.{rules, ◌≡◌, ◌∙◌, ap, subst, sym}
use Rattle.rld_start.specs.Counted.{AreSessionsOf}
use Rattle.std.specs.Arc.{arc_value}
use Rattle.rsl_accounts.specs.Configuration.{Configuration}
use Rattle.rld_books.specs.Saved.{IsServerOf}
use Rattle.rld_books.specs.Server.{ServerSeen, new_server}
use Rattle.rld_books.proofs.Callers.{new_is_of}
use Rattle.rld_start.proofs.starting.begin.Goals as goal

-- new books are of the accounts
pub invariant_of-result-clause-server : goal.invariant_of-result-clause-server
invariant_of-result-clause-server g c =
    let store = c.in_ok-begun.begun.store in
    let config : Configuration = arc_value c.args.config in
    subst (λ (x : Configuration). IsServerOf x store.books) (sym (ap arc_value c.in_ok-begun.ensures.config))
    (subst (IsServerOf config) (sym (c.in_ok-begun.ensures.books ∙ c.in_ok-books.ensures ∙ ap new_server c.deref.ensures)) (new_is_of config))

pub invariant_of-result-clause-counted : goal.invariant_of-result-clause-counted
invariant_of-result-clause-counted g c =
    let counted : AreSessionsOf c.in_ok-begun.begun.store.books c.sessions_in.result = search rules in
    counted

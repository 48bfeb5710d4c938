use Rattle.std.proofs.Common.{rules, ◌≡◌, subst}
use Rattle.std.specs.Arc.{arc_value}
use Rattle.std.specs.Prelude.{IfSome}
use Rattle.rld_spelling.specs.Tables.{table_of}
use Rattle.rsl_accounts.specs.Configuration.{Configuration}
use Rattle.rld_serve.proofs.server.Server.change_to.Goals as goal

-- the accounts of which that was asked are those that were read
pub returns-clause-begins : goal.returns-clause-begins
returns-clause-begins g c =
    let is : c.deref-2.result.now ≡ arc_value c.args.config.now = search rules in
    subst (λ (x : Configuration). IfSome c.in_ok-next.next (λ _. table_of c.args.former.now ≡ table_of x → ⊥)) is
    c.in_ok-next.ensures.begins

use Rattle.std.proofs.Common.{◌∙◌}
use Rattle.rsl_accounts.proofs.Twice.{position-same}
use Rattle.rsl_accounts.proofs.config.Config.account.Goals as goal

pub returns-in_err-number-clause-number : goal.returns-in_err-number-clause-number
returns-in_err-number-clause-number c =
    rw (c.from_residual.ensures, ← c.self.view_is)
    (c.in_err-number.ensures.index ∙ position-same (λ name. name.items) (λ account. account.name) c.self.inside.names.keys c.self.inside.accounts.items c.args.name.now c.self.invariant.index)

pub returns-clause-number : goal.returns-clause-number
returns-clause-number c =
    rw (← c.self.view_is)
    (c.in_ok-number.ensures.index ∙ position-same (λ name. name.items) (λ account. account.name) c.self.inside.names.keys c.self.inside.accounts.items c.args.name.now c.self.invariant.index)

use Rattle.std.proofs.Common.{◌≡◌, ℕ, IfOk, ap, subst}
use Rattle.rsl_accounts.specs.Configuration.{Configuration}
use Rattle.rsl_service.specs.Service.{ServiceSeen}
use Rattle.rsl_serve.proofs.Reported.{has_served}
use Rattle.rsl_serve.proofs.server.run.Goals as goal

pub returns-clause-config : goal.returns-clause-config
returns-clause-config g c =
    subst (λ (config : Configuration). IfOk c.close.result (λ served. served.closed.config ≡ config))
    (ap (λ (service : ServiceSeen). service.config) c.in_ok-service.ensures) c.close.ensures.config

pub returns-clause-boot : goal.returns-clause-boot
returns-clause-boot g c =
    subst (λ (boot : ℕ). IfOk c.close.result (λ served. served.closed.boot ≡ boot))
    (ap (λ (service : ServiceSeen). service.boot) c.in_ok-service.ensures) c.close.ensures.boot

pub returns-clause-served : goal.returns-clause-served
returns-clause-served g c =
    let passes = c.in_ok-finished.finished.passes in
    has_served c.in_ok-service.service.config c.args.run_time.turns
    passes.auth.receipts passes.acct.receipts passes.ticks.receipts c.close.result
    c.close.ensures.auth c.close.ensures.acct
    c.close.ensures.config c.close.ensures.closed c.close.ensures.printed

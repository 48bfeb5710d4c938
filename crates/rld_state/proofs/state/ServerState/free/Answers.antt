use Rattle.std.proofs.Common.{subst}
use Rattle.rld_control.specs.Stops.{IsStopOf}
use Rattle.rsl_accounts.specs.Configuration.{Configuration}
use Rattle.rld_state.proofs.state.ServerState.free.Goals as goal

-- the accounts by which the Stop was made are those of the state
pub returns-clause-freed : goal.returns-clause-freed
returns-clause-freed g c = record {
  stop = c.in_ok-stop.stop;
  named_is = subst (λ (config : Configuration). IsStopOf config c.args.named.now c.in_ok-stop.stop) c.accounts.ensures c.in_ok-stop.ensures.stop;
  freed_is = c.in_ok-record_stop.ensures.freed;
}

use Rattle.std.proofs.Common.{subst}
use Rattle.rld_control.specs.Offs.{IsOffOf}
use Rattle.rsl_accounts.specs.Configuration.{Configuration}
use Rattle.rld_state.proofs.state.ServerState.free_server.Goals as goal

-- the accounts by which the Accounting-Off was made are those of the state
pub returns-clause-freed : goal.returns-clause-freed
returns-clause-freed g c = record {
  off = c.in_ok-off.off;
  named_is = subst (λ (config : Configuration). IsOffOf config c.args.named.now c.in_ok-off.off) c.accounts.ensures c.in_ok-off.ensures.off;
  freed_are = c.in_ok-record_off.ensures.freed;
}

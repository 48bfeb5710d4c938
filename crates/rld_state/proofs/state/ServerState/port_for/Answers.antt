use Rattle.std.proofs.Common.{rules, ◌≡◌, subst}
use Rattle.std.specs.Arc.{arc_value}
use Rattle.rld_control.specs.Stops.{IsStopOf}
use Rattle.rsl_accounts.specs.Configuration.{Configuration}
use Rattle.rld_state.proofs.state.ServerState.port_for.Goals as goal

-- the Stop is of the session, by the accounts of the state
pub returns-clause-found : goal.returns-clause-found
returns-clause-found g c =
    let same : c.accounts.result.now ≡ arc_value c.args.self.now.recorder.config = search rules in
    record {
      stop = c.in_ok-stop.stop;
      named_is = subst (λ (x : Configuration). IsStopOf x c.args.named.now c.in_ok-stop.stop) same c.in_ok-stop.ensures.stop;
      is = search rules;
    }

use Rattle.std.specs.Prelude.{map}
use Rattle.rld_current.proofs.Asks.{first_requests}
use Rattle.rld_current.proofs.ask_port.requests_of.Goals as goal

pub returns-in_default : goal.returns-in_default
returns-in_default c =
    first_requests c.args.config.now.clients c.args.number c.args.asks.now
    (map (λ request. request.items) c.loop-ask.requests.items) _ c.loop-ask.invariant

pub returns : goal.returns
returns c =
    first_requests c.args.config.now.clients c.args.number c.args.asks.now
    (map (λ request. request.items) c.loop-ask.requests.items) _ c.loop-ask.invariant

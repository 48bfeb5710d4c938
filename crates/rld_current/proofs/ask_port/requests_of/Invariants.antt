use Rattle.std.proofs.Common.{◌≡◌, take}
use Rattle.std.specs.Prelude.{map, slice_get, IfSome}
use Rattle.rld_ask.specs.Request.{ask_octets}
use Rattle.rld_ask.specs.declared.form.AskForm.{AskForm}
use Rattle.rld_current.proofs.ask_port.requests_of.Given as goal

-- the requests of the asks so far
abbrev pub invariant-loop-ask : goal.invariant-loop-ask
invariant-loop-ask l =
    IfSome (slice_get l.config.clients l.number) (λ one.
    map (λ request. request.items) l.requests.items
    ≡ map (λ (ask : AskForm). ask_octets ask one.secret) (take l.ask-index l.asks))

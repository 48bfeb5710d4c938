use Rattle.std.proofs.Common.{rules, ◌≡◌, ◌<◌, length, subst, take, List}
use Rattle.std.specs.Prelude.{Vec}
use Rattle.std.specs.List.{HoldsAt}
use Rattle.std.specs.declared.alloc.Global.{Global}
use Rattle.rld_current.proofs.Asks.{one_taken}
use Rattle.rld_current.proofs.ask_port.AskPortDatagramPortSocketAddr.receive.Goals as goal

pub returns-clause-taken : goal.returns-clause-taken
returns-clause-taken c = λ told.
    let next = c.args.self.now.next in
    let request = c.in-Some.request.now in
    let lent : c.deref.result.now ≡ c.args.self.now.requests.items = search rules in
    let found = c.in-Some.ensures.lookup.3 in
    let there : next < length c.args.self.now.requests.items =
    subst (λ (l : List (Vec _ Global)). next < length l) lent found.0 in
    let at : HoldsAt (λ (one : Vec _ Global). request ≡ one) c.args.self.now.requests.items next =
    subst (λ (l : List (Vec _ Global)). HoldsAt (λ (one : Vec _ Global). request ≡ one) l next) lent found.1 in
    let is : take c.len-len.result c.put.new.buffer ≡ request.items = search rules in
    one_taken _ _ _ _ _ there at is

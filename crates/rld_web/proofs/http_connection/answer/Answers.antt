-- What each call keeps stays while what has come is answered.
use Rattle.rld_web.proofs.Chains.{kept}
use Rattle.rld_web.proofs.http_connection.answer.Goals as goal

pub returns : goal.returns
returns g c =
    let calls = c.advance.ensures.calls.2 in
    record {
      place = kept _ (λ service. service.place) (λ _ _ _ _ answered. answered.1) _ _ _ calls;
      moment = kept _ (λ service. service.moment) (λ _ _ _ _ answered. answered.2) _ _ _ calls;
    }

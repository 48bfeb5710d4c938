use Rattle.std.proofs.Common.{◌≡◌, ◌∙◌, sym, ap, List, ℕ, length}
use Rattle.rsl_auth.specs.Signature.{signed}
use Rattle.rsl_event.proofs.ReplyAttributeLaws.{put_back}
use Rattle.rsl_event.proofs.signing.with_signature.Goals as goal

pub returns-clause-signed : goal.returns-clause-signed
returns-clause-signed c secret kept =
    let was = c.as_mut_slice.ensures.value in
    let len : length c.sign.new.packet ≡ c.args.octets.len = c.sign.auto.packet ∙ c.as_mut_slice.ensures.len in
    let before : length c.args.octets.items ≡ c.args.octets.len = sym (ap (λ (x : List ℕ). length x) was) ∙ c.as_mut_slice.ensures.len in
    put_back c.args.octets.len c.args.octets.items c.sign.new.packet len before
    ∙ c.sign.ensures secret kept ∙ ap (λ (x : List ℕ). signed x 22 c.args.request_auth.now secret) was

use Rattle.std.proofs.Common.{ap, List, ℕ, ◌∙◌}
use Rattle.rsl_wire.specs.Seen.{fields_of}
use Rattle.rsl_event.proofs.ClientKeys.{key_of_secret}
use Rattle.rsl_event.specs.Signature.{signed_by}
use Rattle.rld_turn.proofs.StatusWritten.{answered}
use Rattle.rld_turn.proofs.status_reply.answer_with.Goals as goal

pub returns : goal.returns
returns c =
    let kept = key_of_secret _ c.client_at.result.now c.expose.result.now c.hmac_key.result.now c.client_at.ensures.client c.expose.ensures.octets c.hmac_key.ensures in
    let fields = fields_of c.args.packet.now in
    let packet = c.sign-octets.ensures.signed c.expose.result.now kept ∙ ap (λ (x : List ℕ). signed_by c.signing_of-signing.result x fields.authenticator c.expose.result.now) c.finish-octets.ensures in
    answered c.args.config.now c.args.port c.args.client fields c.args.attributes.now
    c.code_of.result c.signing_of-signing.result c.args.draft c.push.new.draft c.push_proxy_states.new.draft
    c.sign-octets.result.items c.expose.result.now _ c.client_at.result.now
    c.requires.draft c.push.ensures.written c.push_proxy_states.ensures.written
    c.signing_of-signing.ensures c.code_of.ensures
    c.client_at.ensures.client c.expose.ensures.octets packet c.sealed.ensures

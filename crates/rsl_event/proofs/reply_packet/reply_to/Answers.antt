use Rattle.std.proofs.Common.{List, [], ap, unwrap_or, ◌∙◌, ◌++◌}
use Rattle.rsl_wire.specs.Attributes.{Attribute, list_octets}
use Rattle.rsl_wire.specs.Seen.{fields_of}
use Rattle.rsl_event.specs.Answer.{repeated_attributes}
use Rattle.rsl_event.specs.Signature.{reply_signing}
use Rattle.rsl_event.proofs.ClientKeys.{key_of_secret}
use Rattle.rsl_event.proofs.ReplyAttributeLaws.{answer_is, formed_unless_bare, repeated_fits, repeated_short, with_attributes}
use Rattle.rsl_event.proofs.reply_packet.reply_to.Goals as goal

pub returns : goal.returns
returns c =
    let second = c.write_said.new.draft in
    let kept = key_of_secret _ c.client_at.result.now c.expose-secret.result.now c.hmac_key-key.result.now c.client_at.ensures.client c.expose-secret.ensures.octets c.hmac_key-key.ensures in
    answer_is c.args.config.now c.args.boot c.args.client (fields_of c.args.request.now) c.args.kind c.args.decision
    c.said-word.result c.code_of.result c.reply_signing-signing.result c.args.draft c.push.new.draft second c.write_repeated.new.draft
    c.finish-octets.result.items c.expose-secret.result.now _ c.client_at.result.now
    c.requires.room c.push.ensures.written c.write_said.ensures.written
    (c.write_repeated.ensures.written ∙ ap (λ (x : List Attribute). with_attributes second (second.attributes ++ list_octets (repeated_attributes x c.args.kind))) c.attributes_of-attributes.ensures.list)
    c.said-word.ensures (c.reply_signing-signing.ensures ∙ (λ k. reply_signing (c.unsigned_rule.ensures k) c.said-word.result (c.attributes_of-attributes.ensures.list k))) c.code_of.ensures
    c.client_at.ensures.client c.expose-secret.ensures.octets (c.finish-octets.ensures.octets c.expose-secret.result.now kept) c.sealed.ensures

pub attributes_of-attributes-requires : goal.attributes_of-attributes-requires
attributes_of-attributes-requires c other = formed_unless_bare c.args.config.now c.args.request.now.attrs.now c.args.kind c.requires.prepared.room other

pub write_repeated-requires-clause-room : goal.write_repeated-requires-clause-room
write_repeated-requires-clause-room c other =
    repeated_fits c.args.config.now _ _ c.write_said.ensures.short
    (repeated_short c.args.config.now c.args.request.now.attrs.now (unwrap_or c.attributes_of-attributes.result []) c.args.kind c.attributes_of-attributes.ensures.list c.requires.prepared.room other)

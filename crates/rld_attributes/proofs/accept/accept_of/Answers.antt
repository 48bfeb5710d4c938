use Rattle.std.proofs.Common.{◌≡◌, ℕ, List, ap, subst, sym}
use Rattle.rsl_event.specs.Prepared.{CanReply}
use Rattle.rsl_event.specs.declared.meaning_kind.MeaningKind.TheVariants.{Ask}
use Rattle.rsl_wire.specs.Packet.{Fields}
use Rattle.rld_attributes.proofs.Bare.{can_reply_bare}
use Rattle.rld_attributes.proofs.accept.accept_of.Goals as goal

pub reply_to-requires-clause-prepared : goal.reply_to-requires-clause-prepared
reply_to-requires-clause-prepared c =
    subst (λ (octets : List ℕ). CanReply c.args.config.now 0 octets (Ask c.args.account))
    (sym (ap (λ (fields : Fields). fields.attributes) c.bare_request-request.ensures))
    (can_reply_bare c.args.config.now c.args.account c.requires c.clients-clients.ensures.limits.a_client)

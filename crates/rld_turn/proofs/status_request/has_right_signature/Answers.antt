use Rattle.std.proofs.Common.{length, ap, List, ℕ, sym, ◌∙◌, arith}
use Rattle.std.proofs.lemmas.Grind.{common_steps}
use Rattle.rsl_wire.specs.Attributes.{first_of, list_octets}
use Rattle.rsl_event.specs.declared.codes.TheConstants.{MESSAGE_AUTHENTICATOR}
use Rattle.rsl_event.proofs.SignatureLaws.{long_within}
use Rattle.rld_turn.proofs.status_request.has_right_signature.Goals as goal

pub is_right-requires-clause-within : goal.is_right-requires-clause-within
is_right-requires-clause-within c =
    let text = ap (λ (x : List ℕ). length x) (sym c.signature.ensures) ∙ c.if-signature-ne-SIGNATURE_LEN.false in
    let within = long_within c.octets_before.result (length (list_octets c.args.attributes.now)) (first_of MESSAGE_AUTHENTICATOR c.args.attributes.now) text c.octets_before.ensures.within in
    let whole = ap (λ (x : List ℕ). length x) c.requires.joined in
    let octets = ap (λ (x : List ℕ). length x) c.octets.ensures in
    grind (arith, common_steps)

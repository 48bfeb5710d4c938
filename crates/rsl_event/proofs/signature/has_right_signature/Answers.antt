use Rattle.std.proofs.Common.{length, unwrap_or, ap, List, [], Option, ℕ, sym, ◌∙◌, arith}
use Rattle.std.proofs.lemmas.Grind.{common_steps}
use Rattle.rsl_wire.specs.Attributes.{first_of, list_octets}
use Rattle.rsl_event.specs.declared.codes.TheConstants.{MESSAGE_AUTHENTICATOR}
use Rattle.rsl_event.proofs.SignatureLaws.{long_within}
use Rattle.rsl_event.proofs.signature.has_right_signature.Goals as goal

pub is_right-requires-clause-within : goal.is_right-requires-clause-within
is_right-requires-clause-within c =
    let first = c.args.attributes.now.signatures_are.first in
    let text = ap (λ (o : Option (List ℕ)). length (unwrap_or o [])) (sym first) ∙ ap (λ (x : List ℕ). length x) (sym c.text.ensures) ∙ c.if-text-ne-SIGNATURE_LEN.false in
    let within = long_within c.octets_before-at.result (length (list_octets c.args.attributes.now.all)) (first_of MESSAGE_AUTHENTICATOR c.args.attributes.now.all) text c.octets_before-at.ensures.within in
    let whole = ap (λ (x : List ℕ). length x) c.requires.joined in
    let octets = ap (λ (x : List ℕ). length x) c.octets.ensures in
    grind (arith, common_steps)

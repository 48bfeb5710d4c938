-- The value of the first Message-Authenticator lies within the packet.
use Rattle.std.proofs.Common.{◌+◌, ◌≤◌, List, ℕ, length, Option, ap, sym, subst, arith}
use Rattle.std.proofs.lemmas.Grind.{common_steps}
use Rattle.std.specs.Prelude.{IfSome}
use Rattle.rsl_wire.specs.Attributes.{list_octets}
use Rattle.rld_control.proofs.signature.has_right_signature.Goals as goal

pub is_signed_for-requires-clause-within : goal.is_signed_for-requires-clause-within
is_signed_for-requires-clause-within c =
    let within = subst (λ (first : Option (List ℕ)). IfSome first (λ value. c.octets_before.result + 2 + length value ≤ length (list_octets c.args.attributes.now))) (sym c.in-Some.ensures) c.octets_before.ensures.within in
    let whole = ap (λ (x : List ℕ). length x) c.requires.joined in
    let octets = ap (λ (x : List ℕ). length x) c.octets.ensures in
    grind (arith, common_steps)

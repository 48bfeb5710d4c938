use Rattle.std.proofs.Common.{◌≡◌, true, false, sym, ◌∙◌}
use Rattle.rsl_event.specs.Credential.{is_no_credential}
use Rattle.rsl_event.proofs.CredentialLaws.{found, passed}
use Rattle.rsl_event.proofs.credential.may_have_credential.Goals as goal

pub returns-then-not-is_no_credential : goal.returns-then-not-is_no_credential
returns-then-not-is_no_credential c =
    let some : is_no_credential c.in-Some.vendor_type ≡ false = sym c.is_no_credential.ensures ∙ c.if-not-is_no_credential.true in
    sym (found c.loop-rest.rest.now _ c.in-Some.after.now c.in-Some.ensures some) ∙ c.loop-rest.invariant

pub loop-rest-preserved : goal.loop-rest-preserved
loop-rest-preserved c =
    let none : is_no_credential c.in-Some.vendor_type ≡ true = sym c.is_no_credential.ensures ∙ c.if-not-is_no_credential.false in
    passed c.loop-rest.rest.now _ c.in-Some.after.now c.in-Some.ensures none ∙ c.loop-rest.invariant

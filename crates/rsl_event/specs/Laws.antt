-- Details and meanings.
use Rattle.std.specs.Prelude.{◌≡◌, ◌≢◌, ℕ, false, List, Option, Some, None, IsSomeAnd, Ok}
use Rattle.rsl_accounts.specs.Configuration.{Configuration}
use Rattle.rsl_wire.specs.Packet.{Fields}
use Rattle.rsl_event.specs.Cause.{request_cause}
use Rattle.rsl_event.specs.Detail.{detail_of}
use Rattle.rsl_event.specs.Meaning.{meaning}
use Rattle.rsl_event.specs.Request.{is_trusted}
use Rattle.rsl_event.specs.declared.detail.Detail.{Detail}
use Rattle.rsl_event.specs.declared.detail.Detail.TheVariants.{Asks, Rejected, Accounting}
use Rattle.rsl_event.specs.declared.detail.RejectCause.{RejectCause}
use Rattle.rsl_event.specs.declared.detail.RejectCause.TheVariants.{Malformed, UncheckedCredential}
use Rattle.rsl_event.specs.declared.event.Source.{Source}
use Rattle.rsl_event.specs.declared.meaning.Meaning.{Meaning}
use Rattle.rsl_event.specs.declared.meaning.Meaning.TheVariants.{Bare, Reject}
use Rattle.rsl_event.specs.declared.meaning.Port.TheVariants.{Auth}

-- the cause of a meaning: malformed attributes for a bare reject, any other for another, and else
-- none
abbrev pub IsCauseOf : Meaning → Option RejectCause → Type 0
IsCauseOf Bare cause = cause ≡ Some Malformed
IsCauseOf Reject cause = IsSomeAnd cause (λ named. named ≢ Malformed)
IsCauseOf _ cause = cause ≡ None

-- the cause in a detail
abbrev pub cause_in : Option Detail → Option RejectCause
cause_in (Some (Rejected cause)) = Some cause
cause_in (Some Asks) = None
cause_in (Some (Accounting status)) = None
cause_in None = None

abbrev pub CausesAreOfRejects : Type 0
CausesAreOfRejects =
    (config : Configuration) (boot : ℕ) (source : Source) (datagram : List ℕ) (meant : Meaning)
    → meaning config boot Auth source datagram ≡ Ok meant
    → IsCauseOf meant (cause_in (detail_of config Auth source datagram))

-- a client that is not trusted may pass on any credential, and so may all clients of versions 1 and 2 of the
-- account file
abbrev pub UncheckedAreOfTrusted : Type 0
UncheckedAreOfTrusted =
    (config : Configuration) (client : ℕ) (fields : Fields)
    → is_trusted config client ≡ false
    → request_cause config client fields ≢ Some UncheckedCredential

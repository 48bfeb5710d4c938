-- Each cause that is true of a datagram is told at its gate.
use Rattle.std.proofs.Common.{◌≡◌, true, refl}
use Rattle.rld_counts.specs.Fates.{causes_at}
use Rattle.rld_counts.specs.Laws.{AcctSays, AskSays, AuthSays, CausesAreTold, is_among}
use Rattle.rld_counts.specs.declared.cause.Cause.{Cause}
use Rattle.rld_counts.specs.declared.cause.Cause.TheVariants as causes
use Rattle.rld_counts.specs.declared.gate.Gate.TheVariants as gates
use Rattle.rld_turn.specs.Present.{PeerDatagram, ServiceSeen}

auth_told : (service : ServiceSeen) (one : PeerDatagram) (cause : Cause) → AuthSays service one cause
    → is_among cause (causes_at gates.Auth) ≡ true
auth_told service one causes.Short says = refl
auth_told service one causes.BadLength says = refl
auth_told service one causes.UnknownClient says = refl
auth_told service one causes.WrongCode says = refl
auth_told service one causes.BadSignature says = refl
auth_told service one causes.Unsigned says = refl
auth_told service one causes.UnsignedProxy says = refl
auth_told service one causes.ProxyTooLong says = refl
auth_told service one causes.Refused says = refl
auth_told service one causes.Unrecorded says = refl
auth_told service one causes.Unsent says = refl
auth_told service one causes.Accept says = refl
auth_told service one causes.LimitReject says = refl
auth_told service one causes.MalformedReject says = refl
auth_told service one causes.NotOneName says = refl
auth_told service one causes.NotOnePassword says = refl
auth_told service one causes.SeveralChallenges says = refl
auth_told service one causes.UnknownAccount says = refl
auth_told service one causes.WrongPassword says = refl
auth_told service one causes.DisabledAccount says = refl
auth_told service one causes.NoPassword says = refl
auth_told service one causes.UncheckedCredential says = refl
auth_told service one _ says = absurd says

acct_told : (service : ServiceSeen) (one : PeerDatagram) (cause : Cause) → AcctSays service one cause
    → is_among cause (causes_at gates.Acct) ≡ true
acct_told service one causes.Short says = refl
acct_told service one causes.BadLength says = refl
acct_told service one causes.UnknownClient says = refl
acct_told service one causes.WrongCode says = refl
acct_told service one causes.BadAuthenticator says = refl
acct_told service one causes.Malformed says = refl
acct_told service one causes.ProxyTooLong says = refl
acct_told service one causes.NoStatus says = refl
acct_told service one causes.NoSession says = refl
acct_told service one causes.Refused says = refl
acct_told service one causes.Unrecorded says = refl
acct_told service one causes.Unsent says = refl
acct_told service one causes.Start says = refl
acct_told service one causes.Stop says = refl
acct_told service one causes.InterimUpdate says = refl
acct_told service one causes.AccountingOn says = refl
acct_told service one causes.AccountingOff says = refl
acct_told service one causes.OtherStatus says = refl
acct_told service one causes.StartUnknown says = refl
acct_told service one causes.StopUnknown says = refl
acct_told service one causes.InterimUpdateUnknown says = refl
acct_told service one _ says = absurd says

ask_told : (service : ServiceSeen) (one : PeerDatagram) (cause : Cause) → AskSays service one cause
    → is_among cause (causes_at gates.Ask) ≡ true
ask_told service one causes.Refused says = refl
ask_told service one causes.Unrecorded says = refl
ask_told service one causes.Unsent says = refl
ask_told service one causes.Accept says = refl
ask_told service one causes.LimitReject says = refl
ask_told service one causes.UnknownAccount says = refl
ask_told service one causes.DisabledAccount says = refl
ask_told service one causes.Unserved says = refl
ask_told service one _ says = absurd says

pub causes_are_told : CausesAreTold
causes_are_told service gates.Auth one cause says = auth_told service one cause says
causes_are_told service gates.Acct one cause says = acct_told service one cause says
causes_are_told service gates.Ask one cause says = ask_told service one cause says

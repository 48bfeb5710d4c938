-- Fates say the truth of their datagrams.
use Rattle.std.proofs.Common.{◌≡◌, ℕ, Bool, true, false, List, [], ◌∷◌, ◌++◌, refl, sym, ap, subst, ◌∙◌}
use Rattle.std.specs.Prelude.{Option, Some, None, if◌then◌else◌}
use Rattle.rsl_event.specs.Answer.{said, said_of, said_to}
use Rattle.rsl_event.specs.Laws.{CausesAreOfRejects, IsCauseOf, cause_in}
use Rattle.rsl_event.specs.MeaningKind.{kind_of}
use Rattle.rsl_event.specs.declared.detail.RejectCause.{RejectCause}
use Rattle.rsl_event.specs.declared.detail.RejectCause.TheVariants as rejects
use Rattle.rsl_event.specs.declared.event.Act.TheVariants as acts
use Rattle.rsl_event.specs.declared.event.Decision.{Decision}
use Rattle.rsl_event.specs.declared.event.Decision.TheVariants as decisions
use Rattle.rsl_event.specs.declared.event.Key.{Key}
use Rattle.rsl_event.specs.declared.meaning.Dropped.{Dropped}
use Rattle.rsl_event.specs.declared.meaning.Dropped.TheVariants as drops
use Rattle.rsl_event.specs.declared.meaning.Meaning.{Meaning}
use Rattle.rsl_event.specs.declared.meaning.Meaning.TheVariants.{Bare, Reject, Own, Restart, Stray}
use Rattle.rsl_event.specs.declared.meaning.Port.TheVariants as ports
use Rattle.rsl_event.specs.declared.meaning_kind.MeaningKind.TheVariants as kinds
use Rattle.rsl_event.specs.declared.nas.Nas.{Nas}
use Rattle.rsl_event.specs.declared.status.Status.{Status}
use Rattle.rsl_event.specs.declared.status.Status.TheVariants as statuses
use Rattle.rsl_event.specs.declared.words.Said.{Said}
use Rattle.rsl_event.specs.declared.words.Said.TheVariants as words
use Rattle.rsl_shard.specs.declared.moved.Move.{Move}
use Rattle.rld_books.specs.Server.{ServerSeen, replay}
use Rattle.rld_counts.proofs.Meaning.{IsAccess, OfAcct, OfAuth, acct_meaning, auth_meaning, is_acct_drop, is_auth_drop}
use Rattle.rld_counts.specs.Ending.{account_cause, answer_cause, ask_cause, cause_of, drop_cause, fate_of, is_nobody, reject_cause, status_in}
use Rattle.rld_counts.specs.Fates.{port_of}
use Rattle.rld_counts.specs.Laws.{AcctSays, AskSays, AuthSays, HasStatus, HaveFates, IsDroppedBy, IsOfNone, IsOfSome, Means, Says, detail_at}
use Rattle.rld_counts.specs.declared.cause.Cause.{Cause}
use Rattle.rld_counts.specs.declared.cause.Cause.TheVariants as causes
use Rattle.rld_counts.specs.declared.gate.Gate.{Gate}
use Rattle.rld_counts.specs.declared.gate.Gate.TheVariants as gates
use Rattle.rld_turn.specs.Moves.{decided}
use Rattle.rld_turn.specs.Present.{PeerDatagram, ServiceSeen, meaning_of, source_of}
use Rattle.rld_turn.specs.Subject.{subject_in}
use Rattle.rld_turn.specs.Told.{IsSentAs, Told}
use Rattle.rld_turn.specs.Turned.{Turned, bare_told, request_told, NoneYet, ThenDropped, ThenRefused, ThenUnrecorded, ThenBare, ThenAnswered}
use Rattle.rld_turn.specs.declared.end.End.{End}
use Rattle.rld_turn.specs.declared.end.End.TheVariants as ends
use Rattle.rld_turn.specs.declared.subject.Subject.{Subject}

-- ---- drops

auth_dropped : (service : ServiceSeen) (one : PeerDatagram) (cause : Dropped) → IsDroppedBy service ports.Auth one cause
    → is_auth_drop cause ≡ true → AuthSays service one (drop_cause cause)
auth_dropped service one drops.Short is can = is
auth_dropped service one drops.BadLength is can = is
auth_dropped service one drops.UnknownClient is can = is
auth_dropped service one drops.WrongCode is can = is
auth_dropped service one drops.BadSignature is can = is
auth_dropped service one drops.Unsigned is can = is
auth_dropped service one drops.UnsignedProxy is can = is
auth_dropped service one drops.ProxyTooLong is can = is
auth_dropped service one _ is can = absurd (cc can)

acct_dropped : (service : ServiceSeen) (one : PeerDatagram) (cause : Dropped) → IsDroppedBy service ports.Acct one cause
    → is_acct_drop cause ≡ true → AcctSays service one (drop_cause cause)
acct_dropped service one drops.Short is can = is
acct_dropped service one drops.BadLength is can = is
acct_dropped service one drops.UnknownClient is can = is
acct_dropped service one drops.WrongCode is can = is
acct_dropped service one drops.BadAuthenticator is can = is
acct_dropped service one drops.Malformed is can = is
acct_dropped service one drops.ProxyTooLong is can = is
acct_dropped service one drops.NoStatus is can = is
acct_dropped service one drops.NoSession is can = is
acct_dropped service one _ is can = absurd (cc can)

-- ---- asks

-- what is true of the request of an ask is true of the ask
ask_says : (service : ServiceSeen) (one : PeerDatagram) (cause : Cause) → AuthSays service one cause → AskSays service one (ask_cause cause)
ask_says service one causes.Refused says = says
ask_says service one causes.Unrecorded says = says
ask_says service one causes.Unsent says = says
ask_says service one causes.Accept says = says
ask_says service one causes.LimitReject says = says
ask_says service one causes.UnknownAccount says = says
ask_says service one causes.DisabledAccount says = says
ask_says service one _ says = tt

-- what a cause says at the port of a gate
abbrev PortSays : ServiceSeen → Gate → PeerDatagram → Cause → Type 0
PortSays service gates.Auth one cause = AuthSays service one cause
PortSays service gates.Acct one cause = AcctSays service one cause
PortSays service gates.Ask one cause = AuthSays service one cause

at_gate : (service : ServiceSeen) (gate : Gate) (one : PeerDatagram) (told : Told) → PortSays service gate one (cause_of told)
    → Says service one (fate_of gate told)
at_gate service gates.Auth one told says = says
at_gate service gates.Acct one told says = says
at_gate service gates.Ask one told says = ask_says service one (cause_of told) says

auth_drop_says : (service : ServiceSeen) (one : PeerDatagram) (cause : Dropped) → IsDroppedBy service ports.Auth one cause
    → AuthSays service one (drop_cause cause)
auth_drop_says service one cause is =
    auth_dropped service one cause is (subst (λ r. OfAuth r) is (auth_meaning service.config service.boot (source_of service one.peer) one.octets))

one_dropped : (service : ServiceSeen) (gate : Gate) (one : PeerDatagram) (cause : Dropped) → IsDroppedBy service (port_of gate) one cause
    → PortSays service gate one (drop_cause cause)
one_dropped service gates.Auth one cause is = auth_drop_says service one cause is
one_dropped service gates.Acct one cause is =
    acct_dropped service one cause is (subst (λ r. OfAcct r) is (acct_meaning service.config service.boot (source_of service one.peer) one.octets))
one_dropped service gates.Ask one cause is = auth_drop_says service one cause is

-- ---- without an answer

one_refused : (service : ServiceSeen) (gate : Gate) (one : PeerDatagram) (meant : Meaning) → Means service (port_of gate) one meant
    → PortSays service gate one causes.Refused
one_refused service gates.Auth one meant means = record { meant = meant; means = means }
one_refused service gates.Acct one meant means = record { meant = meant; means = means }
one_refused service gates.Ask one meant means = record { meant = meant; means = means }

one_unrecorded : (service : ServiceSeen) (gate : Gate) (one : PeerDatagram) (meant : Meaning) → Means service (port_of gate) one meant
    → PortSays service gate one causes.Unrecorded
one_unrecorded service gates.Auth one meant means = record { meant = meant; means = means }
one_unrecorded service gates.Acct one meant means = record { meant = meant; means = means }
one_unrecorded service gates.Ask one meant means = record { meant = meant; means = means }

one_unsent : (service : ServiceSeen) (gate : Gate) (one : PeerDatagram) (meant : Meaning) → Means service (port_of gate) one meant
    → PortSays service gate one causes.Unsent
one_unsent service gates.Auth one meant means = record { meant = meant; means = means }
one_unsent service gates.Acct one meant means = record { meant = meant; means = means }
one_unsent service gates.Ask one meant means = record { meant = meant; means = means }

-- ---- with one

-- a reject has the cause that it is rejected for
rejected : (service : ServiceSeen) (one : PeerDatagram) (cause : Option RejectCause) → Means service ports.Auth one Reject
    → cause_in (detail_at service ports.Auth one) ≡ cause → IsCauseOf Reject cause
    → AuthSays service one (reject_cause cause)
rejected service one None means is holds = absurd holds
rejected service one (Some rejects.Malformed) means is holds = absurd (holds refl)
rejected service one (Some rejects.NotOneName) means is holds = record { means = means; is_cause = is }
rejected service one (Some rejects.NotOnePassword) means is holds = record { means = means; is_cause = is }
rejected service one (Some rejects.SeveralChallenges) means is holds = record { means = means; is_cause = is }
rejected service one (Some rejects.UnknownAccount) means is holds = record { means = means; is_cause = is }
rejected service one (Some rejects.WrongPassword) means is holds = record { means = means; is_cause = is }
rejected service one (Some rejects.DisabledAccount) means is holds = record { means = means; is_cause = is }
rejected service one (Some rejects.NoPassword) means is holds = record { means = means; is_cause = is }
rejected service one (Some rejects.UncheckedCredential) means is holds = record { means = means; is_cause = is }

-- a request that asks is accepted, or finds no place
asked : (service : ServiceSeen) (one : PeerDatagram) (cause : Option RejectCause) (status : Option Status) (subject : Option Subject)
    (account : ℕ) (key : Key) (nas : Nas) (station : Option (List ℕ)) (decision : Decision)
    → Means service ports.Auth one (Own account (acts.Ask key nas station))
    → AuthSays service one (answer_cause cause status subject (said_of decision))
asked service one cause status subject account key nas station (decisions.Accept number) means = record { account = account; key = key; nas = nas; station = station; means = means }
asked service one cause status subject account key nas station decisions.LimitReject means = record { account = account; key = key; nas = nas; station = station; means = means }
asked service one cause status subject account key nas station decisions.Done means = record { account = account; key = key; nas = nas; station = station; means = means }

auth_said : (service : ServiceSeen) (one : PeerDatagram) (meant : Meaning) (decision : Decision) (cause : Option RejectCause)
    (status : Option Status) (subject : Option Subject)
    → Means service ports.Auth one meant → IsAccess meant
    → cause_in (detail_at service ports.Auth one) ≡ cause → IsCauseOf meant cause
    → AuthSays service one (answer_cause cause status subject (said meant decision))
auth_said service one Bare decision cause status subject means can is holds =
    subst (λ (c : Option RejectCause). AuthSays service one (answer_cause c status subject words.Reject)) (sym holds) means
auth_said service one Reject decision cause status subject means can is holds = rejected service one cause means is holds
auth_said service one (Own account (acts.Ask key nas station)) decision cause status subject means can is holds =
    asked service one cause status subject account key nas station decision means
auth_said service one (Own account (acts.Alive nas session bundle class station)) decision cause status subject means can is holds = absurd can
auth_said service one (Own account (acts.Stop nas session)) decision cause status subject means can is holds = absurd can
auth_said service one (Own account (acts.Sweep nas delay)) decision cause status subject means can is holds = absurd can
auth_said service one (Own account acts.Tick) decision cause status subject means can is holds = absurd can
auth_said service one (Restart nas delay) decision cause status subject means can is holds = absurd can
auth_said service one (Stray note) decision cause status subject means can is holds = absurd can

-- a request of a session that concerns nobody is stray
stray : (service : ServiceSeen) (one : PeerDatagram) (meant : Meaning) (status : Status)
    → Means service ports.Acct one meant → kind_of meant ≡ kinds.Account → status_in (detail_at service ports.Acct one) ≡ Some status
    → is_nobody (subject_in (meaning_of service ports.Acct one)) ≡ true → IsOfNone service one status
stray service one Bare status means kind is nobody = absurd (cc kind)
stray service one Reject status means kind is nobody = absurd (cc kind)
stray service one (Own account act) status means kind is nobody = absurd (cc (sym (ap (λ r. is_nobody (subject_in r)) means) ∙ nobody))
stray service one (Restart nas delay) status means kind is nobody = absurd (cc (sym (ap (λ r. is_nobody (subject_in r)) means) ∙ nobody))
stray service one (Stray note) status means kind is nobody = record { note = note; means = means; is_status = is }

-- by whether it concerns nobody
started : (service : ServiceSeen) (one : PeerDatagram) (nobody : Bool)
    → (nobody ≡ false → IsOfSome service one statuses.Start) → (nobody ≡ true → IsOfNone service one statuses.Start)
    → AcctSays service one (if nobody then causes.StartUnknown else causes.Start)
started service one true some none = none refl
started service one false some none = some refl

stopped : (service : ServiceSeen) (one : PeerDatagram) (nobody : Bool)
    → (nobody ≡ false → IsOfSome service one statuses.Stop) → (nobody ≡ true → IsOfNone service one statuses.Stop)
    → AcctSays service one (if nobody then causes.StopUnknown else causes.Stop)
stopped service one true some none = none refl
stopped service one false some none = some refl

updated : (service : ServiceSeen) (one : PeerDatagram) (nobody : Bool)
    → (nobody ≡ false → IsOfSome service one statuses.InterimUpdate) → (nobody ≡ true → IsOfNone service one statuses.InterimUpdate)
    → AcctSays service one (if nobody then causes.InterimUpdateUnknown else causes.InterimUpdate)
updated service one true some none = none refl
updated service one false some none = some refl

has_status : (service : ServiceSeen) (one : PeerDatagram) (meant : Meaning) (status : Option Status)
    → Means service ports.Acct one meant → status_in (detail_at service ports.Acct one) ≡ status → HasStatus service one status
has_status service one meant status means is = record { meaning = record { meant = meant; means = means }; is_status = is }

acct_said : (service : ServiceSeen) (one : PeerDatagram) (meant : Meaning) (status : Option Status)
    → Means service ports.Acct one meant → kind_of meant ≡ kinds.Account → status_in (detail_at service ports.Acct one) ≡ status
    → AcctSays service one (account_cause status (subject_in (meaning_of service ports.Acct one)))
acct_said service one meant None means kind is = has_status service one meant None means is
acct_said service one meant (Some statuses.Start) means kind is =
    started service one (is_nobody (subject_in (meaning_of service ports.Acct one)))
    (λ known. record { has_status = has_status service one meant (Some statuses.Start) means is; is_known = known })
    (λ nobody. stray service one meant statuses.Start means kind is nobody)
acct_said service one meant (Some statuses.Stop) means kind is =
    stopped service one (is_nobody (subject_in (meaning_of service ports.Acct one)))
    (λ known. record { has_status = has_status service one meant (Some statuses.Stop) means is; is_known = known })
    (λ nobody. stray service one meant statuses.Stop means kind is nobody)
acct_said service one meant (Some statuses.InterimUpdate) means kind is =
    updated service one (is_nobody (subject_in (meaning_of service ports.Acct one)))
    (λ known. record { has_status = has_status service one meant (Some statuses.InterimUpdate) means is; is_known = known })
    (λ nobody. stray service one meant statuses.InterimUpdate means kind is nobody)
acct_said service one meant (Some statuses.AccountingOn) means kind is = has_status service one meant (Some statuses.AccountingOn) means is
acct_said service one meant (Some statuses.AccountingOff) means kind is = has_status service one meant (Some statuses.AccountingOff) means is

auth_answered : CausesAreOfRejects → (service : ServiceSeen) (one : PeerDatagram) (meant : Meaning) (decision : Decision) (word : Said)
    → Means service ports.Auth one meant → word ≡ said meant decision
    → AuthSays service one (cause_of (request_told service ports.Auth one (ends.Answered word)))
auth_answered law service one meant decision word means sent =
    let detail = detail_at service ports.Auth one in
    let subject = subject_in (meaning_of service ports.Auth one) in
    subst (λ (w : Said). AuthSays service one (answer_cause (cause_in detail) (status_in detail) subject w)) (sym sent)
    (auth_said service one meant decision (cause_in detail) (status_in detail) subject means
    (subst (λ r. OfAuth r) means (auth_meaning service.config service.boot (source_of service one.peer) one.octets)) refl
    (law service.config service.boot (source_of service one.peer) one.octets meant means))

one_answered : CausesAreOfRejects → (service : ServiceSeen) (gate : Gate) (one : PeerDatagram) (meant : Meaning) (decision : Decision) (end : End)
    → Means service (port_of gate) one meant → IsSentAs (said meant decision) end
    → PortSays service gate one (cause_of (request_told service (port_of gate) one end))
one_answered law service gate one meant decision (ends.Dropped cause) means sent = absurd sent
one_answered law service gate one meant decision ends.Refused means sent = absurd sent
one_answered law service gate one meant decision ends.Unrecorded means sent = absurd sent
one_answered law service gate one meant decision (ends.Unsent word) means sent = one_unsent service gate one meant means
one_answered law service gates.Auth one meant decision (ends.Answered word) means sent = auth_answered law service one meant decision word means sent
one_answered law service gates.Ask one meant decision (ends.Answered word) means sent = auth_answered law service one meant decision word means sent
one_answered law service gates.Acct one meant decision (ends.Answered word) means sent =
    let kind = subst (λ r. OfAcct r) means (acct_meaning service.config service.boot (source_of service one.peer) one.octets) in
    let detail = detail_at service ports.Acct one in
    subst (λ (w : Said). AcctSays service one (answer_cause (cause_in detail) (status_in detail) (subject_in (meaning_of service ports.Acct one)) w))
    (sym (sent ∙ ap (λ k. said_to k decision) kind))
    (acct_said service one meant (status_in detail) means kind refl)

-- ---- turns

one_more : (service : ServiceSeen) (gate : Gate) (told : List Told) (taken : List PeerDatagram) (new : Told) (one : PeerDatagram)
    → HaveFates service gate told taken → PortSays service gate one (cause_of new)
    → HaveFates service gate (told ++ new ∷ []) (taken ++ one ∷ [])
one_more service gate [] [] new one have says = (at_gate service gate one new says, tt)
one_more service gate [] (two ∷ taken) new one have says = absurd have
one_more service gate (two ∷ told) [] new one have says = absurd have
one_more service gate (two ∷ told) (first ∷ taken) new one (says_first, have) says =
    (says_first, one_more service gate told taken new one have says)

pub have_fates : CausesAreOfRejects → (service : ServiceSeen) (gate : Gate) (moment : ℕ) (recorded : Bool) (begun : ServerSeen)
    (told : List Told) (taken : List PeerDatagram) (batch : List Move) (sent : List PeerDatagram)
    → Turned service (port_of gate) moment recorded begun told taken batch sent → HaveFates service gate told taken
have_fates law service gate moment recorded begun told taken batch sent NoneYet = tt
have_fates law service gate moment recorded begun told taken batch sent (ThenDropped {told = t} {taken = d} {batch = b} {sent = s} before one cause is) =
    one_more service gate t d (bare_told service one (ends.Dropped cause)) one
    (have_fates law service gate moment recorded begun t d b s before) (one_dropped service gate one cause is)
have_fates law service gate moment recorded begun told taken batch sent (ThenRefused {told = t} {taken = d} {batch = b} {sent = s} before one refused) =
    one_more service gate t d (bare_told service one ends.Refused) one
    (have_fates law service gate moment recorded begun t d b s before) (one_refused service gate one refused.meant refused.understood)
have_fates law service gate moment recorded begun told taken batch sent (ThenUnrecorded {told = t} {taken = d} {batch = b} {sent = s} before one moved failed unrecorded) =
    one_more service gate t d (request_told service (port_of gate) one ends.Unrecorded) one
    (have_fates law service gate moment recorded begun t d b s before) (one_unrecorded service gate one unrecorded.meant unrecorded.understood)
have_fates law service gate moment recorded begun told taken batch sent (ThenBare {told = t} {taken = d} {batch = b} {sent = s} before one reply end answered) =
    one_more service gate t d (request_told service (port_of gate) one end) one
    (have_fates law service gate moment recorded begun t d b s before) (one_answered law service gate one answered.meant (decided (replay begun b) None) end answered.understood answered.ended)
have_fates law service gate moment recorded begun told taken batch sent (ThenAnswered {told = t} {taken = d} {batch = b} {sent = s} before one reply end moved made answered) =
    one_more service gate t d (request_told service (port_of gate) one end) one
    (have_fates law service gate moment recorded begun t d b s before) (one_answered law service gate one answered.meant (decided (replay begun b) (Some moved)) end answered.understood answered.ended)

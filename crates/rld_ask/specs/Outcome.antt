-- What became of an ask, by what was answered to its request.
use Rattle.std.specs.Prelude.{ℕ, List, codes, Option, Some}
use Rattle.rsl_event.specs.declared.detail.Detail.{Detail}
use Rattle.rsl_event.specs.declared.detail.Detail.TheVariants.{Rejected}
use Rattle.rsl_event.specs.declared.detail.RejectCause.TheVariants as causes
use Rattle.rsl_event.specs.declared.words.Said.{Said}
use Rattle.rsl_event.specs.declared.words.Said.TheVariants.{Accept, LimitReject, Reject}
use Rattle.rld_ask.specs.declared.outcome.Outcome.{Outcome}
use Rattle.rld_ask.specs.declared.outcome.Outcome.TheVariants.{Accepted, LimitReached, UnknownAccount, Disabled, Unanswered}

-- a reject that is no matter of places
abbrev pub rejected_as : Option Detail → Outcome
rejected_as (Some (Rejected causes.UnknownAccount)) = UnknownAccount
rejected_as (Some (Rejected causes.DisabledAccount)) = Disabled
rejected_as _ = Unanswered

-- by what was answered, if anything was
abbrev pub outcome_of : Option Said → Option Detail → Outcome
outcome_of (Some (Accept number)) detail = Accepted
outcome_of (Some LimitReject) detail = LimitReached
outcome_of (Some Reject) detail = rejected_as detail
outcome_of _ detail = Unanswered

abbrev pub status_of : Outcome → ℕ
status_of Accepted = 200
status_of LimitReached = 403
status_of UnknownAccount = 404
status_of Disabled = 423
status_of Unanswered = 503

abbrev pub text_of : Outcome → List ℕ
text_of Accepted = codes "accepted"
text_of LimitReached = codes "session limit reached"
text_of UnknownAccount = codes "unknown account"
text_of Disabled = codes "account disabled"
text_of Unanswered = codes "not recorded"

-- Whom a request concerns, by what it means.
use Rattle.std.specs.Prelude.{Option, Some, None, Result, Ok, Err}
use Rattle.rsl_event.specs.declared.meaning.Dropped.{Dropped}
use Rattle.rsl_event.specs.declared.meaning.Meaning.{Meaning}
use Rattle.rsl_event.specs.declared.meaning.Meaning.TheVariants.{Bare, Reject, Own, Restart, Stray}
use Rattle.rld_turn.specs.declared.subject.Subject.{Subject}
use Rattle.rld_turn.specs.declared.subject.Subject.TheVariants.{Account, AccessServer, Nobody}

-- what is stray concerns nobody: an accounting packet of another status, or of a session whose User-Name no account has
abbrev pub subject_of : Meaning → Subject
subject_of Bare = Nobody
subject_of Reject = Nobody
subject_of (Own account act) = Account
subject_of (Restart nas delay) = AccessServer
subject_of (Stray note) = Nobody

-- the subject of a datagram, if it has a meaning
abbrev pub subject_in : Result Meaning Dropped → Option Subject
subject_in (Ok meant) = Some (subject_of meant)
subject_in (Err cause) = None

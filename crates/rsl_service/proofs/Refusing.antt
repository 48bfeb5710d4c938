-- A datagram that is refused, before a moment is read for it or after, and one that is answered.
use Rattle.std.proofs.Common.{◌≡◌, ℕ, ◌<◌, List, [], ◌∷◌, Option, Result, Ok, Err, refl, inl, inr}
use Rattle.rsl_event.specs.Copied.{TakesMemory}
use Rattle.rsl_event.specs.Meaning.{meaning}
use Rattle.rsl_event.specs.declared.event.Source.{Source}
use Rattle.rsl_event.specs.declared.meaning.Dropped.{Dropped}
use Rattle.rsl_event.specs.declared.meaning.Meaning.{Meaning}
use Rattle.rsl_event.specs.declared.meaning.Meaning.TheVariants.{Bare, Own, Reject, Restart, Stray}
use Rattle.rsl_event.specs.declared.meaning.Port.{Port}
use Rattle.rsl_service.specs.Applied.{IsStopped, swept_before}
use Rattle.rsl_service.specs.Service.{ServiceSeen}
use Rattle.rsl_service.specs.declared.fault.ApplyFault.{ApplyFault}
use Rattle.rsl_record.specs.declared.receipt.Receipt.{Receipt}
use Rattle.rsl_port.proofs.Callers.{none_shown}
use Rattle.rsl_service.specs.Served.{HasStopped, IsAnsweredBy, IsRefused}
use Rattle.rsl_port.specs.Shown.{HasShown}
use Rattle.rsl_port.specs.Told.{datagram_of}
use Rattle.rsl_service.specs.Turned.{HasAnswered, HasRefused}
use Rattle.rsl_port.specs.declared.datagram_port.Datagram.{Datagram}

-- a meaning of which octets could not be copied
pub uncopied : (service : ServiceSeen) (port : Port) (source : Source) (datagram : List ℕ)
    (shown : Option (List ℕ)) (old : List Receipt)
    → TakesMemory (meaning service.config service.boot port source datagram)
    → HasRefused service port (datagram_of source datagram) shown shown old old
uncopied service port source datagram shown old takes = record {
  shown = [];
  read = none_shown shown;
  refused = found (meaning service.config service.boot port source datagram) refl takes;
}
  where
    found : (m : Result Meaning Dropped)
        → meaning service.config service.boot port source datagram ≡ m → TakesMemory m
        → IsRefused service port (datagram_of source datagram) [] old old
    found (Ok meant) is takes = record {
      meant = meant;
      understood = is;
      stopped = inl (refl, refl);
    }
    found (Err dropped) is takes = absurd takes

-- what a fault leaves of the moves of each meaning
has_stopped : (service : ServiceSeen) (moment : ℕ) (meant : Meaning) (fault : ApplyFault)
    (old new : List Receipt) → IsStopped service moment meant fault old new
    → swept_before fault < service.config.settings.shards → HasStopped service moment meant old new
has_stopped service moment (Restart nas delay) fault old new stopped fewer = (swept_before fault, fewer, stopped)
has_stopped service moment (Own account act) fault old new stopped fewer = stopped.1
has_stopped service moment (Stray note) fault old new stopped fewer = stopped.1
has_stopped service moment Bare fault old new stopped fewer = stopped.1
has_stopped service moment Reject fault old new stopped fewer = stopped.1

-- one whose moves met a fault, at the moment that was read for it
pub stopped_at : (service : ServiceSeen) (port : Port) (one : Datagram Source) (moment : ℕ) (meant : Meaning)
    (fault : ApplyFault) (old_shown new_shown : Option (List ℕ)) (old new : List Receipt)
    → meaning service.config service.boot port one.peer one.octets ≡ Ok meant
    → HasShown (moment ∷ []) old_shown new_shown → IsStopped service moment meant fault old new
    → swept_before fault < service.config.settings.shards
    → HasRefused service port one old_shown new_shown old new
stopped_at service port one moment meant fault old_shown new_shown old new is read stopped fewer = record {
  shown = moment ∷ [];
  read = read;
  refused = record {
    meant = meant;
    understood = is;
    stopped = inr (moment, refl, has_stopped service moment meant fault old new stopped fewer);
  };
}

-- one that was answered, at the moment that was read for it
pub answered_at : (service : ServiceSeen) (port : Port) (one : Datagram Source) (moment : ℕ)
    (old_shown new_shown : Option (List ℕ)) (old new : List Receipt) (reply : Datagram Source)
    → HasShown (moment ∷ []) old_shown new_shown
    → IsAnsweredBy service port one moment old new reply
    → HasAnswered service port one old_shown new_shown old new reply
answered_at service port one moment old_shown new_shown old new reply read answered = record {
  moment = moment;
  read = read;
  answered = answered;
}

pub ruleset refusing = (uncopied, answered_at)

-- How a turn of a receiver ends, and what it leaves.
use Rattle.std.specs.Prelude.{◌≡◌, ℕ, ◌+◌, Bool, true, false, List, [], ◌∷◌, ◌++◌, Option}
use Rattle.rsl_event.specs.declared.meaning.Port.{Port}
use Rattle.rsl_event.specs.declared.event.Source.{Source}
use Rattle.rsl_service.specs.Service.{ServiceSeen}
use Rattle.rsl_record.specs.declared.receipt.Receipt.{Receipt}
use Rattle.rsl_service.specs.Counted.{IsCalled}
use Rattle.rsl_service.specs.Served.{IsAnsweredBy, IsDropped, IsRefused, State}
use Rattle.rsl_port.specs.Shown.{HasShown}
use Rattle.rsl_service.specs.declared.counts.Counts.{Counts}
use Rattle.rsl_port.specs.declared.datagram_port.Datagram.{Datagram}
use Rattle.rsl_port.specs.declared.datagram_port.Numbers.{Numbers}
use Rattle.rsl_service.specs.declared.receiver.Unanswered.{Unanswered}
use Rattle.rsl_service.specs.declared.receiver.Unanswered.TheVariants as unanswered
use Rattle.rsl_service.specs.declared.counts.Turn.{Turn}
use Rattle.rsl_service.specs.declared.counts.Turn.TheVariants.{Down, Nothing, Dropped, Refused, Answered, Unsent}

abbrev pub is_down : Turn → Bool
is_down Down = true
is_down Nothing = false
is_down Dropped = false
is_down Refused = false
is_down Answered = false
is_down Unsent = false

-- the counts with another turn
abbrev pub counted : Turn → Counts → Counts
counted Down counts = record counts { turns = counts.turns + 1 }
counted Nothing counts = record counts { turns = counts.turns + 1 }
counted Dropped counts = record counts {
  turns = counts.turns + 1;
  received = counts.received + 1;
  dropped = counts.dropped + 1;
}
counted Refused counts = record counts {
  turns = counts.turns + 1;
  received = counts.received + 1;
  refused = counts.refused + 1;
}
counted Answered counts = record counts {
  turns = counts.turns + 1;
  received = counts.received + 1;
  answered = counts.answered + 1;
}
counted Unsent counts = record counts {
  turns = counts.turns + 1;
  received = counts.received + 1;
  unsent = counts.unsent + 1;
}

-- the calls of the port in a turn
abbrev pub HasCalled : Turn → (old new : Numbers) → Type 0
HasCalled Down old new = IsCalled 1 1 0 0 old new
HasCalled Nothing old new = IsCalled 1 0 0 0 old new
HasCalled Dropped old new = IsCalled 1 0 0 0 old new
HasCalled Refused old new = IsCalled 1 0 0 0 old new
HasCalled Answered old new = IsCalled 1 0 1 0 old new
HasCalled Unsent old new = IsCalled 1 0 1 1 old new

-- another datagram was taken
abbrev pub TookOne : Datagram Source → (old new : State) → Type 0
TookOne one old new = new.taken ≡ old.taken ++ one ∷ []

-- nothing was taken, noted or sent, and the clock was not read
abbrev pub TookNone : (old new : State) → Type 0
TookNone old new =
    (new.taken ≡ old.taken) × (new.receipts ≡ old.receipts) × (new.sent ≡ old.sent)
    × (new.shown ≡ old.shown)

-- a datagram was taken and dropped
pub record TookDropped (service : ServiceSeen) (port : Port) (old new : State) : Type 0 where
  pub one : Datagram Source
  pub took : TookOne one old new
  pub unnoted : new.receipts ≡ old.receipts
  pub unsent : new.sent ≡ old.sent
  pub unread : new.shown ≡ old.shown
  pub dropped : IsDropped service port one

-- a datagram was taken and refused
pub record TookRefused (service : ServiceSeen) (port : Port) (old new : State) : Type 0 where
  pub one : Datagram Source
  pub shown : List ℕ
  pub took : TookOne one old new
  pub unsent : new.sent ≡ old.sent
  pub read : HasShown shown old.shown new.shown
  pub refused : IsRefused service port one shown old.receipts new.receipts

-- a datagram was taken, and its answer tried to send
pub record TookAnswered (service : ServiceSeen) (port : Port) (old new : State) : Type 0 where
  pub one : Datagram Source
  pub reply : Datagram Source
  pub moment : ℕ
  pub took : TookOne one old new
  pub sends : new.sent ≡ old.sent ++ reply ∷ []
  pub read : HasShown (moment ∷ []) old.shown new.shown
  pub answered : IsAnsweredBy service port one moment old.receipts new.receipts reply

-- the effect of a turn, by how it ended
abbrev pub HasTurned : ServiceSeen → Port → Turn → (old new : State) → Type 0
HasTurned service port Down old new = TookNone old new
HasTurned service port Nothing old new = TookNone old new
HasTurned service port Dropped old new = TookDropped service port old new
HasTurned service port Refused old new = TookRefused service port old new
HasTurned service port Answered old new = TookAnswered service port old new
HasTurned service port Unsent old new = TookAnswered service port old new

-- what an answered datagram leaves, and a clock that was read for it
pub record HasAnswered (service : ServiceSeen) (port : Port) (one : Datagram Source)
    (old_shown new_shown : Option (List ℕ)) (old new : List Receipt) (reply : Datagram Source) : Type 0 where
  pub moment : ℕ
  pub read : HasShown (moment ∷ []) old_shown new_shown
  pub answered : IsAnsweredBy service port one moment old new reply

-- a datagram that was refused, and a clock that was read for it or not
pub record HasRefused (service : ServiceSeen) (port : Port) (one : Datagram Source)
    (old_shown new_shown : Option (List ℕ)) (old new : List Receipt) : Type 0 where
  pub shown : List ℕ
  pub read : HasShown shown old_shown new_shown
  pub refused : IsRefused service port one shown old new

-- what an unanswered datagram leaves, by the reason
abbrev pub IsUnanswered : ServiceSeen → Port → Unanswered → Datagram Source
    → (old_shown new_shown : Option (List ℕ)) → (old new : List Receipt) → Type 0
IsUnanswered service port unanswered.Dropped one old_shown new_shown old new =
    IsDropped service port one × (new ≡ old) × (new_shown ≡ old_shown)
IsUnanswered service port unanswered.Refused one old_shown new_shown old new =
    HasRefused service port one old_shown new_shown old new

-- What a watcher learns of datagrams, if it reports that.
use Rattle.std.specs.Prelude.{◌≡◌, ℕ, ⊤, ◌+◌, List, ◌++◌, Option, Some, None}
use Rattle.rsl_accounts.specs.Configuration.{Configuration, client_number}
use Rattle.rsl_event.specs.declared.detail.Detail.{Detail}
use Rattle.rsl_event.specs.declared.words.Said.{Said}
use Rattle.rld_turn.specs.declared.end.End.{End}
use Rattle.rld_turn.specs.declared.end.End.TheVariants.{Answered, Unsent}
use Rattle.rld_turn.specs.declared.origin.Origin.{Origin}
use Rattle.rld_turn.specs.declared.subject.Subject.{Subject}
use Rattle.rld_turn.specs.declared.watch.Ended.{Ended}

-- the origin of a datagram, the client that has its source's address, its octets, its detail and its
-- subject, or none of these, and its end
pub record Told : Type 0 where
  pub origin : Origin
  pub client : Option ℕ
  pub octets : List ℕ
  pub detail : Option Detail
  pub subject : Option Subject
  pub end : End

-- what a watcher learns, without the address of the octets
abbrev pub told_as : Ended → Told
told_as ended = record {
  origin = ended.origin;
  client = ended.client;
  octets = ended.octets.now;
  detail = ended.detail;
  subject = ended.subject;
  end = ended.end;
}

-- what a watcher learns of a datagram of this origin
abbrev pub told_of : Configuration → Origin → (octets : List ℕ) → Option Detail → Option Subject → End → Told
told_of config origin octets detail subject end = record {
  origin = origin;
  client = client_number config origin.source.address;
  octets = octets;
  detail = detail;
  subject = subject;
  end = end;
}

-- a watcher has learned this too: what it knew before, and what it knows now
abbrev pub HasTold : (told : List Told) → (knew knows : List Told → Type 0) → Type 0
HasTold told knew knows = (before : List Told) → knew before → knows (before ++ told)

-- a watcher has learned that a turn more began, if it reports how many have
abbrev pub HasBegun : (old new : Option ℕ) → Type 0
HasBegun old None = ⊤
HasBegun None (Some after) = ⊥
HasBegun (Some before) (Some after) = after ≡ before + 1

-- this was answered, and was sent or could not be
abbrev pub IsSentAs : Said → End → Type 0
IsSentAs said (Answered word) = word ≡ said
IsSentAs said (Unsent word) = word ≡ said
IsSentAs said _ = ⊥

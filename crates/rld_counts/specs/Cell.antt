-- The counts of a receiver.
use Rattle.std.specs.Prelude.{◌≡◌, ℕ, ◌==◌, ◌<◌, Bool, false, List, [], ◌++◌, filter, length, map, Option, None, Some, if◌then◌else◌, slice_index_or}
use Rattle.std.specs.List.{filter_map}
use Rattle.rld_counts.specs.Counts.{counts_of}
use Rattle.rld_counts.specs.Histogram.{Times, times_of}
use Rattle.rld_counts.specs.declared.fate.Fate.{Fate}
use Rattle.rld_counts.specs.declared.counted.Counted.{Counted}

-- the counts of all datagrams, those of each client, and the times of the answers
pub record CellSeen : Type 0 where
  pub counts : List ℕ
  pub clients : List (List ℕ)
  pub times : Times

-- whether a datagram is a client's
abbrev pub is_of : (client : ℕ) → Option ℕ → Bool
is_of client None = false
is_of client (Some one) = one == client

-- the fates of a client's datagrams
abbrev pub fates_of : (client : ℕ) → List Counted → List Fate
fates_of client all = map (λ one. one.fate) (filter (λ one. is_of client one.client) all)

-- the counts of each client, of these datagrams
abbrev pub AreCounted : (all : List Counted) → (clients : List (List ℕ)) → Type 0
AreCounted all clients =
    (client : ℕ) → client < length clients → slice_index_or clients client [] ≡ counts_of (fates_of client all)

-- the times of the answers to these datagrams
abbrev pub HasTimes : (all : List Counted) → Times → Type 0
HasTimes all times = times ≡ times_of (filter_map (λ one. one.micros) all)

-- a cell has counted these datagrams, and no others
pub record HasCounted (all : List Counted) (cell : CellSeen) : Type 0 where
  pub counts : cell.counts ≡ counts_of (map (λ one. one.fate) all)
  pub clients : AreCounted all cell.clients
  pub times : HasTimes all cell.times

-- a cell has counted some datagrams, and nothing else
pub record IsCount (cell : CellSeen) : Type 0 where
  pub all : List Counted
  pub counted : HasCounted all cell

-- a datagram, and datagrams, without the client: counted in the total alone
abbrev pub without_client : Counted → Counted
without_client one = record { fate = one.fate; client = None; micros = one.micros }

abbrev pub without_clients : List Counted → List Counted
without_clients all = map without_client all

-- The datagrams of a cell, added to those of a cell for a number of clients: if it is for another
-- number, its client numbers mean other clients.
abbrev pub for_clients : (clients : ℕ) → CellSeen → (had : List Counted) → List Counted
for_clients clients cell had = if length cell.clients == clients then had else without_clients had

-- the counts of some datagrams and the counts of others make the counts of both
abbrev pub AreJoined : (one other both : List ℕ) → Type 0
AreJoined one other both =
    (fates others : List Fate) → one ≡ counts_of fates → other ≡ counts_of others → both ≡ counts_of (fates ++ others)

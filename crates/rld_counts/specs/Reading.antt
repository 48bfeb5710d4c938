-- The sums of receivers' counts.
--
-- A receiver counts under a lock, so no clause can name what it has counted. But a clause can name
-- what was read: `had` says of each reading which datagrams its receiver had counted.
use Rattle.std.specs.Prelude.{ℕ, List, [], ◌++◌, map, if◌then◌else◌}
use Rattle.std.specs.List.{AllByRecursion, flat_map}
use Rattle.rld_counts.specs.declared.gate.Gate.{Gate}
use Rattle.rld_counts.specs.declared.gate.Gate.TheVariants.{Auth, Ask}
use Rattle.rld_counts.specs.Cell.{HasCounted, for_clients}
use Rattle.rld_counts.specs.Counts.{counts_of}
use Rattle.rld_counts.specs.Fates.{is_same_gate}
use Rattle.rld_counts.specs.declared.counted.Counted.{Counted}
use Rattle.rld_counts.specs.declared.reading.Reading.{Reading}

-- `had` are the datagrams that each of some receivers had counted
abbrev pub HaveCounted : (had : Reading → List Counted) → List Reading → Type 0
HaveCounted had readings = AllByRecursion (λ reading. HasCounted (had reading) reading.cell) readings

-- the datagrams shown for a receiver if those of a gate are asked for, by a number of clients
abbrev pub shown : Gate → (clients : ℕ) → Reading → (had : List Counted) → List Counted
shown gate clients reading had =
    if is_same_gate reading.gate gate then for_clients clients reading.cell had else []

-- the datagrams of all receivers of a gate, receiver after receiver
abbrev pub all_of : Gate → (clients : ℕ) → (had : Reading → List Counted) → List Reading → List Counted
all_of gate clients had readings = flat_map (λ reading. shown gate clients reading (had reading)) readings

-- the datagrams of the gates where logins come in: those of the authentication port, and then the asks
abbrev pub logins_of : (clients : ℕ) → (had : Reading → List Counted) → List Reading → List Counted
logins_of clients had readings = all_of Auth clients had readings ++ all_of Ask clients had readings

-- the counts of the datagrams of all receivers together
abbrev pub counts_in : (had : Reading → List Counted) → List Reading → List ℕ
counts_in had readings = counts_of (map (λ one. one.fate) (flat_map had readings))

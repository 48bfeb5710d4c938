-- What is counted of a datagram.
use Rattle.std.specs.Prelude.{ℕ, Option, None, if◌then◌else◌}
use Rattle.rld_counts.specs.Ending.{fate_of}
use Rattle.rld_counts.specs.Fates.{is_answer, kind_of}
use Rattle.rld_counts.specs.declared.counted.Counted.{Counted}
use Rattle.rld_counts.specs.declared.fate.Fate.{Fate}
use Rattle.rld_counts.specs.declared.gate.Gate.{Gate}
use Rattle.rld_turn.specs.Told.{Told}

-- of one at a gate, by what a watcher learns of it: its fate, its client, and no time yet
abbrev pub counted_of : Gate → Told → Counted
counted_of gate told = record { fate = fate_of gate told; client = told.client; micros = None }

-- the time of a turn is that of each answer that was sent in it
abbrev pub within : (micros : Option ℕ) → Counted → Counted
within micros one = record {
  fate = one.fate;
  client = one.client;
  micros = if is_answer (kind_of one.fate.cause) then micros else None;
}

-- of a request that was refused unread: its fate alone
abbrev pub unread : Fate → Counted
unread fate = record { fate = fate; client = None; micros = None }

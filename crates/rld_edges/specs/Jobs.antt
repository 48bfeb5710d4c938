-- The jobs of a server's workers.
use Rattle.std.specs.Prelude.{ℕ, List, [], ◌∷◌, ◌++◌, replicate, Option, Some, None}
use Rattle.std.specs.List.{flat_map}
use Rattle.rsl_event.specs.declared.meaning.Port.{Port}
use Rattle.rsl_event.specs.declared.meaning.Port.TheVariants.{Auth, Acct}
use Rattle.rld_edges.specs.declared.control.Control.{Control}
use Rattle.rld_edges.specs.declared.job.Job.{Job}
use Rattle.rld_edges.specs.declared.job.Job.TheVariants as jobs
use Rattle.rld_edges.specs.declared.sockets.Bound.{Bound}
use Rattle.rld_edges.specs.declared.sockets.Pair.{Pair}

-- a job, by the values that it borrows
pub data JobSeen : Type 0 where
  Receives : Bound → Port → JobSeen
  Ticks : JobSeen
  Answers : Control → JobSeen
  Reports : JobSeen
  Disconnects : JobSeen
  Shows : JobSeen
  Asks : JobSeen

abbrev pub seen : Job → JobSeen
seen (jobs.Receive socket port) = Receives socket.now port
seen jobs.Tick = Ticks
seen (jobs.Answer control) = Answers control.now
seen jobs.Report = Reports
seen jobs.Disconnect = Disconnects
seen jobs.Show = Shows
seen jobs.Ask = Asks

-- `receivers` receivers on a socket
abbrev pub receivers_on : Bound → Port → ℕ → List JobSeen
receivers_on socket port receivers = replicate receivers (Receives socket port)

-- the receivers of both sockets of a pair
abbrev pub jobs_on : Pair → List JobSeen
jobs_on pair = receivers_on pair.auth Auth pair.receivers ++ receivers_on pair.acct Acct pair.receivers

-- the receivers of all pairs, one worker that makes ticks, one that answers on the control socket,
-- one that writes to standard error, and one that has sessions disconnected
abbrev pub jobs_of : List Pair → Control → List JobSeen
jobs_of pairs control = flat_map jobs_on pairs ++ Ticks ∷ Answers control ∷ Reports ∷ Disconnects ∷ []

-- the port of a receiver
abbrev pub port_of : Job → Option Port
port_of (jobs.Receive socket port) = Some port
port_of jobs.Tick = None
port_of (jobs.Answer control) = None
port_of jobs.Report = None
port_of jobs.Disconnect = None
port_of jobs.Show = None
port_of jobs.Ask = None

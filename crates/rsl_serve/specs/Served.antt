-- What a server has done once it has ended well, as far as it prints it, and how its service ended.
use Rattle.std.specs.Prelude.{◌≡◌, ℕ, List, [], ◌∷◌, ◌++◌, codes}
use Rattle.rsl_accounts.specs.Configuration.{Configuration}
use Rattle.rsl_accounts.specs.Limits.{IsConfiguration}
use Rattle.rsl_event.specs.declared.meaning.Port.{Port}
use Rattle.rsl_port.specs.Told.{no_numbers}
use Rattle.rsl_service.specs.Counted.{AddsUp, AreCounted}
use Rattle.rsl_service.specs.declared.counts.Counts.{Counts}
use Rattle.rsl_record.specs.Table.{table}
use Rattle.rsl_serve.specs.Output.{counts_line}
use Rattle.rsl_serve.specs.declared.workers.Received.{Received}
use Rattle.rsl_service.specs.Closed.{ClosedSeen, IsClosed}
use Rattle.rsl_service.specs.Report.{IsReport}
use Rattle.rsl_record.specs.declared.receipt.Receipt.{Receipt}
use Rattle.rsl_shard.specs.declared.row.Row.{Row}

-- a receiver has taken its turns, and every datagram that came is counted once
pub record HasReceived (turns : ℕ) (counts : Counts) : Type 0 where
  pub all : counts.turns ≡ turns
  pub sum : AddsUp counts

-- a receiver of a port of the service has taken its turns at its socket: since it was bound, the
-- socket was read once a turn, and so many answers were sent as are counted
pub record IsReceived (port : Port) (turns : ℕ) (received : Received) : Type 0 where
  pub of_port : received.taken.port ≡ port
  pub taken : HasReceived turns received.taken.counts
  pub calls : AreCounted 0 received.taken.counts no_numbers received.datagrams.numbers

-- a report with a row for each account in file order, with its places and no more held
pub record HasReported (config : Configuration) (report : List ℕ) : Type 0 where
  pub limits : IsConfiguration config
  pub rows : List Row
  pub reported : IsReport config.accounts rows
  pub printed : report ≡ table config rows

-- A service was closed with these passes, those of both receivers and of the worker that makes
-- ticks: it had opened no others, and its record is settled.
pub record HasClosed (closed : ClosedSeen) (auth acct ticks : List Receipt) : Type 0 where
  pub opened : closed.opened ≡ 3
  pub settled : IsClosed closed.config (auth ∷ acct ∷ ticks ∷ []) [] closed.segments

-- What is printed: what the receivers did, a line for each, and a report.
pub record IsPrinted (config : Configuration) (auth acct : Counts) (written : List ℕ) : Type 0 where
  pub report : List ℕ
  pub reported : HasReported config report
  pub printed : written ≡ counts_line (codes "auth") auth ++ counts_line (codes "acct") acct ++ report

-- What a server has done, whose service is this closed one: its receivers took their turns, it
-- closed the service with the passes of its workers, and this is printed.
pub record HasServed (closed : ClosedSeen) (turns : ℕ) (written : List ℕ) : Type 0 where
  pub auth : Counts
  pub acct : Counts
  pub auth_pass : List Receipt
  pub acct_pass : List Receipt
  pub ticks_pass : List Receipt
  pub auth_received : HasReceived turns auth
  pub acct_received : HasReceived turns acct
  pub passes : HasClosed closed auth_pass acct_pass ticks_pass
  pub printed : IsPrinted closed.config auth acct written

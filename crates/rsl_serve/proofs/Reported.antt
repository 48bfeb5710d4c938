-- What a report's rows and a server's lines come to.
use Rattle.std.proofs.Common.{◌≡◌, ℕ, ◌<◌, ◌≤◌, ◌⊎◌, inl, inr, List, [], ◌∷◌, ◌++◌, length, get_or, Some, None, ap, subst, sym, ◌∙◌, arith}
use Rattle.std.specs.Prelude.{All, IfOk, Result, Ok, Err, codes, slice_get}
use Rattle.std.proofs.lemmas.Option.{slice_get-get_or, slice_get_cases}
use Rattle.rsl_accounts.specs.Configuration.{Configuration}
use Rattle.rsl_accounts.specs.Limits.{IsConfiguration}
use Rattle.rsl_accounts.specs.declared.entry.Entry.{Entry}
use Rattle.rsl_event.specs.declared.meaning.Port.TheVariants.{Auth, Acct}
use Rattle.rsl_service.specs.declared.counts.Counts.{Counts}
use Rattle.rsl_record.specs.Output.{output_octets}
use Rattle.rsl_record.specs.Table.{table}
use Rattle.rsl_serve.specs.Output.{counts_line}
use Rattle.rsl_serve.specs.declared.fault.ServeFault.{ServeFault}
use Rattle.rsl_serve.specs.Served.{HasClosed, HasReported, HasServed, IsPrinted, IsReceived}
use Rattle.rsl_serve.specs.declared.server.Served.{Served}
use Rattle.rsl_service.specs.Closed.{ClosedSeen, IsClosed}
use Rattle.rsl_service.specs.Receipts.{PassSeen, receipts_of}
use Rattle.rsl_service.specs.Report.{IsReport}
use Rattle.rsl_record.specs.declared.receipt.Receipt.{Receipt}
use Rattle.rsl_shard.specs.declared.row.Row.{Row}
use Rattle.rsl_shard.specs.declared.segment.Segment.{Segment}

-- each row of a report is that of an account
pub rows_of_accounts : (accounts : List Entry) (rows : List Row) → IsReport accounts rows
    → All (λ (row : Row). row.account < length accounts) rows
rows_of_accounts accounts rows report k d within = by (slice_get_cases accounts k).1
  where
    here : slice_get rows k ≡ Some (get_or rows k d)
    here = slice_get-get_or rows k d within

    by : ((entry : Entry) × (k < length accounts) × (slice_get accounts k ≡ Some entry) × (get_or accounts k entry ≡ entry)) ⊎ ((length accounts ≤ k) × (slice_get accounts k ≡ None))
        → (get_or rows k d).account < length accounts
    by (inl (entry, below, is, same)) = let row = report.each k entry (get_or rows k d) is here in omega (arith, row.numbered, below)
    by (inr (past, none)) = absurd (omega (arith, report.one_each, within, past))

-- the octets of a report's rows are a report
pub has_reported : (config : Configuration) (rows : List Row) (report : List ℕ) → IsConfiguration config
    → IsReport config.accounts rows → report ≡ table config rows → HasReported config report
has_reported config rows report limits reported printed = record {
  limits = limits;
  rows = rows;
  reported = reported;
  printed = printed;
}

-- what both receivers did, and a report, is what a server prints
pub is_printed : (config : Configuration) (auth acct : Counts) (lines report : List ℕ) → HasReported config report
    → lines ≡ counts_line (codes "auth") auth ++ counts_line (codes "acct") acct → IsPrinted config auth acct (lines ++ report)
is_printed config auth acct lines report reported line = record {
  report = report;
  reported = reported;
  printed = ap (λ xs. xs ++ report) line;
}

-- a service that was closed with the passes of a list
pub has_closed : (config : Configuration) (closed : ClosedSeen) (auth acct ticks : PassSeen)
    (passes : List PassSeen) (given : List Segment)
    → passes ≡ auth ∷ acct ∷ ticks ∷ [] → given ≡ []
    → closed.config ≡ config → closed.opened ≡ length passes
    → IsClosed config (receipts_of passes) given closed.segments
    → HasClosed closed auth.receipts acct.receipts ticks.receipts
has_closed config closed auth acct ticks passes given are none of opened settled = record {
  opened = opened ∙ ap length are;
  settled = subst (λ (config : Configuration). IsClosed config (auth.receipts ∷ acct.receipts ∷ ticks.receipts ∷ []) [] closed.segments) (sym of)
      (subst (λ (passes : List PassSeen). IsClosed config (receipts_of passes) [] closed.segments) are
      (subst (λ given. IsClosed config (receipts_of passes) given closed.segments) none settled));
}

-- what was closed and printed was served
pub has_served : (config : Configuration) (turns : ℕ) (auth_pass acct_pass ticks_pass : List Receipt)
    (result : Result Served ServeFault) → IfOk result (λ served. IsReceived Auth turns served.auth)
    → IfOk result (λ served. IsReceived Acct turns served.acct)
    → IfOk result (λ served. served.closed.config ≡ config)
    → IfOk result (λ served. HasClosed served.closed auth_pass acct_pass ticks_pass)
    → IfOk result (λ served. IsPrinted config served.auth.taken.counts served.acct.taken.counts (output_octets served.output))
    → IfOk result (λ served. HasServed served.closed turns (output_octets served.output))
has_served config turns auth_pass acct_pass ticks_pass (Ok served) first second of closed printed = record {
  auth = served.auth.taken.counts;
  acct = served.acct.taken.counts;
  auth_pass = auth_pass;
  acct_pass = acct_pass;
  ticks_pass = ticks_pass;
  auth_received = first.taken;
  acct_received = second.taken;
  passes = closed;
  printed = subst (λ (config : Configuration). IsPrinted config served.auth.taken.counts served.acct.taken.counts (output_octets served.output)) (sym of) printed;
}
has_served config turns auth_pass acct_pass ticks_pass (Err fault) first second of closed printed = tt

pub ruleset reported = rows_of_accounts

pub ruleset closing = has_closed

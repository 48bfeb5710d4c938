use Rattle.std.proofs.Common.{◌≢◌, ℕ, ◌<◌, None}
use Rattle.std.specs.Int.{w32, to_be_bytes}
use Rattle.rsl_accounts.specs.Configuration.{client_number}
use Rattle.rld_turn.proofs.unassigned.unassigned_address.Given as goal

abbrev pub invariant-loop-number : goal.invariant-loop-number
invariant-loop-number l = (k : ℕ) → k < l.number → client_number l.config (to_be_bytes w32 k) ≢ None

use Rattle.std.proofs.Common.{◌≡◌, ℕ, length}
use Rattle.std.specs.Prelude.{IfSome, slice_get}
use Rattle.rld_look.specs.Clients.{IsClientLook}
use Rattle.rld_look.proofs.clients.client_looks.Given as goal

abbrev pub invariant-loop-client : goal.invariant-loop-client
invariant-loop-client l = record {
  len : length l.looks.items ≡ l.client;
  each : (k : ℕ) → IfSome (slice_get l.looks.items k) (IsClientLook l.config l.auth l.acct k);
}

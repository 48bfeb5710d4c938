use Rattle.std.proofs.Common.{take}
use Rattle.rsl_accounts.specs.Keys.{AreKeysOf}
use Rattle.rsl_accounts.proofs.config.hmac_keys.Given as goal

abbrev pub invariant-loop-client : goal.invariant-loop-client
invariant-loop-client l = AreKeysOf (take l.client-index l.clients) l.keys.items

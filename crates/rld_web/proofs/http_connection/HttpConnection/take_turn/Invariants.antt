use Rattle.std.proofs.Common.{◌≡◌}
use Rattle.rld_web.proofs.http_connection.HttpConnection.take_turn.Given as goal

abbrev pub invariant-loop : goal.invariant-loop
invariant-loop g l = record {
  place : l.service.place ≡ l.fn.service.place;
  moment : l.service.moment ≡ l.fn.service.moment;
}

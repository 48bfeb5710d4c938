use Rattle.std.proofs.Common.{rules, inr}
use Rattle.rld_serve.proofs.server.Server.tell_outcome.Goals as goal

-- where memory is refused that is told in place of the outcome
pub returns-in-Err : goal.returns-in-Err
returns-in-Err g c = record {
  octets = c.as_bytes.result.now;
  is = inr (search rules);
  heard = search rules;
}

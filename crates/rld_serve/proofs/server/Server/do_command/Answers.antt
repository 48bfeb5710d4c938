use Rattle.std.proofs.Common.{rules, inr}
use Rattle.rld_serve.proofs.server.Server.do_command.Goals as goal

-- it is not done, and why is told
pub returns-in-Some-Err-clause-now : goal.returns-in-Some-Err-clause-now
returns-in-Some-Err-clause-now g c = λ _. record {
  octets = c.as_bytes.result.now;
  is = inr (record { fault = c.in-Some-Err.fault; why = search rules; told = search rules });
  heard = search rules;
}

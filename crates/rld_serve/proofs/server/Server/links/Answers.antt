use Rattle.std.proofs.Common.{rules}
use Rattle.std.specs.Arc.{arc_value}
use Rattle.rld_serve.proofs.server.Server.links.Goals as goal

-- the page is of the accounts that were copied with it
pub returns-clause-shown : goal.returns-clause-shown
returns-clause-shown g c = record {
  config = arc_value c.in_ok-config.config;
  page = c.in_ok-config.page;
  moment = c.moment.result;
  begins = search rules;
  is = search rules;
}

use Rattle.std.proofs.Common.{take, sym, arith}
use Rattle.std.proofs.lemmas.List.{take_all}
use Rattle.std.proofs.lemmas.List.Elements.{All-more, All-same}
use Rattle.rld_spelling.specs.TableSpelled.{ClientFits}
use Rattle.rld_spelling.proofs.table.clients_have_spelling.Goals as goal

pub loop-client-preserved : goal.loop-client-preserved
loop-client-preserved c = All-more ClientFits c.args.clients.now c.loop-client.client-index _ (omega arith) c.loop-client.invariant c.client_has_spelling.ensures

pub returns : goal.returns
returns c = All-same ClientFits c.args.clients.now (take c.loop-client.client-index c.args.clients.now) (sym (take_all c.loop-client.client-index c.args.clients.now (omega arith))) c.loop-client.invariant

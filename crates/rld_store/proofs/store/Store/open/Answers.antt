use Rattle.std.proofs.Common.{subst}
use Rattle.std.specs.Arc.{arc_value}
use Rattle.rsl_accounts.specs.Configuration.{Configuration}
use Rattle.rld_store.specs.Opening.{IsFoundIn}
use Rattle.rld_store.proofs.Histories.{opened_found, opened_stands, still_history}
use Rattle.rld_store.proofs.store.Store.open.Goals as goal

pub returns-in-Ok-clause-given : goal.returns-in-Ok-clause-given
returns-in-Ok-clause-given g c = λ before has.
    subst (λ (x : Configuration). IsFoundIn x before c.in-Ok.restored.reading.header c.in-Ok.restored.reading.books c.in-Ok.restored.reading.moves) c.deref.ensures (c.in-Ok.ensures.given before has)

pub returns-in-Ok-clause-stands : goal.returns-in-Ok-clause-stands
returns-in-Ok-clause-stands g c = λ told opening history has.
    opened_stands (arc_value c.args.config) opening g.L.Log.tears (g.L.Log.seen c.args.log) (g.L.Log.seen c.restore.new.log) (g.L.Log.may_leave c.restore.new.log) c.in-Ok.restored.whole c.in-Ok.restored.reading.header c.in-Ok.restored.reading.books c.in-Ok.restored.reading.moves history
    has (subst (λ (x : Configuration). IsFoundIn x has.payloads c.in-Ok.restored.reading.header c.in-Ok.restored.reading.books c.in-Ok.restored.reading.moves) c.deref.ensures (c.in-Ok.ensures.found told has.payloads has.has))
    (c.in-Ok.ensures.size told has.payloads has.has) (c.in-Ok.ensures.settled told has.payloads has.has)

pub returns-in-Ok-clause-found : goal.returns-in-Ok-clause-found
returns-in-Ok-clause-found g c = λ told opening history has.
    opened_found (arc_value c.args.config) opening (g.L.Log.seen c.args.log) c.in-Ok.restored.reading.header c.in-Ok.restored.reading.books c.in-Ok.restored.reading.moves history has
    (subst (λ (x : Configuration). IsFoundIn x has.payloads c.in-Ok.restored.reading.header c.in-Ok.restored.reading.books c.in-Ok.restored.reading.moves) c.deref.ensures (c.in-Ok.ensures.found told has.payloads has.has))

pub returns-in-Err-clause-crash : goal.returns-in-Err-clause-crash
returns-in-Err-clause-crash g c = λ told only opening history has ending left reached.
    still_history (arc_value c.args.config) opening history (g.L.Log.seen c.args.log) left has (c.in-Err.ensures.crash told only has.payloads has.has ending left reached)

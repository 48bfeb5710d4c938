use Rattle.std.proofs.Common.{subst, sym}
use Rattle.rld_store.specs.Standing.{EndsSo, IsUnsettled}
use Rattle.rld_store.specs.declared.store.End.{End}
use Rattle.rld_store.proofs.Standing.{still_unsettled}
use Rattle.rld_store.proofs.store.Store.settle.Goals as goal

pub returns-in-Err-clause-ends : goal.returns-in-Err-clause-ends
returns-in-Err-clause-ends g c = λ told before unanswered size so.
    let own : IsUnsettled g.L.Log.tears (g.L.Log.seen c.args.self.now.log) (g.L.Log.may_leave c.args.self.now.log) before unanswered =
    subst (λ (e : End). EndsSo e g.L.Log.tears (g.L.Log.seen c.args.self.now.log) (g.L.Log.may_leave c.args.self.now.log) before unanswered) c.in-Unsettled.is so in
    subst (λ (e : End). EndsSo e g.L.Log.tears (g.L.Log.seen c.mend.new.log) (g.L.Log.may_leave c.mend.new.log) before unanswered) (sym c.in-Unsettled.is)
    (still_unsettled g.L.Log.tears (g.L.Log.seen c.args.self.now.log) (g.L.Log.seen c.mend.new.log) (g.L.Log.may_leave c.args.self.now.log) (g.L.Log.may_leave c.mend.new.log) before unanswered own
    (c.mend.ensures.front told before size own.front) (λ ending either. c.mend.ensures.crash told before unanswered own.fit size own.front ending either))

use Rattle.rld_log.proofs.Recordings.{mend_crash, mended_leaves}
use Rattle.rld_log.proofs.recording.mend.Goals as goal

pub returns-in_err-cut-clause-crash : goal.returns-in_err-cut-clause-crash
returns-in_err-cut-clause-crash g c = λ told before payload fit is more ending either.
    mend_crash (g.L.Log.may_leave c.args.log.now ending) (g.L.Log.may_leave c.cut.new.self ending) before payload c.args.whole fit is either (c.cut.ensures.crash told ending)

pub returns-in_err-sync-clause-crash : goal.returns-in_err-sync-clause-crash
returns-in_err-sync-clause-crash g c = λ told before payload fit is more ending either left reached.
    mend_crash (g.L.Log.may_leave c.args.log.now ending) (g.L.Log.may_leave c.cut.new.self ending) before payload c.args.whole fit is either (c.cut.ensures.crash (c.sync.ensures.told told) ending)
    left (c.in_err-sync.ensures.crash told ending left reached)

pub returns-clause-crash : goal.returns-clause-crash
returns-clause-crash g c = λ told before payload fit is more ending either left reached.
    mended_leaves (g.L.Log.seen c.args.log.now) (g.L.Log.seen c.cut.new.self) left before payload c.args.whole fit is more
    (c.in_ok-cut.ensures.done (c.sync.ensures.told told)) (c.in_ok-sync.ensures.durable told ending left reached)

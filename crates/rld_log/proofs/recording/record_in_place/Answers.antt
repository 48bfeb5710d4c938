use Rattle.std.proofs.Common.{◌∙◌, drop, sym}
use Rattle.rld_log.proofs.Recordings.{settled_leaves, settled_more}
use Rattle.rld_log.proofs.recording.record_in_place.Goals as goal

pub returns-in_err-sync-clause-crash : goal.returns-in_err-sync-clause-crash
returns-in_err-sync-clause-crash g c = λ told before settled ending premise left reached.
    c.write_in_place.ensures.crash (c.sync.ensures.told told) before settled ending premise left (c.in_err-sync.ensures.crash told ending left reached)

pub returns-clause-recorded : goal.returns-clause-recorded
returns-clause-recorded g c = λ told before settled.
    let same = c.sync.ensures.same told in
    settled_more (g.L.Log.seen c.args.log.now) (g.L.Log.seen c.sync.new.self) (g.L.Log.may_leave c.args.log.now) (g.L.Log.may_leave c.sync.new.self) before (drop 20 c.args.octets.now) c.requires.fits settled
    (same ∙ c.in_ok-write_in_place.ensures.written (c.sync.ensures.told told))
    (λ ending left reached. c.in_ok-sync.ensures.durable told ending left reached ∙ sym same)

pub returns-clause-crash : goal.returns-clause-crash
returns-clause-crash g c = λ told before settled ending premise.
    let same = c.sync.ensures.same told in
    settled_leaves (g.L.Log.seen c.args.log.now) (g.L.Log.seen c.sync.new.self) (g.L.Log.may_leave c.args.log.now) (g.L.Log.may_leave c.sync.new.self) before (drop 20 c.args.octets.now) ending c.requires.fits settled
    (same ∙ c.in_ok-write_in_place.ensures.written (c.sync.ensures.told told))
    (λ other left reached. c.in_ok-sync.ensures.durable told other left reached ∙ sym same)

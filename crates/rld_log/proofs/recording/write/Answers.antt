use Rattle.rld_log.proofs.Recordings.{still}
use Rattle.rld_log.proofs.recording.write.Goals as goal

pub returns-in_err-octets-clause-crash : goal.returns-in_err-octets-clause-crash
returns-in_err-octets-clause-crash g c = λ told before settled ending premise.
    still (g.L.Log.seen c.args.log.now) (g.L.Log.may_leave c.args.log.now) before c.args.payload.now ending settled

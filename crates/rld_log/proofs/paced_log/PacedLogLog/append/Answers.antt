use Rattle.rld_log.proofs.Steps.{append_crash, no_append_crash}
use Rattle.rld_log.specs.Pacing.{reckoned}
use Rattle.rld_log.proofs.paced_log.PacedLogLog.append.Goals as goal

pub returns-then-eq-clause-crash : goal.returns-then-eq-clause-crash
returns-then-eq-clause-crash g c = λ told ending.
    no_append_crash g.L.Log.tears ending c.args.octets.now (g.L.Log.may_leave c.args.self.now.log (reckoned c.args.self.now.pace ending))

pub returns-in-Err-clause-crash : goal.returns-in-Err-clause-crash
returns-in-Err-clause-crash g c = λ told ending.
    append_crash g.L.Log.tears c.args.self.now.pace ending c.args.octets.now
    (g.L.Log.may_leave c.args.self.now.log (reckoned c.args.self.now.pace ending)) (g.L.Log.may_leave c.append.new.self (reckoned c.args.self.now.pace ending))
    (c.append.ensures.crash told (reckoned c.args.self.now.pace ending))

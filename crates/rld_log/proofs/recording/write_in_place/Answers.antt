use Rattle.std.proofs.Common.{drop}
use Rattle.rld_log.proofs.Recordings.{write_crash}
use Rattle.rld_log.proofs.recording.write_in_place.Goals as goal

pub returns-clause-crash : goal.returns-clause-crash
returns-clause-crash g c = λ told before settled ending premise.
    write_crash g.L.Log.tears (g.L.Log.seen c.args.log.now) c.fill_head.new.octets (g.L.Log.may_leave c.args.log.now) (g.L.Log.may_leave c.append.new.self) before (drop 20 c.args.octets.now) ending
    c.requires.fits settled premise c.fill_head.ensures (c.append.ensures.crash told ending)

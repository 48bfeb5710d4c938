use Rattle.rld_log.proofs.Steps.{append_on_disk}
use Rattle.rld_log.proofs.laws.append_keeps_the_disk.Goals as goal

pub returns : goal.returns
returns g c = λ told front there.
    append_on_disk g.L.Log.tears front c.args.octets.now (g.L.Log.seen c.args.log.now) (g.L.Log.seen c.append.new.self)
    (g.L.Log.may_leave c.args.log.now) (g.L.Log.may_leave c.append.new.self) there (c.append.ensures.front told) (c.append.ensures.crash told)

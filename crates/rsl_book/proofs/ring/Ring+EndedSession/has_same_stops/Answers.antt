use Rattle.rsl_book.proofs.Ringed.{stops_alike}
use Rattle.rsl_book.proofs.ring.Ring+EndedSession.has_same_stops.Goals as goal

pub returns : goal.returns
returns c = stops_alike c.args.servers.now c.args.others.now c.args.self.now.items c.args.other.now.items c.is_same.result c.is_same.ensures

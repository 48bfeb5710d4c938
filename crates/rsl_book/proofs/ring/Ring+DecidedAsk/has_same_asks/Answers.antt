use Rattle.rsl_book.proofs.Ringed.{asks_alike}
use Rattle.rsl_book.proofs.ring.Ring+DecidedAsk.has_same_asks.Goals as goal

pub returns : goal.returns
returns c = asks_alike c.args.servers.now c.args.others.now c.args.self.now.items c.args.other.now.items c.is_same.result c.is_same.ensures

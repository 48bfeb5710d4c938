use Rattle.rsl_book.proofs.Ringed.{prints_push}
use Rattle.rsl_book.proofs.ring.Ring.push.Goals as goal

pub invariant_of-self : goal.invariant_of-self
invariant_of-self g c =
    prints_push g.S.Subject.print c.args.kept c.fingerprint.result c.self.inside.fingerprints c.push_front.new.self c.self.inside.kept c.push_front-2.new.self
    c.self.invariant c.fingerprint.ensures c.push_front.ensures.items c.push_front-2.ensures.items

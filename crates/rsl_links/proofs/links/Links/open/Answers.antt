use Rattle.std.proofs.Common.{◌+◌, ap, cond}
use Rattle.rsl_links.proofs.Indexed.{indexed_more}
use Rattle.rsl_links.proofs.Touching.{counted_open, one_of}
use Rattle.rsl_links.proofs.links.Links.open.Goals as goal

pub returns-clause-counted : goal.returns-clause-counted
returns-clause-counted c =
    record {
      a_port = c.requires.counted.a_port;
      places = counted_open c.args.servers.now c.args.self.now.ports c.args.self.now.places _ (cond c.adds_a_place.result 1 0) c.args.link c.args.self.now.list.items
          c.push.new.self.items c.push.ensures.items c.requires.counted.places c.adds_a_place.ensures (ap (λ n. c.args.self.now.places + n) (one_of c.adds_a_place.result c.from.result c.from.ensures));
      indexed = indexed_more c.args.servers.now c.args.self.now.list.items c.push.new.self.items c.args.link c.push.ensures.items c.requires.index c.requires.counted.indexed;
    }

use Rattle.std.proofs.Common.{arith}
use Rattle.rsl_links.proofs.list.Orders.enter.Goals as goal

pub returns-clause-room : goal.returns-clause-room
returns-clause-room c =
    λ most roomy. record {
      reserved = let one = c.enter.ensures.room in let room = roomy.reserved in omega (arith, one, room);
      bound = let one = c.enter-2.ensures.room in let room = roomy.bound in omega (arith, one, room);
      sessions = let one = c.enter-3.ensures.room in let room = roomy.sessions in omega (arith, one, room);
      bundles = let one = c.enter-4.ensures.room in let room = roomy.bundles in omega (arith, one, room);
      stations = let one = c.enter-5.ensures.room in let room = roomy.stations in omega (arith, one, room);
    }

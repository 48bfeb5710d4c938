use Rattle.std.proofs.Common.{◌≡◌, ◌<◌, ◌≤◌, min, length, true, false}
use Rattle.std.specs.VecDeque.{deque_capacity}
use Rattle.rld_turn.specs.Entered.{HasGathered}
use Rattle.rld_turn.specs.Present.{service_of}
use Rattle.rld_turn.proofs.receiver.Receiver.gather.Given as goal

abbrev pub invariant-loop : goal.invariant-loop
invariant-loop g l = record {
  same : l.port ≡ l.fn.self.port;
  room : 64 ≤ deque_capacity l.queue;
  entries : length l.queue.items ≡ l.counter;
  contents : g.P.DatagramPort.contents l.datagrams ≡ g.P.DatagramPort.contents l.fn.datagrams;
  telling : g.P.DatagramPort.tells l.datagrams ≡ true → g.P.DatagramPort.tells l.fn.datagrams ≡ true;
  gathered : HasGathered (service_of l.present) l.fn.self.port l.moment
      (g.P.DatagramPort.tells l.datagrams ≡ true)
      (g.P.DatagramPort.taken l.fn.datagrams) (g.P.DatagramPort.taken l.datagrams)
      l.queue.items l.moves.items;
  sent : g.P.DatagramPort.tells l.datagrams ≡ true
      → g.P.DatagramPort.sent l.datagrams ≡ g.P.DatagramPort.sent l.fn.datagrams;
  given : g.P.DatagramPort.tells l.datagrams ≡ true
      → min (g.P.DatagramPort.room l.fn.datagrams) 4096 ≤ g.P.DatagramPort.room l.datagrams;
  down : 0 < l.counter → g.P.DatagramPort.tells l.datagrams ≡ true → g.P.DatagramPort.is_down l.datagrams ≡ false;
}

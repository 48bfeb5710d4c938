use Rattle.std.proofs.Common.{◌≡◌, length, true}
use Rattle.std.specs.List.{AllByRecursion}
use Rattle.rld_turn.proofs.Replying.{AreAnswered}
use Rattle.rld_turn.specs.Answered.{Batch}
use Rattle.rld_turn.specs.Ended.{CanEnd}
use Rattle.rld_turn.specs.Recorded.{decisions_in}
use Rattle.rld_turn.specs.Present.{service_of}
use Rattle.rld_turn.proofs.receiver.Receiver.answer.Given as goal

abbrev pub invariant-loop-entry : goal.invariant-loop-entry
invariant-loop-entry g l = record {
  same : l.self.port ≡ l.fn.self.port;
  can : AllByRecursion (CanEnd l.present.config.now (decisions_in l.recorded)) l.self.queue.items;
  contents : g.P.DatagramPort.contents l.datagrams ≡ g.P.DatagramPort.contents l.fn.datagrams;
  telling : g.P.DatagramPort.tells l.datagrams ≡ true → g.P.DatagramPort.tells l.fn.datagrams ≡ true;
  taken : g.P.DatagramPort.tells l.datagrams ≡ true
      → g.P.DatagramPort.taken l.datagrams ≡ g.P.DatagramPort.taken l.fn.datagrams;
  room : g.P.DatagramPort.tells l.datagrams ≡ true
      → g.P.DatagramPort.room l.datagrams ≡ g.P.DatagramPort.room l.fn.datagrams;
  down : g.P.DatagramPort.tells l.datagrams ≡ true
      → g.P.DatagramPort.is_down l.datagrams ≡ g.P.DatagramPort.is_down l.fn.datagrams;
  turns : g.W.Watch.turns l.watch ≡ g.W.Watch.turns l.fn.watch;
  answered : (batch : Batch (service_of l.present) l.fn.self.port
      (decisions_in l.recorded) l.fn.self.queue.items)
      → AreAnswered (service_of l.present) l.fn.self.port (g.P.DatagramPort.tells l.datagrams ≡ true) batch.moment
      (decisions_in l.recorded) batch.begun batch.taken batch.moves l.self.queue.items
      (g.P.DatagramPort.sent l.fn.datagrams) (g.P.DatagramPort.sent l.datagrams)
      (g.W.Watch.knows l.fn.watch) (g.W.Watch.knows l.watch);
}

abbrev pub decreases-loop-entry : goal.decreases-loop-entry
decreases-loop-entry g l = length l.self.queue.items

use Rattle.std.proofs.Common.{◌≡◌, ◌≤◌, min, true}
use Rattle.std.specs.Prelude.{vec_len}
use Rattle.rsl_service.proofs.Keeping.{Kept}
use Rattle.rsl_service.specs.Served.{state_of}
use Rattle.rsl_service.proofs.receiver.receive.Given as goal

abbrev pub invariant-loop : goal.invariant-loop
invariant-loop g l =
    Kept l.receiver.service.now l.receiver.port l.counts l.counter
    (g.P.DatagramPort.numbers l.fn.datagrams) (g.P.DatagramPort.numbers l.datagrams)
    (g.P.DatagramPort.tells l.datagrams ≡ true)
    (state_of (g.P.DatagramPort.taken l.fn.datagrams) l.fn.pass.receipts (g.P.DatagramPort.sent l.fn.datagrams) (g.C.Clock.shown l.fn.clock))
    (state_of (g.P.DatagramPort.taken l.datagrams) l.pass.receipts (g.P.DatagramPort.sent l.datagrams) (g.C.Clock.shown l.clock))
    × (g.P.DatagramPort.tells l.datagrams ≡ true
    → min (g.P.DatagramPort.room l.fn.datagrams) 4096 ≤ g.P.DatagramPort.room l.datagrams)
    × (vec_len l.buffer ≡ 4096)

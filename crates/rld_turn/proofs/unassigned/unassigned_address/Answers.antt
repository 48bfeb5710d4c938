use Rattle.std.proofs.Common.{arith}
use Rattle.rld_turn.proofs.Candidates.{one_is_free}
use Rattle.rld_turn.proofs.unassigned.unassigned_address.Goals as goal

pub unreachable-requires : goal.unreachable-requires
unreachable-requires c =
    one_is_free c.loop-number.number c.args.config.now.clients
    (omega (arith, c.clients-number-end.ensures.number, c.loop-number-test.false))
    (omega (arith, c.clients-number-end.ensures.number, c.clients-number-end.ensures.limits.clients, c.loop-number.auto.number-end))
    c.loop-number.invariant

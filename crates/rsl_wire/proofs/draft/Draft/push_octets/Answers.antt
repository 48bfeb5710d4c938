use Rattle.std.proofs.Common.{arith}
use Rattle.rsl_wire.proofs.NewPacketLaws.{appended_is}
use Rattle.rsl_wire.proofs.draft.Draft.push_octets.Goals as goal

pub returns-clause-ok : goal.returns-clause-ok
returns-clause-ok c =
    appended_is c.self.inside.octets.items c.append.new.octets.items c.args.octets.now c.args.self.now
    (omega (arith, c.self.invariant.header)) c.append.ensures.items c.self.view_is

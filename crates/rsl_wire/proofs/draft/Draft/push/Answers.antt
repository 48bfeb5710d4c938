use Rattle.std.proofs.Common.{arith}
use Rattle.rsl_wire.proofs.NewPacketLaws.{pushed_is}
use Rattle.rsl_wire.proofs.draft.Draft.push.Goals as goal

pub returns-clause-ok : goal.returns-clause-ok
returns-clause-ok c =
    pushed_is c.self.inside.octets.items c.append.new.octets.items c.append-2.new.octets.items c.args.value.now c.args.kind _ c.args.self.now
    (omega (arith, c.self.invariant.header)) (omega arith) c.append.ensures.items c.append-2.ensures.items c.self.view_is

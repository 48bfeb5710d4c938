use Rattle.rsl_wire.proofs.PacketLaws.{one_reading}
use Rattle.rsl_wire.proofs.laws.one_packet.Goals as goal

pub returns-clause-only : goal.returns-clause-only
returns-clause-only c = one_reading

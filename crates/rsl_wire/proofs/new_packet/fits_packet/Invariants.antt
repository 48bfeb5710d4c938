use Rattle.std.proofs.Common.{◌≤◌, map, drop}
use Rattle.rsl_wire.specs.NewPacket.{seen, FitsPacket}
use Rattle.rsl_wire.proofs.NewPacketLaws.{FitsFrom}
use Rattle.rsl_wire.proofs.new_packet.fits_packet.Given as goal

-- all fit exactly where what is left fits behind what was counted
abbrev pub invariant-loop-attribute : goal.invariant-loop-attribute
invariant-loop-attribute l = record {
  whole : l.len ≤ 4096;
  forth : FitsPacket (map seen l.attributes) → FitsFrom l.len (map seen (drop l.attribute-index l.attributes));
  back : FitsFrom l.len (map seen (drop l.attribute-index l.attributes)) → FitsPacket (map seen l.attributes);
}

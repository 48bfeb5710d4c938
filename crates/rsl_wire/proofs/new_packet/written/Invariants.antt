use Rattle.std.proofs.Common.{◌≡◌, ◌+◌, length, map, take, drop}
use Rattle.rsl_wire.specs.Attributes.{list_octets}
use Rattle.rsl_wire.specs.NewPacket.{seen}
use Rattle.rsl_wire.proofs.NewPacketLaws.{FitsFrom}
use Rattle.rsl_wire.proofs.new_packet.written.Given as goal

abbrev pub invariant-loop-attribute : goal.invariant-loop-attribute
invariant-loop-attribute l = record {
  so_far : l.draft ≡ record { id = l.id; attributes = list_octets (map seen (take l.attribute-index l.attributes)) };
  rest_fits : FitsFrom (20 + length l.draft.attributes) (map seen (drop l.attribute-index l.attributes));
}

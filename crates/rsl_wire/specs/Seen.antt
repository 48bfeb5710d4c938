-- How a packet that was read is seen.
use Rattle.rsl_wire.specs.Packet.{Fields}
use Rattle.rsl_wire.specs.declared.packet.Packet.{Packet}

-- the fields of a packet, without their addresses in memory
abbrev pub fields_of : Packet → Fields
fields_of packet =
    record {
      code = packet.code;
      id = packet.id;
      authenticator = packet.authenticator;
      attributes =
          packet.attrs.now;
    }

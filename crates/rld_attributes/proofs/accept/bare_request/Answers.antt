use Rattle.rsl_wire.specs.Packet.{packet_of}
use Rattle.rld_attributes.specs.declared.accept.TheConstants.{BARE_REQUEST}
use Rattle.rld_attributes.proofs.Bare.{bare_is_read, ok_is, ok_is_no_err}
use Rattle.rld_attributes.proofs.accept.bare_request.Goals as goal

pub unreachable-requires : goal.unreachable-requires
unreachable-requires c = ok_is_no_err (packet_of BARE_REQUEST) _ _ bare_is_read c.in-Err.ensures.exact

pub returns : goal.returns
returns c = ok_is (packet_of BARE_REQUEST) _ _ c.in-Ok.ensures.exact bare_is_read

use Rattle.std.proofs.Common.{◌≡◌, ◌∙◌, arith, rules, drop, take}
use Rattle.std.proofs.lemmas.List.{take_rest}
use Rattle.rsl_wire.proofs.PacketLaws.{packet_of-reads, octets_are, IsDatagram-at}
use Rattle.rsl_wire.specs.Packet.{length_field}
use Rattle.rsl_wire.proofs.packet.Packet.in_datagram.Goals as goal

pub returns : goal.returns
returns c =
    let d = c.args.datagram.now in
    let e : c.from-length.result ≡ length_field d = cc in
    let f : c.copy_from_slice.new.self ≡ take 16 (drop 4 d) = search rules in
    packet_of-reads d c.from-length.result e (omega arith) (omega arith) (omega arith) (omega arith) ∙ search rules

pub invariant_of-result : goal.invariant_of-result
invariant_of-result c =
    let d = c.args.datagram.now in
    let e : c.from-length.result ≡ length_field d = cc in
    let f : c.copy_from_slice.new.self ≡ take 16 (drop 4 d) = search rules in
    let is = IsDatagram-at d c.from-length.result (λ i. omega (arith, c.type_inv.datagram i)) e (omega arith) (omega arith) (omega arith) in
    let o = octets_are d c.from-length.result (λ i. omega (arith, c.type_inv.datagram i)) e (omega arith) (omega arith) in
    let rest = take_rest (take c.from-length.result d) 20 in
    record { fits = rw (f, rest) is.packet; whole = rw (f, rest) o }

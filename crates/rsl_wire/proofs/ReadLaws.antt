-- From the function that reads to what the grammar says of the result.
use Rattle.std.proofs.Common.{◌≡◌, ℕ, ◌<◌, ◌≤◌, ◌↔◌, List, length, Result, Ok, Err, ap, ◌∙◌}
use Rattle.std.specs.Prelude.{MatchResult, IfOk, IsOkAnd, IsErrOf}
use Rattle.rsl_wire.specs.declared.packet.WireFault.{WireFault}
use Rattle.rsl_wire.specs.declared.packet.WireFault.TheVariants.{Short, BadLength}
use Rattle.rsl_wire.specs.declared.packet.Packet.{Packet}
use Rattle.rsl_wire.specs.Packet.{Fields, IsDatagram, packet_of}
use Rattle.rsl_wire.specs.Seen.{fields_of}
use Rattle.rsl_wire.proofs.PacketLaws.{IsBytes, packet_of-found, packet_of-only, packet_of-short, packet_of-is_short, packet_of-is_bad, packet_of-no_packet}

abbrev pub Reads : List ℕ → Result Packet WireFault → Type 0
Reads d r = MatchResult r (λ packet. packet_of d ≡ Ok (fields_of packet)) (λ fault. packet_of d ≡ Err fault)

pub found_by : (d : List ℕ) (r : Result Packet WireFault) → IsBytes d → Reads d r → IfOk r (λ packet. (padding : List ℕ) × IsDatagram d (fields_of packet) padding)
found_by d (Ok packet) fits e = packet_of-found d (fields_of packet) fits e
found_by d (Err fault) fits e = tt

pub only_by : (d : List ℕ) (r : Result Packet WireFault) → Reads d r → (fields : Fields) (padding : List ℕ) → IsDatagram d fields padding → IsOkAnd r (λ packet. fields_of packet ≡ fields)
only_by d (Ok packet) e fields padding is = let h = packet_of-only d fields padding is in cc
only_by d (Err fault) e fields padding is = absurd (let h = packet_of-only d fields padding is in cc)

pub short_by : (d : List ℕ) (r : Result Packet WireFault) → Reads d r → IsErrOf r Short ↔ (length d < 20)
short_by d (Ok packet) e = (λ h. absurd cc, λ lt. absurd (let h = packet_of-short d lt in cc))
short_by d (Err fault) e = (λ h. packet_of-is_short d (e ∙ ap (λ (f : WireFault). Err f) (let same : fault ≡ Short = cc in same)), λ lt. let h = packet_of-short d lt in cc)

pub bad_by : (d : List ℕ) (r : Result Packet WireFault) → IsBytes d → Reads d r → IsErrOf r BadLength ↔ ((20 ≤ length d) × ((fields : Fields) (padding : List ℕ) → IsDatagram d fields padding → ⊥))
bad_by d (Ok packet) fits e = (λ h. absurd cc, λ h. absurd (let k = packet_of-no_packet d fits h.0 h.1 in cc))
bad_by d (Err fault) fits e =
    (λ h. let bad : packet_of d ≡ Err BadLength = cc in (packet_of-is_bad d bad, λ fields padding is. let k = packet_of-only d fields padding is in cc), λ h. let k = packet_of-no_packet d fits h.0 h.1 in cc)

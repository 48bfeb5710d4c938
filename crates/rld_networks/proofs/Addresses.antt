-- An address is read exactly where a text writes one.
use Rattle.std.proofs.Common.{◌≡◌, ℕ, true, false, List, [], ◌∷◌, ◌++◌, take, Option, Some, None, IsSome, IfSome, ◌↔◌, Bool, append-nil, lit≤, refl, sym, ap, subst, ◌∙◌, arith}
use Rattle.std.proofs.lemmas.Bool.{false≢true}
use Rattle.std.proofs.lemmas.Bool.Decides.{nat_tests}
use Rattle.std.proofs.lemmas.Slice.Eq.{bytes_eq-Decides}
use Rattle.std.proofs.NetLemmas.Ipv4.{read_ipv4_sound, read_ipv4_complete}
use Rattle.std.proofs.NetLemmas.Ipv6.{EndsGroups-nil, IsDotted-not_colon_hex, read_ipv6_sound, read_ipv6_complete}
use Rattle.std.specs.Net.Addr.{IsIpv4Mapped, ipv4_octets, ipv6_segments, low_octets}
use Rattle.std.specs.Net.Grammar.{IsColonHex, IsDotted, IsIpText}
use Rattle.std.specs.Net.Reader.{Read, read_ipv4, read_ipv6, whole_value}
use Rattle.std.specs.Str.{bytes_eq}
use Rattle.std.specs.declared.net.ip_addr.IpAddr.{IpAddr}
use Rattle.std.specs.declared.net.ip_addr.IpAddr.TheVariants.{V4, V6}
use Rattle.std.specs.declared.net.ipv4_addr.Ipv4Addr.{Ipv4Addr}
use Rattle.std.specs.declared.net.ipv6_addr.Ipv6Addr.{Ipv6Addr}
use Rattle.rld_networks.specs.Address.{ip_address_of, ipv4, ipv6, is_mapped, mapped}

left_over : {A : Type 0} (value : A) (x : ℕ) (rest : List ℕ) → whole_value (Some (value, x ∷ rest)) ≡ None
left_over value x rest = grind (arith, nat_tests)

-- nothing whole is read where nothing is read that ends with the text
not_whole : {A : Type 0} (read : Read A) → ((value : A) → read ≡ Some (value, []) → ⊥) → whole_value read ≡ None
not_whole None none = refl
not_whole (Some (value, [])) none = absurd (none value refl)
not_whole (Some (value, x ∷ rest)) none = left_over value x rest

ipv4_read : (text octets : List ℕ) → IsDotted text octets → whole_value (read_ipv4 text) ≡ Some octets
ipv4_read text octets dotted =
    let read : read_ipv4 text ≡ Some (octets, []) = rw append-nil at (read_ipv4_complete text octets [] dotted (lit≤ tt)) in
    rw read

ipv6_read : (text segments : List ℕ) → IsColonHex text segments → whole_value (read_ipv6 text) ≡ Some segments
ipv6_read text segments written =
    let read : read_ipv6 text ≡ Some (segments, []) = rw append-nil at (read_ipv6_complete text segments [] written EndsGroups-nil) in
    rw read

no_ipv4 : (text : List ℕ) → ((octets : List ℕ) → IsDotted text octets → ⊥) → whole_value (read_ipv4 text) ≡ None
no_ipv4 text none = not_whole (read_ipv4 text) (λ octets read.
    let (front, spelled, dotted) = read_ipv4_sound text octets [] read in
    none octets (subst (λ t. IsDotted t octets) (sym (spelled ∙ append-nil front)) dotted))

no_ipv6 : (text : List ℕ) → ((segments : List ℕ) → IsColonHex text segments → ⊥) → whole_value (read_ipv6 text) ≡ None
no_ipv6 text none = not_whole (read_ipv6 text) (λ segments read.
    let (front, spelled, written) = read_ipv6_sound text segments [] read in
    none segments (subst (λ t. IsColonHex t segments) (sym (spelled ∙ append-nil front)) written))

pub ip_address_of-written : (text : List ℕ) (address : IpAddr) → IsIpText text address → Some address ≡ ip_address_of text
unfolding ip_address_of
ip_address_of-written text (V4 address) dotted = rw (ipv4_read text address.octets dotted)
ip_address_of-written text (V6 address) written =
    rw (no_ipv4 text (λ octets dotted. IsDotted-not_colon_hex text octets address.segments dotted written), ipv6_read text address.segments written)

pub ip_address_of-other : (text : List ℕ) → ((address : IpAddr) → IsIpText text address → ⊥) → None ≡ ip_address_of text
unfolding ip_address_of
ip_address_of-other text none =
    rw (no_ipv4 text (λ octets dotted. none (ipv4 octets) dotted), no_ipv6 text (λ segments written. none (ipv6 segments) written))

-- ::ffff:a.b.c.d is told from any other address
mapped_is : (address : Ipv6Addr) → IsIpv4Mapped (ipv6_segments address) → is_mapped address ≡ true
mapped_is address is = (bytes_eq-Decides (take 6 (ipv6_segments address)) _).1 is

mapped_is_not : (address : Ipv6Addr) → ¬ (IsIpv4Mapped (ipv6_segments address)) → is_mapped address ≡ false
mapped_is_not address other = by (is_mapped address) refl
  where
    by : (b : Bool) → is_mapped address ≡ b → is_mapped address ≡ false
    by true is = absurd (other ((bytes_eq-Decides (take 6 (ipv6_segments address)) _).0 is))
    by false is = is

abbrev some_ipv4 : List ℕ → Option Ipv4Addr
some_ipv4 octets = Some (record { octets = octets })

pub mapped-v4 : (address : Ipv4Addr) → None ≡ mapped (V4 address)
unfolding mapped
mapped-v4 address = refl

pub mapped-v6 : (address : Ipv6Addr) (found : Option Ipv4Addr) → IsSome found ↔ IsIpv4Mapped (ipv6_segments address) → IfSome found (λ a. ipv4_octets a ≡ low_octets address) → found ≡ mapped (V6 address)
unfolding mapped
mapped-v6 address None is octets = rw (mapped_is_not address (λ mapped. false≢true (is.1 mapped)))
mapped-v6 address (Some found) is octets = rw (mapped_is address (is.0 refl)) (ap some_ipv4 octets)

-- The octets of a value, as it is written for each form.
use Rattle.std.specs.Prelude.{ℕ, ◌+◌, ◌-◌, ◌*◌, ◌==◌, ◌&&◌, ◌||◌, not, nat_lt, nat_le, Bool, true, false, if◌then◌else◌, List, [], ◌∷◌, ◌++◌, length, take, drop, slice_index, codes, Option, None, Some, option_and_then, option_map}
use Rattle.std.specs.Int.{w32, to_be_bytes}
use Rattle.std.specs.List.{list_all}
use Rattle.std.specs.Net.Addr.{ipv4_octets, ipv6_octets}
use Rattle.std.specs.Option.{option_or}
use Rattle.std.specs.Result.{result_ok}
use Rattle.std.specs.declared.net.ip_addr.IpAddr.{IpAddr}
use Rattle.std.specs.declared.net.ip_addr.IpAddr.TheVariants.{V4, V6}
use Rattle.hex.specs.Hex.{decode_of}
use Rattle.rld_networks.specs.Address.{ip_address_of}
use Rattle.rld_networks.specs.Prefix.{prefix_of}
use Rattle.rld_networks.specs.declared.prefix.Prefix.{Prefix}
use Rattle.rsl_reply.specs.declared.dictionary.Dictionary.{Dictionary}
use Rattle.rsl_accounts.specs.declared.reply_form.Form.{Form}
use Rattle.rsl_accounts.specs.declared.reply_form.Form.TheVariants.{Text, Octets, Number, Ipv4, Ipv6, Ipv6Prefix, InterfaceId, TaggedNumber, TaggedText}
use Rattle.rsl_reply.specs.declared.target.Target.{Target}
use Rattle.rsl_reply.specs.Dictionary.{value_named}
use Rattle.rsl_reply.specs.Words.{◌>>=◌, read_number, rest_after, split_at}

-- between two quotation marks, double or single
abbrev pub is_quoted : List ℕ → Bool
is_quoted text =
    nat_le 2 (length text) && (slice_index text 0 == 34 || slice_index text 0 == 39)
    && slice_index text (length text - 1) == slice_index text 0

abbrev pub inside : List ℕ → List ℕ
inside text = take (length text - 1 - 1) (drop 1 text)

-- no control character, double quotation mark or backslash
abbrev pub is_plain : (octet : ℕ) → Bool
is_plain octet = nat_le 32 octet && not (octet == 34) && not (octet == 92) && not (octet == 127)

-- what a backslash may stand before: a double quotation mark, or a backslash
abbrev pub is_escaped : (octet : ℕ) → Bool
is_escaped octet = octet == 34 || octet == 92

-- these octets, and those after them, of which a backslash escapes the next; `escaping` after a backslash
abbrev pub unescaped : (escaping : Bool) → (before : List ℕ) → List ℕ → Option (List ℕ)
unescaped escaping before [] = if escaping then None else Some before
unescaped escaping before (octet ∷ rest) =
    if escaping
    then (if is_escaped octet then unescaped false (before ++ octet ∷ []) rest else None)
    else (if octet == 92 then unescaped true before rest
    else (if is_plain octet then unescaped false (before ++ octet ∷ []) rest else None))

abbrev pub some_of : Option (List ℕ) → Option (List ℕ)
some_of None = None
some_of (Some text) = if nat_lt 0 (length text) then Some text else None

-- a text of one octet or more: plain ones, or in quotation marks with `\"` and `\\`
unfoldable pub text_value : List ℕ → Option (List ℕ)
text_value text =
    if is_quoted text then some_of (unescaped false [] (inside text))
    else if list_all is_plain text then some_of (Some text)
    else None

-- one pair of hexadecimal digits or more
unfoldable pub decoded : List ℕ → Option (List ℕ)
decoded [] = None
decoded digits = result_ok (decode_of digits)

-- octets: 0x and such pairs
unfoldable pub octets_value : List ℕ → Option (List ℕ)
octets_value text = do
  digits ← rest_after (codes "0x") text
  decoded digits

-- a number, or the name of one
unfoldable pub number_value : Dictionary → Target → List ℕ → Option ℕ
number_value names target word =
    option_or (read_number word) (value_named names target.vendor target.number word)

-- a number of four octets, the high octet first
abbrev pub number_octets : Option ℕ → Option (List ℕ)
number_octets number = option_map (λ n. to_be_bytes w32 n) number

-- a number of three octets, with a tag before it (RFC 2868 section 3.1)
unfoldable pub tagged_number : Dictionary → Target → List ℕ → Option ℕ
tagged_number names target word = do
  number ← number_value names target word
  if nat_lt number 16777216 then Some (target.tag * 16777216 + number) else None

-- the octets of an address
abbrev pub ipv4_in : Option IpAddr → Option (List ℕ)
ipv4_in (Some (V4 address)) = Some (ipv4_octets address)
ipv4_in _ = None

abbrev pub ipv6_in : Option IpAddr → Option (List ℕ)
ipv6_in (Some (V6 address)) = Some (ipv6_octets address)
ipv6_in _ = None

-- an octet that is reserved, the length of the prefix, and its address (RFC 3162 section 2.3)
abbrev pub prefix_octets : (len : ℕ) → IpAddr → Option (List ℕ)
prefix_octets len (V6 address) = Some (0 ∷ len ∷ ipv6_octets address)
prefix_octets len (V4 address) = None

abbrev pub ipv6_prefix_in : Option Prefix → Option (List ℕ)
ipv6_prefix_in None = None
ipv6_prefix_in (Some prefix) = prefix_octets prefix.len prefix.address

-- the four groups of an interface identifier, each of one to four hexadecimal digits, filled up with zeros
abbrev pub is_group : List ℕ → Bool
is_group word = nat_lt 0 (length word) && nat_le (length word) 4

abbrev pub filled : List ℕ → List ℕ
filled word = drop (length word) (codes "0000") ++ word

abbrev pub group : List ℕ → Option (List ℕ)
group word = if is_group word then Some (filled word) else None

unfoldable pub group_digits : (text : List ℕ) → Option (List ℕ)
group_digits text = do
  first ← split_at 58 text
  second ← split_at 58 first.1
  third ← split_at 58 second.1
  a ← group first.0
  b ← group second.0
  c ← group third.0
  d ← group third.1
  Some (a ++ b ++ c ++ d)

-- an interface identifier (RFC 3162 section 2.2): octets, or four groups
unfoldable pub interface_id : (text : List ℕ) → Option (List ℕ)
interface_id text = option_or (octets_value text) (option_and_then decoded (group_digits text))

-- a tag stands before a text if there is one (RFC 2868 section 3.6)
abbrev pub with_tag : (tag : ℕ) → List ℕ → List ℕ
with_tag tag text = if tag == 0 then text else tag ∷ text

-- the octets of a value of an attribute
abbrev pub value_by : Form → Dictionary → Target → (text : List ℕ) → Option (List ℕ)
value_by Text names target text = text_value text
value_by Octets names target text = octets_value text
value_by Number names target text = number_octets (number_value names target text)
value_by Ipv4 names target text = ipv4_in (ip_address_of text)
value_by Ipv6 names target text = ipv6_in (ip_address_of text)
value_by Ipv6Prefix names target text = ipv6_prefix_in (prefix_of text)
value_by InterfaceId names target text = interface_id text
value_by TaggedNumber names target text = number_octets (tagged_number names target text)
value_by TaggedText names target text = option_map (with_tag target.tag) (text_value text)

unfoldable pub value_of : Dictionary → Target → (text : List ℕ) → Option (List ℕ)
value_of names target text = value_by target.form names target text

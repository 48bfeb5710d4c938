-- How a value is written in its form, where it has that form.
use Rattle.std.specs.Prelude.{ℕ, ◌==◌, ◌&&◌, ◌||◌, nat_le, nat_lt, Bool, if◌then◌else◌, List, [], ◌∷◌, ◌++◌, length, codes, Option, None, Some, option_map, is_some}
use Rattle.std.specs.Fmt.{decimal}
use Rattle.std.specs.Int.{w32, from_be_bytes}
use Rattle.std.specs.List.{list_all, flat_map}
use Rattle.std.specs.Str.{is_utf8}
use Rattle.std.specs.Net.Addr.{segments_of}
use Rattle.std.specs.Net.Text.{ipv6_text}
use Rattle.rld_networks.specs.Prefix.{prefix_of}
use Rattle.rld_values.specs.Values.{dotted, hex}
use Rattle.rsl_reply.specs.Dictionary.{name_of_value}
use Rattle.rsl_reply.specs.Value.{is_escaped, is_plain}
use Rattle.rsl_reply.specs.declared.dictionary.Dictionary.{Dictionary}
use Rattle.rsl_accounts.specs.declared.reply_form.Form.{Form}
use Rattle.rsl_accounts.specs.declared.reply_form.Form.TheVariants.{Text, Octets, Number, Ipv4, Ipv6, Ipv6Prefix, InterfaceId, TaggedNumber, TaggedText}

-- ---- texts and octets

-- a text of one character or more, without control characters
abbrev pub is_shown : (octet : ℕ) → Bool
is_shown octet = is_plain octet || is_escaped octet

abbrev pub is_text : (value : List ℕ) → Bool
is_text value = nat_lt 0 (length value) && list_all is_shown value && is_utf8 value

-- in quotation marks, with a backslash before each of them and before another backslash
abbrev pub escaped : (octet : ℕ) → List ℕ
escaped octet = if is_escaped octet then 92 ∷ octet ∷ [] else octet ∷ []

unfoldable pub quoted : (value : List ℕ) → List ℕ
quoted value = codes "\"" ++ (flat_map escaped value ++ codes "\"")

abbrev pub text_in : (value : List ℕ) → Option (List ℕ)
text_in value = if is_text value then Some (quoted value) else None

abbrev pub digits : (value : List ℕ) → List ℕ
digits value = codes "0x" ++ hex value

abbrev pub octets_in : (value : List ℕ) → Option (List ℕ)
octets_in value = if nat_lt 0 (length value) then Some (digits value) else None

-- ---- tags (RFC 2868 section 3)

-- a tag, which is 1 to 31, and the text after it; 0 where there is none
abbrev pub parted : (value : List ℕ) → ℕ × List ℕ
parted [] = (0, [])
parted (first ∷ rest) =
    if nat_le 1 first && nat_le first 31 then (first, rest) else (0, first ∷ rest)

-- the tag of a number, which is 0 to 31
abbrev pub first_octet : (value : List ℕ) → ℕ
first_octet [] = 0
first_octet (first ∷ rest) = first

-- the tag of a value of this form, 0 for none
abbrev pub tag_in : Form → (value : List ℕ) → ℕ
tag_in TaggedNumber value = first_octet value
tag_in TaggedText value = (parted value).0
tag_in _ value = 0

-- ---- numbers

-- one of four octets, the high octet first
abbrev pub number_in : (value : List ℕ) → Option ℕ
number_in (a ∷ b ∷ c ∷ d ∷ []) = Some (from_be_bytes w32 (a ∷ b ∷ c ∷ d ∷ []))
number_in _ = None

-- one of three octets, after a tag
abbrev pub tagged_number_in : (value : List ℕ) → Option ℕ
tagged_number_in (tag ∷ b ∷ c ∷ d ∷ []) =
    if nat_le tag 31 then Some (from_be_bytes w32 (0 ∷ b ∷ c ∷ d ∷ [])) else None
tagged_number_in _ = None

-- the name of the number, or its digits
abbrev pub named_or_decimal : Option (List ℕ) → (number : ℕ) → List ℕ
named_or_decimal (Some name) number = name
named_or_decimal None number = decimal number

abbrev pub number_text : Dictionary → (vendor kind number : ℕ) → List ℕ
number_text names vendor kind number =
    named_or_decimal (name_of_value names vendor kind number) number

-- ---- addresses (RFC 5952) and prefixes (RFC 3162 section 2.3)

abbrev pub ipv4_in : (value : List ℕ) → Option (List ℕ)
ipv4_in value = if length value == 4 then Some (dotted value) else None

abbrev pub ipv6_in : (value : List ℕ) → Option (List ℕ)
ipv6_in value = if length value == 16 then Some (ipv6_text (segments_of value)) else None

-- an address and a length, where they are a prefix
abbrev pub prefix_if : (text : List ℕ) → Option (List ℕ)
prefix_if text = if is_some (prefix_of text) then Some text else None

abbrev pub prefix_by : Option (List ℕ) → (len : ℕ) → Option (List ℕ)
prefix_by None len = None
prefix_by (Some address) len = prefix_if (address ++ (codes "/" ++ decimal len))

abbrev pub ipv6_prefix_in : (value : List ℕ) → Option (List ℕ)
ipv6_prefix_in (reserved ∷ len ∷ value) =
    if reserved == 0 then prefix_by (ipv6_in value) len else None
ipv6_prefix_in _ = None

-- an interface identifier (RFC 3162 section 2.2): four groups of hexadecimal digits, without zeros in front
abbrev pub without_zeros : (digits : List ℕ) → List ℕ
without_zeros [] = []
without_zeros (digit ∷ []) = digit ∷ []
without_zeros (digit ∷ next ∷ rest) =
    if digit == 48 then without_zeros (next ∷ rest) else digit ∷ next ∷ rest

abbrev pub group : (high low : ℕ) → List ℕ
group high low = without_zeros (hex (high ∷ low ∷ []))

abbrev pub interface_in : (value : List ℕ) → Option (List ℕ)
interface_in (a ∷ b ∷ c ∷ d ∷ e ∷ f ∷ g ∷ h ∷ []) =
    Some (group a b ++ (codes ":" ++ (group c d ++ (codes ":" ++ (group e f ++ (codes ":" ++ group g h))))))
interface_in _ = None

-- ---- the text of a value of an attribute, if it is of this form

abbrev pub value_text : Dictionary → Form → (vendor kind : ℕ) → (value : List ℕ) → Option (List ℕ)
value_text names Text vendor kind value = text_in value
value_text names Octets vendor kind value = octets_in value
value_text names Number vendor kind value = option_map (number_text names vendor kind) (number_in value)
value_text names Ipv4 vendor kind value = ipv4_in value
value_text names Ipv6 vendor kind value = ipv6_in value
value_text names Ipv6Prefix vendor kind value = ipv6_prefix_in value
value_text names InterfaceId vendor kind value = interface_in value
value_text names TaggedNumber vendor kind value =
    option_map (number_text names vendor kind) (tagged_number_in value)
value_text names TaggedText vendor kind value = text_in (parted value).1

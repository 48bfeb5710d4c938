-- The attribute that a text `NAME = VALUE` writes, or what is wrong with it.
use Rattle.std.specs.Prelude.{ℕ, ◌==◌, ◌&&◌, nat_lt, Bool, true, false, if◌then◌else◌, List, ◌++◌, length, Option, None, Some, Result, Ok, Err}
use Rattle.std.specs.Int.{w32, to_be_bytes}
use Rattle.rsl_wire.specs.Attributes.{attribute_of, attribute_octets}
use Rattle.rsl_reply.specs.declared.attribute.ReplyAttribute.{ReplyAttribute}
use Rattle.rsl_reply.specs.declared.dictionary.Dictionary.{Dictionary}
use Rattle.rsl_accounts.specs.declared.reply_fault.ReplyFault.{ReplyFault}
use Rattle.rsl_accounts.specs.declared.reply_fault.ReplyFault.TheVariants.{NotPair, UnknownName, ServersOwn, BadValue, TooLong, TooShort}
use Rattle.rsl_reply.specs.declared.target.Target.{Target}
use Rattle.rsl_reply.specs.Naming.{is_servers, target_of}
use Rattle.rsl_reply.specs.Value.{value_of}
use Rattle.rsl_reply.specs.Words.{split_at, trimmed}

-- the Type, the length and the value
abbrev pub plain_octets : (kind : ℕ) → (value : List ℕ) → List ℕ
plain_octets kind value = attribute_octets (attribute_of kind value)

-- a vendor's attribute is carried by one of Type 26, after the vendor's number (RFC 2865 section 5.26)
abbrev pub vendor_octets : (vendor kind : ℕ) → (value : List ℕ) → List ℕ
vendor_octets vendor kind value =
    plain_octets 26 (to_be_bytes w32 vendor ++ plain_octets kind value)

-- the most octets that a value may have
abbrev pub most_octets : Target → ℕ
most_octets target = if target.vendor == 0 then 253 else 247

-- the fewest: Vendor-Specific by its number has that of a vendor, and one octet or more after it
abbrev pub least_octets : Target → ℕ
least_octets target = if target.vendor == 0 && target.number == 26 then 5 else 0

abbrev pub octets_with : Target → (value : List ℕ) → List ℕ
octets_with target value =
    if target.vendor == 0
    then plain_octets target.number value
    else vendor_octets target.vendor target.number value

abbrev pub written : Target → (value : List ℕ) → Result (List ℕ) ReplyFault
written target value =
    if nat_lt (most_octets target) (length value) then Err TooLong
    else if nat_lt (length value) (least_octets target) then Err TooShort
    else Ok (octets_with target value)

abbrev pub written_if : Target → Option (List ℕ) → Result (List ℕ) ReplyFault
written_if target None = Err (BadValue target.form)
written_if target (Some value) = written target value

abbrev pub attribute_with : Target → (adds : Bool) → Result (List ℕ) ReplyFault
    → Result ReplyAttribute ReplyFault
attribute_with target adds (Ok octets) =
    Ok (record { target = target; adds = adds; octets = octets })
attribute_with target adds (Err fault) = Err fault

abbrev pub read_as : Dictionary → Option Target → (adds : Bool) → (value : List ℕ)
    → Result ReplyAttribute ReplyFault
read_as names None adds value = Err UnknownName
read_as names (Some target) adds value =
    if is_servers target then Err ServersOwn
    else attribute_with target adds (written_if target (value_of names target value))

-- a name, and whether `+` stands after it
abbrev pub added_by : Option (List ℕ × List ℕ) → (front : List ℕ) → List ℕ × Bool
added_by None front = (front, false)
added_by (Some parts) front =
    if length parts.1 == 0 then (trimmed parts.0, true) else (front, false)

unfoldable pub added : (front : List ℕ) → List ℕ × Bool
added front = added_by (split_at 43 front) front

abbrev pub read_named : Dictionary → List ℕ × Bool → (value : List ℕ)
    → Result ReplyAttribute ReplyFault
read_named names front value = read_as names (target_of names front.0) front.1 value

abbrev pub read_pair : Dictionary → Option (List ℕ × List ℕ) → Result ReplyAttribute ReplyFault
read_pair names None = Err NotPair
read_pair names (Some parts) = read_named names (added (trimmed parts.0)) (trimmed parts.1)

-- the attribute, or the fault of the text
unfoldable pub attribute_of_text : Dictionary → (text : List ℕ) → Result ReplyAttribute ReplyFault
attribute_of_text names text = read_pair names (split_at 61 text)

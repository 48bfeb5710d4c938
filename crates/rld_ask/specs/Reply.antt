-- What an accept says, as JSON (RFC 8259) that FreeRADIUS's `rest` module reads, and as lines.
use Rattle.std.specs.Prelude.{ℕ, ◌-◌, ◌==◌, ◌&&◌, ◌||◌, not, nat_le, Bool, false, if◌then◌else◌, List, [], ◌∷◌, ◌++◌, length, fold, codes, bytes_eq, slice_get, slice_index, Option, None, Some}
use Rattle.std.specs.List.{flat_map, list_any}
use Rattle.rsl_reply.specs.Value.{inside}
use Rattle.rld_attributes.specs.Value.{escaped}
use Rattle.rsl_wire.specs.Attributes.{Attribute}
use Rattle.rsl_event.specs.declared.codes.TheConstants.{ACCT_INTERIM_INTERVAL, FRAMED_PROTOCOL, IDLE_TIMEOUT, MESSAGE_AUTHENTICATOR, PORT_LIMIT, PROXY_STATE, SERVICE_TYPE, SESSION_TIMEOUT}
use Rattle.rsl_reply.specs.declared.dictionary.Dictionary.{Dictionary}
use Rattle.rld_attributes.specs.Written.{pair, written}
use Rattle.rld_attributes.specs.declared.written.Written.{Written}
use Rattle.rld_ask.specs.declared.reply.TheConstants.{FRAMED_IP_ADDRESS, FRAMED_IP_NETMASK}

-- those that are no matter of the packet alone are told
abbrev pub is_told : (kind : ℕ) → Bool
is_told kind = not (kind == MESSAGE_AUTHENTICATOR) && not (kind == PROXY_STATE)

-- a Type, with the name and the value of the attribute
abbrev pub Told : Type 0
Told = ℕ × Written

abbrev pub told_if : Dictionary → Attribute → List Told
told_if names attribute =
    if is_told attribute.kind
    then (attribute.kind, written names attribute.kind attribute.value) ∷ []
    else []

abbrev pub told_of : Dictionary → List Attribute → List Told
told_of names attributes = flat_map (told_if names) attributes

-- ---- as JSON

-- those of which an accept has one at most (RFC 2865 section 5.44, RFC 2869 section 5.19): they take the place
-- of another, and others are added to those that are there
abbrev pub is_single : (kind : ℕ) → Bool
is_single kind =
    kind == SERVICE_TYPE || kind == FRAMED_PROTOCOL || kind == FRAMED_IP_ADDRESS
    || kind == FRAMED_IP_NETMASK || kind == SESSION_TIMEOUT || kind == IDLE_TIMEOUT
    || kind == PORT_LIMIT || kind == ACCT_INTERIM_INTERVAL

-- what stands between quotation marks, or the whole
abbrev pub is_quoted : (value : List ℕ) → Bool
is_quoted value =
    nat_le 2 (length value) && slice_index value 0 == 34
    && slice_index value (length value - 1) == 34

abbrev pub bare : (value : List ℕ) → List ℕ
bare value = if is_quoted value then inside value else value

unfoldable pub in_quotes : (value : List ℕ) → List ℕ
in_quotes value = codes "\"" ++ (value ++ codes "\"")

-- a string: FreeRADIUS reads it as a text between quotation marks, with backslashes that escape, so those of
-- a text are escaped once more
abbrev pub string : (value : List ℕ) → List ℕ
string value = in_quotes (flat_map escaped (bare value))

-- a comma, but not after a bracket that opens
abbrev pub opens : Option ℕ → Bool
opens None = false
opens (Some octet) = octet == 123 || octet == 91

abbrev pub separator : (text : List ℕ) → List ℕ
separator text = if opens (slice_get text (length text - 1)) then [] else codes ","

-- the values under this name, in their order
abbrev pub is_named : (name : List ℕ) → Told → Bool
is_named name one = bytes_eq one.1.name name

abbrev pub with_value : (name text : List ℕ) → Told → List ℕ
with_value name text one =
    if is_named name one then (text ++ separator text) ++ string one.1.value else text

-- a member: the name, how its values are taken, and all of them
abbrev pub operator : (kind : ℕ) → List ℕ
operator kind = if is_single kind then [] else codes "\"op\":\"+=\","

unfoldable pub member_name : (name : List ℕ) → List ℕ
member_name name = codes "\"reply:" ++ (name ++ codes "\":{")

unfoldable pub member_front : Told → List ℕ
member_front one =
    member_name one.1.name ++ (operator one.0 ++ codes "\"do_xlat\":false,\"value\":[")

abbrev pub with_member : (told : List Told) → (text : List ℕ) → Told → List ℕ
with_member told text one =
    fold (with_value one.1.name) ((text ++ separator text) ++ member_front one) told ++ codes "]}"

-- each name once, where the last of that name stands
abbrev pub with_members : (told : List Told) → (text : List ℕ) → (rest : List Told) → List ℕ
with_members told text [] = text
with_members told text (one ∷ rest) =
    with_members told
    (if list_any (is_named one.1.name) rest then text else with_member told text one) rest

abbrev pub json_of : Dictionary → List Attribute → List ℕ
json_of names attributes =
    with_members (told_of names attributes) (codes "{") (told_of names attributes) ++ codes "}\n"

-- ---- as lines

unfoldable pub line : Dictionary → (kind : ℕ) (value : List ℕ) → List ℕ
line names kind value = pair (written names kind value) ++ codes "\n"

abbrev pub line_of : Dictionary → Attribute → List ℕ
line_of names attribute =
    if is_told attribute.kind then line names attribute.kind attribute.value else []

abbrev pub lines_of : Dictionary → List Attribute → List ℕ
lines_of names attributes = flat_map (line_of names) attributes

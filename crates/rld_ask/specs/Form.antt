-- The form of an ask (`application/x-www-form-urlencoded` of the URL Standard): which fields it may have, and
-- which values each.
use Rattle.std.specs.Prelude.{ℕ, Bool, ◌==◌, ◌&&◌, not, nat_le, if◌then◌else◌, List, [], ◌∷◌, ◌++◌, length, codes, bytes_eq, Option, Some, None, is_some, Result, Ok, Err}
use Rattle.form_urlencoded.specs.Form.{decode, raw_pairs}
use Rattle.rsl_accounts.specs.Address.{address_of}
use Rattle.rld_ask.specs.declared.fault.FormFault.{FormFault}
use Rattle.rld_ask.specs.declared.fault.FormFault.TheVariants.{Unknown, Twice, Missing, Wrong, NoMemory}
use Rattle.rld_ask.specs.declared.field.Field.{Field}
use Rattle.rld_ask.specs.declared.field.Field.TheVariants.{Name, Key, NasIdentifier, NasIpAddress, CallingStationId}
use Rattle.rld_ask.specs.declared.fields.Fields.{Fields}
use Rattle.rld_ask.specs.declared.form.AskForm.{AskForm}

-- what goes on with a value, or its fault
abbrev pub and_then : {T U : Type 0} → Result T FormFault → (T → Result U FormFault) → Result U FormFault
and_then (Ok value) next = next value
and_then (Err fault) next = Err fault

-- a field as it stands in the form
abbrev pub field_name : Field → List ℕ
field_name Name = codes "name"
field_name Key = codes "key"
field_name NasIdentifier = codes "nas_identifier"
field_name NasIpAddress = codes "nas_ip_address"
field_name CallingStationId = codes "calling_station_id"

abbrev pub field_of : (name : List ℕ) → Option Field
field_of name =
    if bytes_eq name (codes "name") then Some Name
    else if bytes_eq name (codes "key") then Some Key
    else if bytes_eq name (codes "nas_identifier") then Some NasIdentifier
    else if bytes_eq name (codes "nas_ip_address") then Some NasIpAddress
    else if bytes_eq name (codes "calling_station_id") then Some CallingStationId
    else None

-- ---- which fields are there

abbrev pub no_fields : Fields
no_fields = record { name = None; key = None; nas_identifier = None; nas_ip_address = None; calling_station_id = None }

abbrev pub value_in : Fields → Field → Option (List ℕ)
value_in fields Name = fields.name
value_in fields Key = fields.key
value_in fields NasIdentifier = fields.nas_identifier
value_in fields NasIpAddress = fields.nas_ip_address
value_in fields CallingStationId = fields.calling_station_id

abbrev pub with_value : Field → (value : List ℕ) → Fields → Fields
with_value Name value fields = record fields { name = Some value }
with_value Key value fields = record fields { key = Some value }
with_value NasIdentifier value fields = record fields { nas_identifier = Some value }
with_value NasIpAddress value fields = record fields { nas_ip_address = Some value }
with_value CallingStationId value fields = record fields { calling_station_id = Some value }

-- the fields with one more, which is not there yet
abbrev pub with_field : Fields → (value : List ℕ) → Option Field → Result Fields FormFault
with_field fields value None = Err Unknown
with_field fields value (Some field) =
    if is_some (value_in fields field) then Err (Twice field) else Ok (with_value field value fields)

-- the name and the value are still encoded
abbrev pub with_pair : Fields → List ℕ × List ℕ → Result Fields FormFault
with_pair fields pair = with_field fields (decode pair.1) (field_of (decode pair.0))

-- one after the other, until the first fault
abbrev pub with_pairs : Fields → List (List ℕ × List ℕ) → Result Fields FormFault
with_pairs fields [] = Ok fields
with_pairs fields (pair ∷ pairs) = and_then (with_pair fields pair) (λ next. with_pairs next pairs)

-- ---- which values they may have

abbrev pub is_empty : List ℕ → Bool
is_empty octets = length octets == 0

-- a required value: 1 to `most` octets
abbrev pub needed : Field → (most : ℕ) → Option (List ℕ) → Result (List ℕ) FormFault
needed field most None = Err (Missing field)
needed field most (Some octets) =
    if not (nat_le (length octets) most) then Err (Wrong field)
    else if is_empty octets then Err (Missing field)
    else Ok octets

-- a value that may be left out, of at most 253 octets; an empty one is left out
abbrev pub optional : Field → Option (List ℕ) → Result (Option (List ℕ)) FormFault
optional field None = Ok None
optional field (Some octets) =
    if not (nat_le (length octets) 253) then Err (Wrong field)
    else if is_empty octets then Ok None
    else Ok (Some octets)

abbrev pub if_address : Option (List ℕ) → Result (Option (List ℕ)) FormFault
if_address None = Err (Wrong NasIpAddress)
if_address (Some address) = Ok (Some address)

abbrev pub address_in : Option (List ℕ) → Result (Option (List ℕ)) FormFault
address_in None = Ok None
address_in (Some octets) = if is_empty octets then Ok None else if_address (address_of octets)

-- whether the access server has neither name
abbrev pub is_unnamed : (identifier address : Option (List ℕ)) → Bool
is_unnamed identifier address = not (is_some identifier) && not (is_some address)

unfoldable pub form_in : Fields → Result AskForm FormFault
form_in fields =
    and_then (needed Name 253 fields.name) (λ name.
    and_then (needed Key 128 fields.key) (λ key.
    and_then (optional NasIdentifier fields.nas_identifier) (λ identifier.
    and_then (address_in fields.nas_ip_address) (λ address.
    and_then (optional CallingStationId fields.calling_station_id) (λ station.
    if is_unnamed identifier address then Err (Missing NasIdentifier)
    else Ok (record {
      name = name;
      key = key;
      nas_identifier = identifier;
      nas_ip_address = address;
      calling_station_id = station;
    }))))))

-- the ask that a form has, or its first fault
abbrev pub form_of : (form : List ℕ) → Result AskForm FormFault
form_of form = and_then (with_pairs no_fields (raw_pairs form)) form_in

-- ---- what is said of a fault

abbrev pub fault_text : FormFault → List ℕ
fault_text Unknown = codes "unknown field"
fault_text (Twice field) = field_name field ++ codes ": more than once"
fault_text (Missing field) = field_name field ++ codes ": missing"
fault_text (Wrong field) = field_name field ++ codes ": wrong value"
fault_text NoMemory = codes "no memory"

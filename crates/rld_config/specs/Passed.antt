-- The first key of an account file that versions 1 and 2 pass over, and version 3 does not.
use Rattle.std.specs.Prelude.{ℕ, Bool, not, ◌||◌, if◌then◌else◌, bytes_eq, List, [], ◌∷◌, Option, None, Some, option_map}
use Rattle.std.specs.List.{list_any}
use Rattle.std.specs.Option.{option_or, option_and_then}
use Rattle.toml.specs.Data.{Data, array, table, Members, no_members, member}
use Rattle.rsl_accounts.specs.declared.field.Field.{Field}
use Rattle.rsl_accounts.specs.declared.field.Field.TheVariants.{Trusted as trusted, Disconnect as disconnect, Disabled as disabled, Reply as reply, Profile as profile, PortLimit as port_limit, Station as station, DelayTime as delay_time, Client as client, Account as account}
use Rattle.rsl_accounts.specs.declared.part.Part.{Part}
use Rattle.rsl_accounts.specs.declared.part.Part.TheVariants.{Head, Client, Account}
use Rattle.rsl_accounts.specs.Field.{field_key}
use Rattle.rsl_account_file.specs.File.{file_of, list_of, member_in}
use Rattle.rsl_accounts.specs.Part.{knows}
use Rattle.rld_config.specs.declared.passed.PassedOver.{PassedOver}

-- a key that version 3 alone follows
abbrev pub is_of_version_3 : (name : List ℕ) → Bool
is_of_version_3 name =
    list_any (λ field. bytes_eq name (field_key field))
    (trusted ∷ disconnect ∷ disabled ∷ reply ∷ profile ∷ port_limit ∷ station ∷ delay_time ∷ [])

-- a name that no key of the table has, or one that version 3 alone follows
abbrev pub is_passed_over : Part → (name : List ℕ) → Bool
is_passed_over part name = not (knows part name) || is_of_version_3 name

-- the first such name of a table; keys are in the order of their octets
abbrev pub name_of : Part → Members → Option (List ℕ)
name_of part no_members = None
name_of part (member name value rest) =
    if is_passed_over part name then Some name else name_of part rest

abbrev pub name_in : Part → Data → Option (List ℕ)
name_in part (table members) = name_of part members
name_in part _ = None

-- the first of some tables
abbrev pub name_among : Part → List Data → Option (List ℕ)
name_among part [] = None
name_among part (value ∷ values) = option_or (name_in part value) (name_among part values)

-- the values of an array under the key of a field
abbrev pub items_of : Option Data → List Data
items_of (Some (array items)) = list_of items
items_of _ = []

abbrev pub passed : Part → Option (List ℕ) → Option PassedOver
passed part name = option_map (λ key. record { part = part; key = key }) name

-- the first of a file: of its head, then of its clients, then of its accounts
unfoldable pub passed_over_in : Data → Option PassedOver
passed_over_in file =
    option_or (passed Head (name_in Head file))
    (option_or (passed Client (name_among Client (items_of (member_in file client))))
    (passed Account (name_among Account (items_of (member_in file account)))))

abbrev pub passed_over : (text : List ℕ) → Option PassedOver
passed_over text = option_and_then passed_over_in (file_of text)

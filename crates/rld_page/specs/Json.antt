-- The accounts as JSON (RFC 8259).
use Rattle.std.specs.Prelude.{ℕ, ◌+◌, ◌/◌, ◌%◌, ◌==◌, nat_lt, List, [], ◌∷◌, ◌++◌, codes, if◌then◌else◌}
use Rattle.std.specs.Fmt.{decimal}
use Rattle.std.specs.List.{flat_map}
use Rattle.rld_look.specs.declared.look.AccountLook.{AccountLook}
use Rattle.rld_look.specs.declared.look.AccountsLook.{AccountsLook}
use Rattle.rsl_shard.specs.declared.row.Row.{Row}

-- a hexadecimal digit
abbrev pub hex_digit : ℕ → ℕ
hex_digit digit = if nat_lt digit 10 then 48 + digit else 55 + digit

-- an octet of a string (RFC 8259 section 7): a quote and a backslash have a backslash before them,
-- a control character is `\u` and four hexadecimal digits
abbrev pub json_octet : ℕ → List ℕ
json_octet octet =
    if octet == 34 then codes "\\\""
    else if octet == 92 then codes "\\\\"
    else if nat_lt octet 32
    then codes "\\u00" ++ (hex_digit (octet / 16) ∷ hex_digit (octet % 16) ∷ [])
    else octet ∷ []

-- a member that is a number, after another member
unfoldable pub member_json : (name : List ℕ) → (number : ℕ) → List ℕ
member_json name number = codes ",\"" ++ (name ++ (codes "\":" ++ decimal number))

unfoldable pub name_json : (name : List ℕ) → List ℕ
name_json name = codes "\n{\"name\":\"" ++ (flat_map json_octet name ++ codes "\"")

-- the links of an account, and the end of its object
unfoldable pub links_json : Row → List ℕ
links_json row =
    member_json (codes "live") row.live
    ++ (member_json (codes "stale") row.stale
    ++ (member_json (codes "over") row.over ++ codes "}"))

-- what an account holds
unfoldable pub row_json : Row → List ℕ
row_json row =
    member_json (codes "places") row.places
    ++ (member_json (codes "held") row.held
    ++ (member_json (codes "reserved") row.reserved ++ links_json row))

unfoldable pub account_json : AccountLook → List ℕ
account_json account = name_json account.name ++ row_json account.row

-- an account after another one
abbrev pub more_json : AccountLook → List ℕ
more_json account = codes "," ++ account_json account

-- the accounts, with a comma between two
abbrev pub list_json : List AccountLook → List ℕ
list_json [] = []
list_json (first ∷ others) = account_json first ++ flat_map more_json others

-- the whole: the second since 1970, and the accounts in file order
unfoldable pub accounts_json : AccountsLook → List ℕ
accounts_json look =
    codes "{\"now\":" ++ (decimal look.now
    ++ (codes ",\"accounts\":[" ++ (list_json look.accounts.items ++ codes "]}\n")))

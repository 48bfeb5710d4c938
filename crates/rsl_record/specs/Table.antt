-- The table of a report: a line of titles, and a line for each row.
use Rattle.std.specs.Prelude.{ℕ, ◌-◌, List, [], ◌∷◌, ◌++◌, length, map, replicate, codes, slice_get}
use Rattle.std.specs.Fmt.{decimal}
use Rattle.std.specs.List.{flat_map}
use Rattle.std.specs.Option.{option_map_or}
use Rattle.rsl_accounts.specs.Configuration.{Configuration}
use Rattle.rsl_shard.specs.declared.row.Row.{Row}

-- the spaces that pad a text to a width: none for a longer text
abbrev pub spaces_to : (width : ℕ) → (text : List ℕ) → List ℕ
spaces_to width text = replicate (width - length text) 32

-- a text left-aligned in 20 characters
abbrev pub name_column : List ℕ → List ℕ
name_column text = text ++ spaces_to 20 text

-- a space, and a text right-aligned in 8 characters
abbrev pub column : List ℕ → List ℕ
column text = 32 ∷ spaces_to 8 text ++ text

-- a first text, the texts of the columns after it, and a line feed
unfoldable pub line : (first : List ℕ) → (others : List (List ℕ)) → List ℕ
line first others = name_column first ++ flat_map column others ++ 10 ∷ []

abbrev pub header : List ℕ
header =
    line (codes "name")
    (codes "places" ∷ codes "held" ∷ codes "reserved" ∷ codes "live" ∷ codes "stale" ∷ codes "over"
    ∷ [])

-- the name of the account with this number
abbrev pub name_of : Configuration → (account : ℕ) → List ℕ
name_of config account = option_map_or (λ entry. entry.name) (slice_get config.accounts account) []

abbrev pub row_line : Configuration → Row → List ℕ
row_line config row =
    line (name_of config row.account)
    (map decimal (row.places ∷ row.held ∷ row.reserved ∷ row.live ∷ row.stale ∷ row.over ∷ []))

-- the octets of the table: the titles, and the lines of the rows, in their order
abbrev pub table : Configuration → List Row → List ℕ
table config rows = header ++ flat_map (row_line config) rows

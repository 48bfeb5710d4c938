-- What is shown of accounts.
use Rattle.std.specs.Prelude.{◌≡◌, ℕ, ◌-◌, ◌*◌, ◌/◌, ◌==◌, nat_lt, List, [], ◌∷◌, length, take, slice_get, option_map, Option, if◌then◌else◌}
use Rattle.std.specs.List.{filter, filter_map}
use Rattle.std.specs.List.Sorted.{IsPermutation, IsSorted}
use Rattle.std.specs.Ordering.{nat_cmp, ordering_then}
use Rattle.std.specs.declared.cmp.Ordering.{Ordering}
use Rattle.rsl_accounts.specs.Configuration.{Configuration}
use Rattle.rsl_shard.specs.declared.row.Row.{Row}
use Rattle.rld_look.specs.Totals.{plus}
use Rattle.rld_look.specs.declared.accounts.TheConstants.{MOST_FULLEST}
use Rattle.rld_look.specs.declared.look.AccountLook.{AccountLook}

-- what is shown of the account of a row: its name, and the row; nothing for a row of no account
abbrev pub look_of : Configuration → Row → Option AccountLook
look_of config row =
    option_map (λ entry. record { name = entry.name; row = row }) (slice_get config.accounts row.account)

-- what is shown of the accounts of some rows, in the order of the rows
abbrev pub looks_of : Configuration → List Row → List AccountLook
looks_of config rows = filter_map (look_of config) rows

-- the free part of an account's places, in millionths; all if it has none
abbrev pub free : Row → ℕ
free row = if row.places == 0 then 1000000 else 1000000 - row.held * 1000000 / row.places

-- the account with less free comes first, and of two with as much the first in the file
abbrev pub by_fullness : Row → Row → Ordering
by_fullness one two = ordering_then (nat_cmp (free one) (free two)) (nat_cmp one.account two.account)

-- what is shown of the first accounts in that order, from the rows that are of accounts
abbrev pub AreFullest : Configuration → List Row → List AccountLook → Type 0
AreFullest config rows looks =
    (sorted : List Row) × IsPermutation (filter (λ row. nat_lt row.account (length config.accounts)) rows) sorted
    × IsSorted by_fullness sorted × (looks ≡ looks_of config (take MOST_FULLEST sorted))

-- the number of places that rows hold, added to `held`
abbrev pub held_after : (held : ℕ) → List Row → ℕ
held_after held [] = held
held_after held (row ∷ rows) = held_after (plus held row.held) rows

abbrev pub held_in : List Row → ℕ
held_in rows = held_after 0 rows

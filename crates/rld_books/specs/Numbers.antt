-- The numbers of clients after a change of the accounts, as a list by their present numbers.
use Rattle.std.specs.Prelude.{ℕ, List, map, slice_get, Option}
use Rattle.std.specs.Option.{option_and_then}
use Rattle.rsl_accounts.specs.Configuration.{Configuration, client_number}
use Rattle.rsl_accounts.specs.declared.client.Client.{Client}
use Rattle.rld_books.specs.Carried.{Next}

abbrev pub number_in : List (Option ℕ) → Next
number_in numbers client =
    option_and_then (λ (number : Option ℕ). number) (slice_get numbers client)

-- the list for two configurations: each number is that of the client's address
abbrev pub next_numbers : (old new : Configuration) → List (Option ℕ)
next_numbers old new = map (λ (client : Client). client_number new client.address) old.clients

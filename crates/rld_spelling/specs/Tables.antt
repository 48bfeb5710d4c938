-- The table of a configuration.
use Rattle.std.specs.Prelude.{◌≡◌, length, map, All}
use Rattle.rsl_accounts.specs.declared.client.Client.{Client}
use Rattle.rsl_accounts.specs.declared.entry.Entry.{Entry}
use Rattle.rsl_accounts.specs.Configuration.{Configuration}
use Rattle.rsl_accounts.specs.Limits.{IsConfiguration}
use Rattle.rld_spelling.specs.declared.table.TableAccount.{TableAccount}
use Rattle.rld_spelling.specs.declared.table.TableClient.{TableClient}
use Rattle.rld_spelling.specs.TableSpelled.{TableSeen, table_field}

abbrev pub account_row : Entry → TableAccount
account_row entry = record { name = entry.name; rules = entry.rules }

abbrev pub client_row : Client → TableClient
client_row client = record { address = client.address }

-- its names, rules and addresses, in order
abbrev pub table_of : Configuration → TableSeen
table_of config = record {
  accounts = map account_row config.accounts;
  clients = map client_row config.clients;
}

-- every configuration has a table that fits; an address has 4 octets, like that of the code
abbrev pub TablesFit : Type 0
TablesFit =
    (config : Configuration) → IsConfiguration config
    → All (λ client. length client.address ≡ 4) config.clients → table_field.Fits (table_of config)

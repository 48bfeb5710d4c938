-- A table as octets: what the numbers of accounts and clients stand for. Its names, rules and counts are within the limits of an account file, as `rsl_accounts` has them.
use Rattle.std.specs.Prelude.{ℕ, List, ◌++◌, length}
use Rattle.std.specs.List.{flat_map}
use Rattle.rld_spelling.specs.declared.fault.Cause.TheVariants.{BadName, OutOfRange}
use Rattle.rld_spelling.specs.Field.{Field, Reading, both, seen_as, short, fixed, checked}
use Rattle.rld_spelling.specs.Lists.{listed}
use Rattle.rld_spelling.specs.Numbers.{number_octets, between}
use Rattle.rsl_accounts.specs.Field.{is_name}
use Rattle.rsl_accounts.specs.declared.rules.Rules.{Rules}
use Rattle.rld_spelling.specs.RulesSpelled.{rules_field, rules_octets}
use Rattle.rld_spelling.specs.declared.table.Table.{Table}
use Rattle.rld_spelling.specs.declared.table.TableAccount.{TableAccount}
use Rattle.rld_spelling.specs.declared.table.TableClient.{TableClient}

-- ---- an account: its name and its rules

-- a name that an account can have
abbrev pub user_name_as : Field (List ℕ)
user_name_as = checked BadName is_name short

unfoldable pub user_name_at : List ℕ → Reading (List ℕ)
user_name_at octets = user_name_as.read octets

abbrev pub user_name_field : Field (List ℕ)
user_name_field = record { spell = short.spell; read = user_name_at; Fits = user_name_as.Fits }

abbrev pub account_of : List ℕ × Rules → TableAccount
account_of parts = record { name = parts.0; rules = parts.1 }

abbrev pub account_parts : TableAccount → List ℕ × Rules
account_parts account = (account.name, account.rules)

unfoldable pub account_octets : TableAccount → List ℕ
account_octets account = short.spell account.name ++ rules_octets account.rules

abbrev pub account_as : Field TableAccount
account_as = seen_as account_of account_parts (both user_name_field rules_field)

unfoldable pub account_at : List ℕ → Reading TableAccount
account_at octets = account_as.read octets

unfoldable pub AccountFits : TableAccount → Type 0
AccountFits account = account_as.Fits account

abbrev pub account_field : Field TableAccount
account_field = record { spell = account_octets; read = account_at; Fits = AccountFits }

-- ---- a client: its address

abbrev pub client_of : List ℕ → TableClient
client_of address = record { address = address }

abbrev pub client_parts : TableClient → List ℕ
client_parts client = client.address

unfoldable pub client_octets : TableClient → List ℕ
client_octets client = client.address

abbrev pub client_as : Field TableClient
client_as = seen_as client_of client_parts (fixed 4)

unfoldable pub client_at : List ℕ → Reading TableClient
client_at octets = client_as.read octets

unfoldable pub ClientFits : TableClient → Type 0
ClientFits client = client_as.Fits client

abbrev pub client_field : Field TableClient
client_field = record { spell = client_octets; read = client_at; Fits = ClientFits }

-- ---- the whole table

-- a table, without the addresses of its lists
pub record TableSeen : Type 0 where
  pub accounts : List TableAccount
  pub clients : List TableClient

abbrev pub table_seen : Table → TableSeen
table_seen table = record { accounts = table.accounts.items; clients = table.clients.items }

abbrev pub TableParts : Type 0
TableParts = List TableAccount × List TableClient

abbrev pub made_table : TableParts → TableSeen
made_table parts = record { accounts = parts.0; clients = parts.1 }

abbrev pub table_parts : TableSeen → TableParts
table_parts table = (table.accounts, table.clients)

-- each list after its number: 1 to 16,384 accounts, and 1 to 256 clients
unfoldable pub accounts_octets : List TableAccount → List ℕ
accounts_octets accounts = number_octets (length accounts) ++ flat_map account_octets accounts

unfoldable pub accounts_at : List ℕ → Reading (List TableAccount)
accounts_at octets = (listed (between OutOfRange 1 16384) account_field).read octets

abbrev pub accounts_field : Field (List TableAccount)
accounts_field = record {
  spell = accounts_octets;
  read = accounts_at;
  Fits = (listed (between OutOfRange 1 16384) account_field).Fits;
}

unfoldable pub clients_octets : List TableClient → List ℕ
clients_octets clients = number_octets (length clients) ++ flat_map client_octets clients

unfoldable pub clients_at : List ℕ → Reading (List TableClient)
clients_at octets = (listed (between OutOfRange 1 256) client_field).read octets

abbrev pub clients_field : Field (List TableClient)
clients_field = record {
  spell = clients_octets;
  read = clients_at;
  Fits = (listed (between OutOfRange 1 256) client_field).Fits;
}

unfoldable pub table_octets : TableSeen → List ℕ
table_octets table = accounts_octets table.accounts ++ clients_octets table.clients

abbrev pub table_as : Field TableSeen
table_as = seen_as made_table table_parts (both accounts_field clients_field)

unfoldable pub table_at : List ℕ → Reading TableSeen
table_at octets = table_as.read octets

unfoldable pub TableFits : TableSeen → Type 0
TableFits table = table_as.Fits table

abbrev pub table_field : Field TableSeen
table_field = record { spell = table_octets; read = table_at; Fits = TableFits }

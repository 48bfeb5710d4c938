-- The table of a configuration fits.
use Rattle.std.proofs.Common.{◌≡◌, ℕ, ◌≤◌, true, leb, List, [], ◌∷◌, length, All, refl, arith}
use Rattle.std.proofs.lemmas.Bool.{le-leb, and_from}
use Rattle.std.proofs.lemmas.List.{length-map}
use Rattle.std.proofs.lemmas.List.Elements.{All-head, All-tail, All-map, All-weaker}
use Rattle.rsl_accounts.specs.declared.client.Client.{Client}
use Rattle.rsl_accounts.specs.declared.entry.Entry.{Entry}
use Rattle.rsl_accounts.specs.declared.settings.Settings.{Settings}
use Rattle.rsl_accounts.specs.Field.{is_between, is_visible}
use Rattle.rsl_accounts.specs.Limits.{IsName, IsAccount}
use Rattle.rld_spelling.specs.TableSpelled.{user_name_field, AccountFits, ClientFits, TableFits}
use Rattle.rld_spelling.specs.Tables.{account_row, client_row, TablesFit}

visible : (text : List ℕ) → All (λ octet. (33 ≤ octet) × (octet ≤ 126)) text → is_visible text ≡ true
visible [] all = refl
visible (octet ∷ text) all =
    let one = All-head (λ octet. (33 ≤ octet) × (octet ≤ 126)) octet text all in
    let rest = visible text (All-tail (λ octet. (33 ≤ octet) × (octet ≤ 126)) octet text all) in
    and_from (is_between 33 126 octet) (is_visible text) (and_from (leb 33 octet) (leb octet 126) (le-leb 33 octet one.0) (le-leb octet 126 one.1)) rest

name_fits : (text : List ℕ) → IsName text → user_name_field.Fits text
name_fits text is = (
  omega (arith, is.length),
  and_from (is_between 1 64 (length text)) (is_visible text)
      (and_from (leb 1 (length text)) (leb (length text) 64) (le-leb 1 (length text) is.some) (le-leb (length text) 64 is.length)) (visible text is.visible),
)

row_fits : (settings : Settings) (entry : Entry) → IsAccount settings entry → AccountFits (account_row entry)
unfolding AccountFits
row_fits settings entry is = (name_fits entry.name is.name, is.rules)

client_fits : (client : Client) → length client.address ≡ 4 → ClientFits (client_row client)
unfolding ClientFits
client_fits client four = four

pub tables_fit : TablesFit
unfolding TableFits
tables_fit config is four =
    let accounts = All-map AccountFits account_row config.accounts (All-weaker (IsAccount config.settings) (λ entry. AccountFits (account_row entry)) (row_fits config.settings) config.accounts is.each_account) in
    let clients = All-map ClientFits client_row config.clients (All-weaker (λ client. length client.address ≡ 4) (λ client. ClientFits (client_row client)) client_fits config.clients four) in (
      ((omega (arith, is.an_account, length-map config.accounts account_row), omega (arith, is.accounts, length-map config.accounts account_row)), accounts),
      ((omega (arith, is.a_client, length-map config.clients client_row), omega (arith, is.clients, length-map config.clients client_row)), clients),
    )

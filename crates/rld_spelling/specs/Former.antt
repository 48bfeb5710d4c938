-- What versions before format 3 wrote: a header of format 1 or 2, and a table with the number of
-- shards to which the accounts were dealt. They are read, and never written.
use Rattle.std.specs.Prelude.{ℕ, List, Bool, ◌||◌, nat_eq, Ok, if◌then◌else◌}
use Rattle.rld_spelling.specs.declared.fault.Cause.TheVariants.{OtherFormat, OtherRule, OutOfRange}
use Rattle.rld_spelling.specs.TableSpelled.{TableSeen, accounts_field, clients_field, table_seen}
use Rattle.rld_spelling.specs.Field.{Field, Reading, both, fault_at, fixed, made_of, seen_as, then_read}
use Rattle.rld_spelling.specs.Numbers.{between, exactly, number, number_at}
use Rattle.rld_spelling.specs.declared.table.TableAccount.{TableAccount}
use Rattle.rld_spelling.specs.declared.table.TableClient.{TableClient}
use Rattle.rld_spelling.specs.declared.former.FormerTable.{FormerTable}
use Rattle.rld_spelling.specs.declared.former.FormerHeader.{FormerHeader}
use Rattle.rsl_rule.specs.declared.version.TheConstants.{SESSION_RULE_VERSION}

-- ---- the header

abbrev pub former_format : (place : List ℕ) → ℕ → List ℕ → Reading (Unit {0})
former_format place n rest =
    if nat_eq n 1 then Ok (tt, rest)
    else (if nat_eq n 2 then Ok (tt, rest) else fault_at OtherFormat place)

unfoldable pub former_format_at : List ℕ → Reading (Unit {0})
former_format_at octets = then_read (number_at octets) (former_format octets)

abbrev pub HeaderParts : Type 0
HeaderParts = Unit {0} × (ℕ × (ℕ × (List ℕ × ℕ)))

abbrev pub header_of : HeaderParts → FormerHeader
header_of parts = record {
  era = parts.1.0;
  generation = parts.1.1.0;
  digest = parts.1.1.1.0;
  lines = parts.1.1.1.1;
}

abbrev pub header_parts : FormerHeader → HeaderParts
header_parts header = (tt, (header.era, (header.generation, (header.digest, header.lines))))

-- what follows the version of the format
abbrev pub header_as : Field FormerHeader
header_as =
    seen_as header_of header_parts
    (both (exactly OtherRule SESSION_RULE_VERSION)
    (both number (both number (both (fixed 16) number))))

unfoldable pub former_header_at : List ℕ → Reading FormerHeader
former_header_at octets =
    then_read (former_format_at octets) (λ format rest. header_as.read rest)

-- ---- the table

-- a table, with the boot number and the number of shards
pub record FormerSeen : Type 0 where
  pub boot : ℕ
  pub shards : ℕ
  pub table : TableSeen

abbrev pub former_seen : FormerTable → FormerSeen
former_seen former =
    record { boot = former.boot; shards = former.shards; table = table_seen former.table }

abbrev pub FormerParts : Type 0
FormerParts = ℕ × (ℕ × (List TableAccount × List TableClient))

abbrev pub former_of : FormerParts → FormerSeen
former_of parts = record {
  boot = parts.0;
  shards = parts.1.0;
  table = record { accounts = parts.1.1.0; clients = parts.1.1.1 };
}

abbrev pub former_parts : FormerSeen → FormerParts
former_parts former =
    (former.boot, (former.shards, (former.table.accounts, former.table.clients)))

abbrev pub former_as : Field FormerSeen
former_as =
    seen_as former_of former_parts
    (both number (both (between OutOfRange 1 4) (both accounts_field clients_field)))

unfoldable pub former_table_at : List ℕ → Reading FormerSeen
former_table_at octets = former_as.read octets

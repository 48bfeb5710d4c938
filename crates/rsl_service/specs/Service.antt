-- What a contract sees of a service, and what its ledgers have to be.
use Rattle.std.specs.Prelude.{◌≡◌, ℕ, List}
use Rattle.rsl_accounts.specs.Configuration.{Configuration}
use Rattle.rsl_book.specs.RuledBook.{RuledBook}
use Rattle.rsl_shard.specs.Restep.{new_books}
use Rattle.rsl_shard.specs.Setup.{Setup, setup_of}

-- its configuration and its boot number
pub record ServiceSeen : Type 0 where
  pub config : Configuration
  pub boot : ℕ

-- A blank of this name and number of parts becomes the ledger of a shard: it has a part for each
-- pass and one that remains, and the ledger's type, of which the last four are the members, is of
-- that shard of the configuration.
pub record IsLedgerOf (config : Configuration) (shard blank_name blank_parts name parts : ℕ)
    (setup : Setup) (books : List RuledBook) : Type 0 where
  pub named : blank_name ≡ name
  pub whole : blank_parts ≡ parts
  pub parted : parts ≡ 1025
  pub is_setup : setup ≡ setup_of config shard
  pub are_books : books ≡ new_books config shard

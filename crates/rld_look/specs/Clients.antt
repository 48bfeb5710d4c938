-- What is shown of a client.
use Rattle.std.specs.Prelude.{◌≡◌, ℕ, ◌+◌, List, [], slice_get, option_map, unwrap_or, Option, Some}
use Rattle.rsl_accounts.specs.Configuration.{Configuration}
use Rattle.rld_counts.specs.Cell.{CellSeen}
use Rattle.rld_counts.specs.Counts.{count_in, counts_of}
use Rattle.rld_counts.specs.Tally.{kept}
use Rattle.rld_counts.specs.declared.fate.Fate.{Fate}
use Rattle.rld_look.specs.declared.look.ClientLook.{ClientLook}

-- the counts, if there are any, else those of no datagram
abbrev pub counts_or_none : Option (List ℕ) → List ℕ
counts_or_none counts = unwrap_or counts (counts_of [])

-- counts that are the sums of those of two ports
abbrev pub AreBoth : (auth acct : Option (List ℕ)) → (both : List ℕ) → Type 0
AreBoth auth acct both =
    (fate : Fate) → count_in both fate
    ≡ kept (count_in (counts_or_none auth) fate + count_in (counts_or_none acct) fate)

-- the client with this number: its address, and its counts at both ports
pub record IsClientLook (config : Configuration) (auth acct : CellSeen) (client : ℕ) (look : ClientLook) : Type 0 where
  pub address : option_map (λ found. found.address) (slice_get config.clients client) ≡ Some look.address
  pub counts : AreBoth (slice_get auth.clients client) (slice_get acct.clients client) look.counts

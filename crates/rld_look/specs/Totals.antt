-- What all accounts hold.
use Rattle.std.specs.Prelude.{ℕ, ◌+◌, ◌-◌, ◌^◌, min, nat_le, List, [], ◌∷◌, if◌then◌else◌}
use Rattle.rsl_shard.specs.declared.row.Row.{Row}
use Rattle.rld_look.specs.declared.look.AccountLook.{AccountLook}
use Rattle.rld_look.specs.declared.totals.Totals.{Totals}

-- a sum, at most 2^64 - 1
abbrev pub plus : ℕ → ℕ → ℕ
plus a b = min (a + b) (2 ^ 64 - 1)

abbrev pub no_totals : Totals
no_totals = record {
  accounts = 0;
  places = 0;
  held = 0;
  reserved = 0;
  live = 0;
  stale = 0;
  over = 0;
  full = 0;
}

-- the totals with another account
abbrev pub with_row : Totals → Row → Totals
with_row totals row = record {
  accounts = plus totals.accounts 1;
  places = plus totals.places row.places;
  held = plus totals.held row.held;
  reserved = plus totals.reserved row.reserved;
  live = plus totals.live row.live;
  stale = plus totals.stale row.stale;
  over = plus totals.over row.over;
  full = plus totals.full (if nat_le row.places row.held then 1 else 0);
}

-- the totals of accounts, added to others
abbrev pub totals_after : Totals → List AccountLook → Totals
totals_after totals [] = totals
totals_after totals (account ∷ accounts) = totals_after (with_row totals account.row) accounts

abbrev pub totals_of : List AccountLook → Totals
totals_of accounts = totals_after no_totals accounts

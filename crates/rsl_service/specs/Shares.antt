-- What a contract sees of a share of the ledger of each shard.
use Rattle.std.specs.Prelude.{ℕ}

-- how many parts of each ledger it has, and its amount in each
pub record SharesSeen : Type 0 where
  pub parts : ℕ
  pub amount0 : ℕ
  pub amount1 : ℕ
  pub amount2 : ℕ
  pub amount3 : ℕ

-- one part of each ledger, with no amount
abbrev pub part : SharesSeen
part = record { parts = 1; amount0 = 0; amount1 = 0; amount2 = 0; amount3 = 0 }

-- all of each ledger: 1,025 parts
abbrev pub whole : SharesSeen
whole = record { parts = 1025; amount0 = 0; amount1 = 0; amount2 = 0; amount3 = 0 }

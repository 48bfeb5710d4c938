-- How a log in memory is seen.
use Rattle.std.specs.Prelude.{◌≡◌, ℕ, true, List, []}
use Rattle.rld_log.specs.declared.memory.MemoryLog.{MemoryLog}

abbrev pub octets_of : MemoryLog → List ℕ
octets_of log = log.octets.items

-- a log with these octets, all synced, which tells
pub record IsNewLog (octets : List ℕ) (log : MemoryLog) : Type 0 where
  pub tells : log.telling ≡ true
  pub seen : octets_of log ≡ octets
  pub synced : log.synced.items ≡ octets
  pub still : log.steps.items ≡ []

-- An archive that has a size.
use Rattle.std.proofs.Common.{◌≡◌, ℕ, ◌≤◌, ◌<◌, List, [], ◌∷◌, rules}
use Rattle.rld_folder.specs.Older.{excess, octets_in}
use Rattle.rld_folder.specs.declared.older.ArchivedLog.{ArchivedLog}

-- none goes of what is within the limit
pub excess_within : (limit : ℕ) (logs : List ArchivedLog) → octets_in logs ≤ limit → excess limit logs ≡ []
excess_within limit [] within = search rules
excess_within limit (log ∷ logs) within = search rules

-- the first one goes of what is not
pub excess_over : (limit : ℕ) (log : ArchivedLog) (logs : List ArchivedLog) → limit < octets_in (log ∷ logs)
    → excess limit (log ∷ logs) ≡ log.generation ∷ excess limit logs
excess_over limit log logs over = search rules

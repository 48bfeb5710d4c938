-- What whoever asks over HTTP has to show.
use Rattle.std.specs.Prelude.{ℕ, List, ◌++◌, codes}

-- the value of the field Authorization (RFC 6750 section 2.1)
abbrev pub credentials : (token : List ℕ) → List ℕ
credentials token = codes "Bearer " ++ token

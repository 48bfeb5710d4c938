-- What the one who starts the program says of its proof.
use Rattle.std.specs.Prelude.{ℕ, ◌==◌, List, length, codes, bytes_eq, if◌then◌else◌, Option, None, Some}
use Rattle.rld_look.specs.declared.build.Proof.{Proof}
use Rattle.rld_look.specs.declared.build.Proof.TheVariants.{Commit, Uncommitted, Unproved}
use Rattle.rld_values.specs.Read.{octets_of_hex}

-- the name of a commit has 20 octets
abbrev pub commit_of : (octets : List ℕ) → Proof
commit_of octets = if length octets == 20 then Commit octets else Unproved

abbrev pub commit_if : Option (List ℕ) → Proof
commit_if (Some octets) = commit_of octets
commit_if None = Unproved

-- the name of a commit in hexadecimal digits, or `uncommitted`; any other text says nothing
abbrev pub proof_of : (text : List ℕ) → Proof
proof_of text = if bytes_eq text (codes "uncommitted") then Uncommitted else commit_if (octets_of_hex text)

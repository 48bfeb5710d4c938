-- What is written is read back unchanged.
use Rattle.std.specs.Prelude.{◌≡◌, ◌≢◌, ℕ, ◌<◌, List, All, Some}
use Rattle.rld_values.specs.Read.{octets_of_hex, octets_of_word, unescaped}
use Rattle.rld_values.specs.Values.{escaped, hex, word}

abbrev pub AreOctets : List ℕ → Type 0
AreOctets octets = All (λ octet. octet < 256) octets

abbrev pub ReadsBack : Type 0
ReadsBack = (octets : List ℕ) → AreOctets octets → octets_of_word (word octets) ≡ Some octets

abbrev pub ReadsBackBehindKeys : Type 0
ReadsBackBehindKeys = (octets : List ℕ) → AreOctets octets → unescaped (escaped octets) ≡ Some octets

abbrev pub ReadsHexBack : Type 0
ReadsHexBack = (octets : List ℕ) → AreOctets octets → octets_of_hex (hex octets) ≡ Some octets

-- Lines are texts.
use Rattle.std.proofs.Common.{ℕ, zero, suc, List, [], ◌∷◌, IsTrue, IsAscii, IsUtf8, rules}
use Rattle.std.proofs.lemmas.Str.{IsUtf8-from_ascii}
use Rattle.rsl_script.specs.Words.{is_printed}

-- visible characters and spaces are ASCII
printed_is_ascii : (line : List ℕ) → IsTrue (is_printed line) → IsAscii line
printed_is_ascii [] h i = search rules
printed_is_ascii (octet ∷ line) h zero = search rules
printed_is_ascii (octet ∷ line) h (suc i) = printed_is_ascii line (search rules) i

-- a line is a text
pub printed_is_utf8 : (line : List ℕ) → IsTrue (is_printed line) → IsUtf8 line
printed_is_utf8 line h = IsUtf8-from_ascii line (printed_is_ascii line h)

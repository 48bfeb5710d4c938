-- Octets that pass the test of UTF-8 are UTF-8.
use Rattle.std.proofs.Common.{◌≡◌, ℕ, true, List, ◌++◌, length, take, IsUtf8}
use Rattle.std.proofs.Math.Seq.{take-append_seam}
use Rattle.std.proofs.lemmas.Str.{IsUtf8-from_is_utf8, is_utf8-from_IsUtf8}
use Rattle.std.specs.Str.{is_utf8}

-- those of a text, with more behind them
pub front_is_utf8 : (text octets more : List ℕ) → octets ≡ text → IsUtf8 text → is_utf8 (take (length text) (octets ++ more)) ≡ true
front_is_utf8 text octets more is utf8 = rw (is, take-append_seam text more) (is_utf8-from_IsUtf8 text utf8)

pub ruleset text_steps = (IsUtf8-from_is_utf8)

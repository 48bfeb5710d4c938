-- Whether octets are UTF-8, as a test.
use Rattle.std.proofs.Common.{◌≡◌, ℕ, Bool, true, false, List, refl, sym}
use Rattle.std.proofs.lemmas.Str.{IsUtf8-from_is_utf8, is_utf8-from_IsUtf8}
use Rattle.std.specs.Str.{IsUtf8, is_utf8}

pub utf8_is_found : (bs : List ℕ) → IsUtf8 bs → true ≡ is_utf8 bs
utf8_is_found bs found = sym (is_utf8-from_IsUtf8 bs found)

pub utf8_is_missed : (bs : List ℕ) → (IsUtf8 bs → ⊥) → false ≡ is_utf8 bs
utf8_is_missed bs missed = by (is_utf8 bs) refl
  where
    by : (b : Bool) → is_utf8 bs ≡ b → false ≡ b
    by true is = absurd (missed (IsUtf8-from_is_utf8 bs is))
    by false is = refl

-- What the test of a CHAP-Password means.
use Rattle.std.proofs.Common.{◌≡◌, ℕ, List, length, drop, slice_index, Decides}
use Rattle.std.proofs.lemmas.Slice.Eq.{bytes_eq-Decides}
use Rattle.std.proofs.lemmas.Bool.Decides.{Decides-and, Decides-eqb}
use Rattle.rsl_auth.specs.Chap.{chap_response, matches_chap}

pub matches_chap-Decides : (value challenge password : List ℕ)
    → Decides (matches_chap value challenge password)
    ((length value ≡ 17) × (drop 1 value ≡ chap_response (slice_index value 0) password challenge))
unfolding matches_chap
matches_chap-Decides value challenge password =
    Decides-and _ _ (Decides-eqb (length value) 17)
    (bytes_eq-Decides (drop 1 value) (chap_response (slice_index value 0) password challenge))

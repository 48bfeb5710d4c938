-- What stands before an end, or behind a beginning, of some octets.
use Rattle.std.proofs.Common.{◌≡◌, ◌≢◌, ℕ, ◌-◌, List, ◌++◌, length, take, drop, true, false, ap, sym, ◌∙◌, arith}
use Rattle.std.proofs.Math.Seq.{drop-append_seam, take-append_seam}
use Rattle.std.proofs.lemmas.Bool.Decides.{not_from_Decides}
use Rattle.std.proofs.lemmas.List.{length-append, take-append-drop}
use Rattle.std.proofs.lemmas.Slice.Eq.{bytes_eq-Decides}
use Rattle.std.specs.Prelude.{bytes_eq}

pub end_found : (octets end front : List ℕ) (k : ℕ) → bytes_eq (drop k octets) end ≡ true → front ≡ take k octets → octets ≡ front ++ end
end_found octets end front k same is =
    sym (take-append-drop k octets)
    ∙ (ap (λ rest. take k octets ++ rest) ((bytes_eq-Decides (drop k octets) end).0 same) ∙ ap (λ (first : List ℕ). first ++ end) (sym is))

pub beginning_found : (octets beginning rest : List ℕ) (k : ℕ) → bytes_eq (take k octets) beginning ≡ true → rest ≡ drop k octets → octets ≡ beginning ++ rest
beginning_found octets beginning rest k same is =
    sym (take-append-drop k octets)
    ∙ (ap (λ (first : List ℕ). first ++ drop k octets) ((bytes_eq-Decides (take k octets) beginning).0 same) ∙ ap (λ more. beginning ++ more) (sym is))

-- octets with an end have it at their end
end_there : (end front : List ℕ) → drop (length (front ++ end) - length end) (front ++ end) ≡ end
end_there end front =
    let at : length (front ++ end) - length end ≡ length front = omega (arith, length-append front end) in
    rw at (drop-append_seam front end)

pub no_end : (octets end front : List ℕ) → bytes_eq (drop (length octets - length end) octets) end ≡ false → octets ≢ front ++ end
no_end octets end front lacks is =
    not_from_Decides (bytes_eq (drop (length octets - length end) octets) end) (bytes_eq-Decides (drop (length octets - length end) octets) end) lacks
    (ap (λ (all : List ℕ). drop (length all - length end) all) is ∙ end_there end front)

pub no_beginning : (octets beginning rest : List ℕ) → bytes_eq (take (length beginning) octets) beginning ≡ false → octets ≢ beginning ++ rest
no_beginning octets beginning rest lacks is =
    not_from_Decides (bytes_eq (take (length beginning) octets) beginning) (bytes_eq-Decides (take (length beginning) octets) beginning) lacks
    (ap (λ (all : List ℕ). take (length beginning) all) is ∙ take-append_seam beginning rest)

-- The fingerprint of an access server: what it makes of the octets that are left, and of tables.
use Rattle.std.proofs.Common.{◌≡◌, ◌≢◌, ℕ, ◌+◌, ◌*◌, ◌%◌, ◌^◌, ◌<◌, ◌≤◌, List, drop, get_or, length, set, ap, sym, ◌∙◌}
use Rattle.std.proofs.lemmas.List.{drop_all, drop_more, get_or-map, map-set}
use Rattle.rsl_event.specs.declared.nas.Nas.{Nas}
use Rattle.rsl_links.specs.Fingerprints.{fingerprint_of, fingerprint_with, fingerprints_of}
use Rattle.rsl_links.specs.Seen.{server_at, unnamed}

pub fingerprint_step : (start fingerprint i : ℕ) (octets : List ℕ) → i < length octets → fingerprint_with fingerprint (drop i octets) ≡ fingerprint_with start octets
    → fingerprint_with (((fingerprint * 31) % 2 ^ 32 + get_or octets i 0) % 2 ^ 32) (drop (i + 1) octets) ≡ fingerprint_with start octets
unfolding fingerprint_with
fingerprint_step start fingerprint i octets within so_far = sym (ap (fingerprint_with fingerprint) (drop_more octets i 0 within)) ∙ so_far

pub fingerprint_end : (start fingerprint i : ℕ) (octets : List ℕ) → length octets ≤ i → fingerprint_with fingerprint (drop i octets) ≡ fingerprint_with start octets → fingerprint ≡ fingerprint_with start octets
unfolding fingerprint_with
fingerprint_end start fingerprint i octets all so_far = sym (ap (fingerprint_with fingerprint) (drop_all i octets all)) ∙ so_far

pub ruleset fingerprint_steps = (fingerprint_step, fingerprint_end)

-- what has another fingerprint is another access server
pub told_apart : (servers : List Nas) (fingerprints : List ℕ) (nas : Nas) (at fingerprint own : ℕ) → fingerprints ≡ fingerprints_of servers → at < length servers → fingerprint ≡ get_or fingerprints at fingerprint
    → own ≡ fingerprint_of nas → fingerprint ≢ own → server_at servers at ≢ nas
told_apart servers fingerprints nas at fingerprint own are within is own_is other same =
    other (is ∙ ap (λ xs. get_or xs at fingerprint) are ∙ get_or-map fingerprint_of servers at unnamed fingerprint within ∙ ap fingerprint_of same ∙ sym own_is)

pub fingerprints_put : (servers : List Nas) (fingerprints : List ℕ) (nas : Nas) (at fingerprint : ℕ) → fingerprints ≡ fingerprints_of servers → fingerprint ≡ fingerprint_of nas → set fingerprints at fingerprint ≡ fingerprints_of (set servers at nas)
fingerprints_put servers fingerprints nas at fingerprint are is =
    ap (λ xs. set xs at fingerprint) are ∙ ap (λ m. set (fingerprints_of servers) at m) is ∙ sym (map-set fingerprint_of servers at nas)

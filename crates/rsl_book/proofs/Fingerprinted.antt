-- The fingerprint of octets: what it makes of those that are left.
use Rattle.std.proofs.Common.{◌≡◌, ℕ, ◌+◌, ◌*◌, ◌%◌, ◌^◌, ◌<◌, ◌≤◌, List, drop, get_or, length, ap, sym, ◌∙◌}
use Rattle.std.proofs.lemmas.List.{drop_all, drop_more}
use Rattle.rsl_book.specs.Fingerprint.{octets_after}

pub print_step : (start print i : ℕ) (octets : List ℕ) → i < length octets → octets_after print (drop i octets) ≡ octets_after start octets
    → octets_after (((print * 31) % 2 ^ 64 + get_or octets i 0) % 2 ^ 64) (drop (i + 1) octets) ≡ octets_after start octets
unfolding octets_after
print_step start print i octets within so_far = sym (ap (octets_after print) (drop_more octets i 0 within)) ∙ so_far

pub print_end : (start print i : ℕ) (octets : List ℕ) → length octets ≤ i → octets_after print (drop i octets) ≡ octets_after start octets → print ≡ octets_after start octets
unfolding octets_after
print_end start print i octets all so_far = sym (ap (octets_after print) (drop_all i octets all)) ∙ so_far

pub ruleset print_steps = (print_step, print_end)

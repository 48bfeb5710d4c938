-- A start goes on from what was found in a log.
use Rattle.std.proofs.Common.{◌≡◌, ℕ, Result, Ok, Err, IfOk, ap, sym, ◌∙◌}
use Rattle.rld_spelling.specs.declared.header.Header.{Header}
use Rattle.rld_start.specs.NextHeaders.{first_header, header_after, header_changed}

-- two facts of what a call gives
pub both_ok : {T E : Type 0} (result : Result T E) (One Other : T → Type 0) → IfOk result One → IfOk result Other
    → IfOk result (λ (value : T). One value × Other value)
both_ok (Ok value) One Other one other = (one, other)
both_ok (Err fault) One Other one other = tt

-- a header that follows another one, by its own number
pub after_by_number : (header next : Header) (number count : ℕ) → next ≡ header_after header number count
    → next ≡ header_after header next.generation count
after_by_number header next number count is =
    is ∙ ap (λ (h : Header). header_after header h.generation count) (sym is)

pub changed_by_number : (header next : Header) (number count : ℕ) → next ≡ header_changed header number count
    → next ≡ header_changed header next.generation count
changed_by_number header next number count is =
    is ∙ ap (λ (h : Header). header_changed header h.generation count) (sym is)

pub first_by_number : (next : Header) (number boot : ℕ) → next ≡ first_header number boot
    → next ≡ first_header next.generation boot
first_by_number next number boot is =
    is ∙ ap (λ (h : Header). first_header h.generation boot) (sym is)

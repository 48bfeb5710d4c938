-- The front of a member, written piece by piece.
use Rattle.std.proofs.Common.{◌≡◌, ℕ, List, ◌++◌, ap, ◌∙◌}
use Rattle.rld_values.proofs.Callers.{written_3}
use Rattle.rld_ask.specs.Reply.{member_name}

pub front_written : (old t1 t2 new name given text operator tail : List ℕ)
    → given ≡ name → text ≡ operator
    → t1 ≡ old ++ member_name given → t2 ≡ t1 ++ text → new ≡ t2 ++ tail
    → new ≡ old ++ (member_name name ++ (operator ++ tail))
front_written old t1 t2 new name given text operator tail same taken first second third =
    written_3 old t1 t2 new (member_name name) operator tail
    (first ∙ ap (λ (one : List ℕ). old ++ member_name one) same)
    (second ∙ ap (λ (one : List ℕ). t1 ++ one) taken)
    third

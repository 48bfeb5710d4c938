-- The room that calls are given which take datagrams.
use Rattle.std.proofs.Common.{◌≡◌, ℕ, ◌≤◌, min, sym, ap, subst, ◌∙◌}
use Rattle.std.proofs.Math.Nat.{le-min, min-le_right}

-- one call more in a batch
pub room_more : (old mid new here len : ℕ) → here ≡ len → min old len ≤ mid → new ≡ min mid here
    → min old len ≤ new
room_more old mid new here len same kept is =
    subst (λ n. min old len ≤ n) (sym (is ∙ ap (min mid) same)) (le-min kept (min-le_right old len))

use Rattle.std.proofs.Common.{rules, ℕ, Bool, List, subst}
use Rattle.rld_start.specs.Firsts.{IsBegun, IsBegunOrNot, IsUnspoilt}
use Rattle.rld_start.proofs.look.look_in.Goals as goal

pub returns-in-false-clause-seen : goal.returns-in-false-clause-seen
returns-in-false-clause-seen g c = λ told.
    let octets : List ℕ = c.in_ok-frames.frames.octets.items in
    subst (λ (o : List ℕ). (IsBegun o → ⊥) × IsUnspoilt o) (c.in_ok-frames.ensures.octets told) (
      subst (λ (b : Bool). IsBegunOrNot b octets) c.in-false.is (c.in_ok-begun.ensures.begun octets (search rules)),
      c.in_ok-check_torn.ensures.unspoilt,
    )

-- How the receipts of every shard are gathered.
use Rattle.std.proofs.Common.{◌≡◌, ℕ, suc, ◌+◌, List, refl, subst, sym, arith}
use Rattle.rsl_event.specs.declared.meaning.Meaning.{Meaning}
use Rattle.rsl_event.specs.declared.meaning.Meaning.TheVariants.{Bare, Own, Reject, Restart, Stray}
use Rattle.rsl_shard.specs.declared.moved.Move.{Move}
use Rattle.rsl_shard.specs.declared.moved.Move.TheVariants as moves
use Rattle.rsl_service.specs.Applied.{IsStopped}
use Rattle.rsl_service.specs.Receipts.{AreNoted, HasOneMore}
use Rattle.rsl_service.specs.Service.{ServiceSeen}
use Rattle.rsl_service.specs.declared.fault.ApplyFault.TheVariants as faults
use Rattle.rsl_record.specs.declared.receipt.Receipt.{Receipt}

-- before the first shard there is none
pub none_noted : (moved : Move) (old : List Receipt) → AreNoted 0 moved old old
unfolding AreNoted
none_noted moved old = refl

-- a fault that came before any move has left the receipts as they were
pub none_stopped : (service : ServiceSeen) (moment : ℕ) (meaning : Meaning) (old : List Receipt)
    → IsStopped service moment meaning (faults.NoMemory 0) old old
none_stopped service moment (Restart nas delay) old = none_noted (moves.Sweep moment nas delay) old
none_stopped service moment (Own account act) old = (refl, refl)
none_stopped service moment (Stray note) old = (refl, refl)
none_stopped service moment Bare old = (refl, refl)
none_stopped service moment Reject old = (refl, refl)

-- after a shard there is one more
pub one_noted : (shard next : ℕ) (moved : Move) (old before new : List Receipt) → next ≡ shard + 1
    → AreNoted shard moved old before → HasOneMore shard moved before new
    → AreNoted next moved old new
unfolding AreNoted
one_noted shard next moved old before new is so_far more =
    let same : suc shard ≡ next = omega (arith, is) in
    subst (λ n. AreNoted n moved old new) same (before, so_far, more)

-- where a shard failed, those before it have their receipts
pub some_noted : (shard swept : ℕ) (moved : Move) (old before new : List Receipt) → swept ≡ shard
    → new ≡ before → AreNoted shard moved old before → AreNoted swept moved old new
some_noted shard swept moved old before new is same so_far =
    subst (λ n. AreNoted n moved old new) (sym is) (subst (λ xs. AreNoted shard moved old xs) (sym same) so_far)

pub ruleset noting = (none_noted, one_noted, some_noted)

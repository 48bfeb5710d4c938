-- Why nothing is told as freed.
use Rattle.std.proofs.Common.{◌≡◌, ℕ, subst}
use Rattle.std.specs.Prelude.{IfErr, Result, Ok, Err, Vec}
use Rattle.std.specs.declared.alloc.Global.{Global}
use Rattle.rld_control.specs.declared.fault.FreeFault.{FreeFault}
use Rattle.rld_state.specs.declared.freeing.Freed.{Freed}
use Rattle.rld_state.specs.declared.freeing.Freed.TheVariants as outcomes
use Rattle.rld_serve.specs.Refusing.{IsWhyNotFreed}
use Rattle.rld_serve.specs.declared.ask_fault.AskFault.{AskFault}
use Rattle.rld_serve.specs.declared.ask_fault.AskFault.TheVariants as faults

-- why it is not told is why nothing is freed, where this came of it
of_freed : (Is : Freed → Type 0) (unnamed : FreeFault → Type 0) (freed : Freed) (fault : AskFault) →
    Is freed → IsWhyNotFreed (freed ≡ outcomes.Unrecorded) (λ _. ⊥) fault → IsWhyNotFreed (Is outcomes.Unrecorded) unnamed fault
of_freed Is unnamed freed faults.Unrecorded was why = subst Is why was
of_freed Is unnamed freed faults.NoMemory was why = tt
of_freed Is unnamed freed faults.UnknownCommand was why = why
of_freed Is unnamed freed faults.UnknownAccount was why = why
of_freed Is unnamed freed faults.Changed was why = why
of_freed Is unnamed freed (faults.Free fault) was why = elim why [ ]
of_freed Is unnamed freed (faults.Disconnect fault) was why = why
of_freed Is unnamed freed faults.NoAsks was why = why
of_freed Is unnamed freed (faults.NotAccepted outcome) was why = why

pub why_not : (Is : Freed → Type 0) (unnamed : FreeFault → Type 0) (freed : Freed) (told : Result (Vec ℕ Global) AskFault) →
    Is freed → IfErr told (IsWhyNotFreed (freed ≡ outcomes.Unrecorded) (λ _. ⊥)) →
    IfErr told (IsWhyNotFreed (Is outcomes.Unrecorded) unnamed)
why_not Is unnamed freed (Ok octets) was why = tt
why_not Is unnamed freed (Err fault) was why = of_freed Is unnamed freed fault was why

-- What a log with a pace counts as.
use Rattle.std.specs.Prelude.{◌≡◌, ◌⊎◌, ℕ, List, Option, Some}
use Rattle.rld_log.specs.declared.log.Ending.{Ending}
use Rattle.rld_log.specs.declared.log.Ending.TheVariants.{Kill}
use Rattle.rld_log.specs.Log.{Extends, Shortens}
use Rattle.rld_log.specs.declared.pace.Pace.{Pace}
use Rattle.rld_log.specs.declared.pace.Pace.TheVariants.{Always, Second, Never}
use Rattle.rld_log.specs.declared.paced_log.End.{End}
use Rattle.rld_log.specs.declared.paced_log.End.TheVariants.{Settled}

-- The ending that a crash counts as. If a sync need not reach the disk, each is a kill: over such a
-- log every statement on a crash is on a kill, and none is on a loss of power.
abbrev pub reckoned : Pace → Ending → Ending
reckoned Always ending = ending
reckoned Second ending = Kill
reckoned Never ending = Kill

-- What may be left of a write, except all of it: what a loss of power may leave of it underneath,
-- or what a kill may.
abbrev pub TearsOrShortens : (tears : List ℕ → List ℕ → Type 0) → List ℕ → List ℕ → Type 0
TearsOrShortens tears octets tail = tears octets tail ⊎ Shortens octets tail

-- a kill leaves this and nothing else
abbrev pub KillLeaves : List ℕ → (Ending → List ℕ → Type 0) → Type 0
KillLeaves octets may_leave = (left : List ℕ) → may_leave Kill left → left ≡ octets

-- A sync has to reach the disk if a kill may leave anything but what a read returns, and as the
-- pace says: if a tick has begun since the last one.
abbrev pub NeedsDisk : Pace → End → (synced : Option ℕ) → (begun : ℕ) → Type 0
NeedsDisk Always end synced begun = Unit {0}
NeedsDisk Second end synced begun = (end ≡ Settled → ⊥) ⊎ (synced ≡ Some begun → ⊥)
NeedsDisk Never end synced begun = end ≡ Settled → ⊥

-- On the disk: what a read returns begins with this, and so does what any crash leaves.
pub record IsOnDisk (front seen : List ℕ) (may_leave : Ending → List ℕ → Type 0) : Type 0 where
  pub read : Extends front seen
  pub left : (ending : Ending) (left : List ℕ) → may_leave ending left → Extends front left

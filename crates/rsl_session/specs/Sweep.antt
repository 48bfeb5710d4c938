-- A sweep says that an access server has restarted: what came from it earlier is void. One that was told
-- late says by how many seconds, and what is younger stays.
use Rattle.std.specs.Prelude.{ℕ, ◌-◌, List, Bool, false, ◌&&◌, nat_le}
use Rattle.std.specs.List.{list_any}
use Rattle.rsl_event.specs.declared.event.Act.{Act}
use Rattle.rsl_event.specs.declared.event.Act.TheVariants.{Sweep}
use Rattle.rsl_event.specs.declared.nas.Nas.{Nas}
use Rattle.rsl_session.specs.Same.{same_nas}

-- whether what was at a moment is, now, at least this many seconds old
abbrev pub precedes : (at delay now : ℕ) → Bool
precedes at delay now = nat_le delay (now - at)

-- whether an act, now, is a sweep that voids what came from an access server at a moment
abbrev pub voids : Nas → (at now : ℕ) → Act → Bool
voids nas at now (Sweep other delay) = same_nas other nas && precedes at delay now
voids nas at now _ = false

-- whether there is such a sweep among acts, each with the clock that it showed
unfoldable pub swept_in : List (ℕ × Act) → Nas → (at : ℕ) → Bool
swept_in acts nas at = list_any (λ act. voids nas at act.0 act.1) acts

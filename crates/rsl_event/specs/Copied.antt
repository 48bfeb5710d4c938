-- What is copied out of a datagram into memory of its own.
use Rattle.std.specs.Prelude.{ℕ, List, Option, Some, None, Result, Ok, Err}
use Rattle.rsl_event.specs.declared.event.Act.{Act}
use Rattle.rsl_event.specs.declared.event.Act.TheVariants.{Ask, Sweep, Tick}
use Rattle.rsl_event.specs.declared.meaning.Dropped.{Dropped}
use Rattle.rsl_event.specs.declared.meaning.Meaning.{Meaning}
use Rattle.rsl_event.specs.declared.meaning.Meaning.TheVariants.{Bare, Reject, Own, Restart, Stray}
use Rattle.rsl_event.specs.declared.nas.NasName.{NasName}
use Rattle.rsl_event.specs.declared.nas.NasName.TheVariants.{Unnamed}

-- an access server has a name
abbrev pub IsNamed : NasName → Type 0
IsNamed Unnamed = ⊥
IsNamed _ = Unit {0}

-- an access server has a name, or there is a station
abbrev pub IsNamedWith : Option (List ℕ) → NasName → Type 0
IsNamedWith None name = IsNamed name
IsNamedWith (Some station) name = Unit {0}

-- an act has octets of its own: those of its access server's name, of its station, or of its session
abbrev pub ActHoldsOctets : Act → Type 0
ActHoldsOctets (Ask key nas station) = IsNamedWith station nas.name
ActHoldsOctets (Sweep nas delay) = IsNamed nas.name
ActHoldsOctets Tick = ⊥
ActHoldsOctets _ = Unit {0}

-- a meaning has octets of its own
abbrev pub HoldsOctets : Meaning → Type 0
HoldsOctets Bare = ⊥
HoldsOctets Reject = ⊥
HoldsOctets (Own account act) = ActHoldsOctets act
HoldsOctets (Restart nas delay) = IsNamed nas.name
HoldsOctets (Stray note) = Unit {0}

-- there is a meaning, and it has octets of its own
abbrev pub TakesMemory : Result Meaning Dropped → Type 0
TakesMemory (Ok meaning) = HoldsOctets meaning
TakesMemory (Err dropped) = ⊥

-- The events whose decision allocates: those whose outcome is looked up.
use Rattle.std.specs.Prelude.{List, ◌<◌, length}
use Rattle.rsl_event.specs.declared.event.Act.{Act}
use Rattle.rsl_event.specs.declared.event.Act.TheVariants.{Ask, Alive}
use Rattle.rsl_session.specs.declared.past_event.PastEvent.{PastEvent}

-- an alive, and an ask of an account that has had an event before
abbrev pub LooksBack : (history : List PastEvent) → Act → Type 0
LooksBack history (Ask key nas station) = 0 < length history
LooksBack history (Alive nas session bundle class station) = Unit {0}
LooksBack history _ = ⊥

-- What came since some moment of the clock: the act of each later entry, with the clock that it
-- showed.
use Rattle.std.specs.Prelude.{ℕ, List, [], ◌∷◌, max}
use Rattle.rsl_event.specs.declared.event.Act.{Act}
use Rattle.rsl_session.specs.declared.past_event.PastEvent.{PastEvent}

-- the acts of some entries, oldest first, where the clock showed this before them
unfoldable pub acts_since : (now : ℕ) → List PastEvent → List (ℕ × Act)
acts_since now [] = []
acts_since now (entry ∷ entries) =
    (max now entry.event.moment, entry.event.act)
    ∷ acts_since (max now entry.event.moment) entries

-- The past of an account: its events, each with what it did, newest first.
--
-- The number of an event is its position among the account's events, from 1 on: the entry at the
-- head of `entry ∷ past` has the number `suc (length past)`. A link is named by the number of the
-- event that opened it.
use Rattle.std.specs.Prelude.{ℕ, suc, List, [], ◌∷◌, reverse, length, ◌==◌, if◌then◌else◌, Option, Some, None}
use Rattle.rsl_session.specs.declared.past_event.PastEvent.{PastEvent}

abbrev pub Past : Type 0
Past = List PastEvent

-- the past of entries in the order in which they came
unfoldable pub looking_back : List PastEvent → Past
looking_back entries = reverse entries

-- the entry with this number
unfoldable pub entry_at : ℕ → Past → Option PastEvent
entry_at number [] = None
entry_at number (entry ∷ past) =
    if number == suc (length past) then Some entry else entry_at number past

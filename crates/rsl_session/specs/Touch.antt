-- A link was last touched at the clock of the last event that opened, took or renewed it.
use Rattle.std.specs.Prelude.{ℕ, suc, [], ◌∷◌, length, if◌then◌else◌}
use Rattle.rsl_session.specs.Past.{Past}
use Rattle.rsl_session.specs.Clock.{clock}
use Rattle.rsl_session.specs.Binding.{touches}

unfoldable pub touched_at : ℕ → Past → ℕ
touched_at link [] = 0
touched_at link (entry ∷ past) =
    if touches link (suc (length past)) entry.outcome
    then clock (entry ∷ past)
    else touched_at link past

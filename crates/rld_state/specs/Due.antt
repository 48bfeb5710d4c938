-- When the next generation of a running server begins.
use Rattle.std.specs.Prelude.{◌≡◌, ◌⊎◌, ℕ, ◌-◌, ◌≤◌}
use Rattle.rld_look.specs.Totals.{plus}
use Rattle.rld_state.specs.declared.timer.RollTimer.{RollTimer}

-- a generation that has had `moves` moves and has lasted `seconds` seconds is full
abbrev pub IsFull : (moves seconds : ℕ) → Type 0
IsFull moves seconds = (1000000 ≤ moves) ⊎ (600 ≤ seconds)

-- the generation is full, and no begin of the next one has failed recently
abbrev pub IsDue : RollTimer → (moves : ℕ) → Type 0
IsDue timer moves = (timer.pause ≡ 0) × IsFull moves timer.seconds

-- the timer a second later
abbrev pub second_later : RollTimer → RollTimer
second_later timer = record { seconds = plus timer.seconds 1; pause = timer.pause - 1 }

-- the timer of a generation that has just begun
abbrev pub just_begun : RollTimer
just_begun = record { seconds = 0; pause = 0 }

-- the timer after a failed begin of the next generation
abbrev pub put_off : RollTimer → RollTimer
put_off timer = record { seconds = timer.seconds; pause = 60 }

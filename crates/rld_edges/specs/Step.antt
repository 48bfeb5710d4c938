-- When a request to an access server is sent, again, and given up.
use Rattle.std.specs.Prelude.{ℕ, ◌==◌, nat_lt, if◌then◌else◌}
use Rattle.rld_edges.specs.declared.step.Step.{Step}
use Rattle.rld_edges.specs.declared.step.Step.TheVariants.{Send, Wait, GiveUp}

-- `sent` times so far, the last time `passed` seconds ago: three times at most, a second apart
abbrev pub step_of : (sent passed : ℕ) → Step
step_of sent passed =
    if sent == 0 then Send
    else if nat_lt passed 1 then Wait
    else if nat_lt sent 3 then Send
    else GiveUp

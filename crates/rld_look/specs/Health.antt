-- Whether a server is well.
use Rattle.std.specs.Prelude.{ℕ, ◌==◌, List, codes, if◌then◌else◌}
use Rattle.rld_look.specs.declared.health.Health.{Health}
use Rattle.rld_look.specs.declared.health.Health.TheVariants.{Well, NotRecording, ClockBehind}
use Rattle.rld_look.specs.declared.look.Recording.{Recording}
use Rattle.rld_look.specs.declared.look.Recording.TheVariants.{Recorded, Failing}

-- it is as long as its batches are recorded and its clock is not behind its books
abbrev pub health_of : Recording → (clock_behind : ℕ) → Health
health_of Failing clock_behind = NotRecording
health_of Recorded clock_behind = if clock_behind == 0 then Well else ClockBehind

-- the line that says it
abbrev pub health_text : Health → List ℕ
health_text Well = codes "ok\n"
health_text NotRecording = codes "not recording\n"
health_text ClockBehind = codes "clock behind\n"

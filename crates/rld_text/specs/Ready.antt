-- Whether a server answers packets and records.
use Rattle.std.specs.Prelude.{ℕ, List, ◌++◌, codes}
use Rattle.rld_look.specs.Health.{health_text}
use Rattle.rld_look.specs.declared.health.Health.{Health}
use Rattle.rld_look.specs.declared.health.Health.TheVariants.{Well, NotRecording, ClockBehind}

-- It answers what it records and nothing else. Where its clock is behind it does both, though no
-- deadline passes.
abbrev pub ready_octets : Health → List ℕ
ready_octets Well = health_text Well ++ codes "ok\n"
ready_octets ClockBehind = health_text ClockBehind ++ codes "ok\n"
ready_octets NotRecording = codes "error not recording\n"

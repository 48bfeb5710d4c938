use Rattle.rld_log.proofs.Readings as readings
use Rattle.rld_log.proofs.laws.kills_are_detected.Goals as goal

pub returns : goal.returns
returns c = readings.kills_are_detected

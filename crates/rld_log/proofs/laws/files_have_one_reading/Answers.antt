use Rattle.rld_log.proofs.Readings as readings
use Rattle.rld_log.proofs.laws.files_have_one_reading.Goals as goal

pub returns : goal.returns
returns c = readings.have_one_reading

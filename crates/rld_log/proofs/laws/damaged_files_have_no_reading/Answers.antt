use Rattle.rld_log.proofs.Readings as readings
use Rattle.rld_log.proofs.laws.damaged_files_have_no_reading.Goals as goal

pub returns : goal.returns
returns c = readings.have_no_reading

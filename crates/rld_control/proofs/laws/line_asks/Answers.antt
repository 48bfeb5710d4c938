use Rattle.rld_control.proofs.ReadBack.{line_read}
use Rattle.rld_control.proofs.laws.line_asks.Goals as goal

pub returns : goal.returns
returns c = line_read c.read_back.ensures.word c.read_back.ensures.value c.read_back.ensures.digits

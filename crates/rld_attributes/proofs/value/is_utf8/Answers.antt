use Rattle.rld_attributes.proofs.Utf8.{utf8_is_found, utf8_is_missed}
use Rattle.rld_attributes.proofs.value.is_utf8.Goals as goal

pub returns-in-Ok : goal.returns-in-Ok
returns-in-Ok c = utf8_is_found c.args.value.now c.in-Ok.ensures.cases.1

pub returns-in-Err : goal.returns-in-Err
returns-in-Err c = utf8_is_missed c.args.value.now c.in-Err.ensures.cases.0

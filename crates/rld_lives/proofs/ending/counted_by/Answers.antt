use Rattle.std.proofs.Common.{map, subst}
use Rattle.rld_store.specs.Opening.{IsWhyNoParts}
use Rattle.rld_lives.proofs.Leaving.{begun_by_two}
use Rattle.rld_lives.proofs.ending.counted_by.Goals as goal

pub returns-in-Ok : goal.returns-in-Ok
returns-in-Ok c = λ newest has none. begun_by_two newest _ _ _ _ has c.in-Ok.ensures.are.are none

pub returns-in-Err-Unbegun : goal.returns-in-Err-Unbegun
returns-in-Err-Unbegun c = λ newest has. record {
  payloads = _;
  has = has;
  few = subst (IsWhyNoParts (map (λ payload. payload.now) c.args.payloads.now)) c.in-Err-Unbegun.field-0-is c.in-Err-Unbegun.ensures.why;
}

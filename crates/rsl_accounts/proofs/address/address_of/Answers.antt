use Rattle.std.proofs.Common.{sym}
use Rattle.rsl_accounts.proofs.Addresses.{address_of-dotted, address_of-other}
use Rattle.rsl_accounts.proofs.address.address_of.Goals as goal

pub returns-in-Ok-clause-value : goal.returns-in-Ok-clause-value
returns-in-Ok-clause-value c = rw c.octets.ensures (sym (address_of-dotted c.args.text.now c.in-Ok.address.octets c.in-Ok.ensures))

pub returns-in-Err-clause-value : goal.returns-in-Err-clause-value
returns-in-Err-clause-value c = sym (address_of-other c.args.text.now (λ octets. c.in-Err.ensures (record { octets = octets })))

pub returns-in-Err-clause-none : goal.returns-in-Err-clause-none
returns-in-Err-clause-none c = λ octets. c.in-Err.ensures (record { octets = octets })

use Rattle.rld_networks.proofs.Addresses.{ip_address_of-written, ip_address_of-other}
use Rattle.rld_networks.proofs.address.ip_address_of.Goals as goal

pub returns-in-Ok : goal.returns-in-Ok
returns-in-Ok c = ip_address_of-written c.args.text.now c.in-Ok.address c.in-Ok.ensures

pub returns-in-Err : goal.returns-in-Err
returns-in-Err c = ip_address_of-other c.args.text.now c.in-Err.ensures

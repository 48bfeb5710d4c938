use Rattle.rld_networks.proofs.Addresses.{mapped-v4, mapped-v6}
use Rattle.rld_networks.proofs.address.mapped.Goals as goal

pub returns-in-V4 : goal.returns-in-V4
returns-in-V4 c = rw c.in-V4.is (mapped-v4 c.in-V4.field-0)

pub returns-in-V6 : goal.returns-in-V6
returns-in-V6 c = rw c.in-V6.is (mapped-v6 c.in-V6.address c.to_ipv4_mapped.result c.to_ipv4_mapped.ensures.found c.to_ipv4_mapped.ensures.value)

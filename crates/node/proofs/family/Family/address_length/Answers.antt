-- `Family::address_length` meets its contract: each arm is a row of the definition. Assumes nothing.
use mathlib.Core.Path.{sym}
use Rattle.node.proofs.FamilyLaws.{ipv4_length, ipv6_length}
use Rattle.node.proofs.family.Family.address_length.Goals as goal

pub returns-in-UdpIpv4-clause-value : goal.returns-in-UdpIpv4-clause-value
returns-in-UdpIpv4-clause-value c = sym (ipv4_length c.args.self c.in-UdpIpv4.is)

pub returns-in-UdpIpv6-clause-value : goal.returns-in-UdpIpv6-clause-value
returns-in-UdpIpv6-clause-value c = sym (ipv6_length c.args.self c.in-UdpIpv6.is)

-- `node::reader::address` meets its contract: each arm copies as many bytes as the family has. Assumes nothing.
use Rattle.node.proofs.FamilyLaws.{ipv4_length, ipv6_length}
use Rattle.node.proofs.reader.address.Goals as goal

pub returns-in-UdpIpv4 : goal.returns-in-UdpIpv4
returns-in-UdpIpv4 c = rw (ipv4_length c.args.family c.in-UdpIpv4.is) c.padded.ensures

pub returns-in-UdpIpv6 : goal.returns-in-UdpIpv6
returns-in-UdpIpv6 c = rw (ipv6_length c.args.family c.in-UdpIpv6.is) c.padded-in-UdpIpv6.ensures

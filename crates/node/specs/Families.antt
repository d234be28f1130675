-- Document 01, "Nodes": "Family 2 is UDP over IPv4, 10 UDP over IPv6, 130 TCP over IPv4, 138 TCP over IPv6."
use Rattle.std.specs.Prelude.{Bool, false, ◌||◌, cond, ◌≡◌, ℕ, ◌+◌, eqb, Result, MatchResult}
use Rattle.refusal.specs.declared.Refusal.{Refusal}
use Rattle.refusal.specs.declared.Refusal.TheVariants.{UnknownFamily}
use Rattle.node.specs.declared.family.Family.{Family}
use Rattle.node.specs.declared.family.Family.TheVariants.{UdpIpv4, UdpIpv6, TcpIpv4, TcpIpv6}

unfoldable pub known_family : ℕ → Bool
known_family family = eqb family 2 || (eqb family 10 || (eqb family 130 || eqb family 138))

-- "IPv4 has 4 address bytes (39 in all), IPv6 16 (51)." An unknown family has none: no node of it is read or written.
unfoldable pub address_length : ℕ → ℕ
address_length family = cond (eqb family 2 || eqb family 130) 4 (cond (eqb family 10 || eqb family 138) 16 0)

-- "a family byte, the address, a 2-byte port, the key"
abbrev pub packed_length : ℕ → ℕ
packed_length family = 1 + address_length family + 2 + 32

-- the byte of each family
abbrev pub family_byte : Family → ℕ
family_byte UdpIpv4 = 2
family_byte UdpIpv6 = 10
family_byte TcpIpv4 = 130
family_byte TcpIpv6 = 138

-- the family that a byte names, or refusal 15 where it names none
abbrev pub FamilyOf : ℕ → Result Family Refusal → Type 0
FamilyOf byte r = MatchResult r (λ family. family_byte family ≡ byte) (λ why. (why ≡ UnknownFamily) × (known_family byte ≡ false))

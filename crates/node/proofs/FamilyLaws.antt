-- Laws of the four families: which they are, and how long their addresses and packed nodes are. Assumes nothing.
use mathlib.Core.Path.{◌≡◌, ◌∙◌, refl, sym, ap}
use mathlib.Core.Logic.{◌⊎◌, inl, inr}
use mathlib.Core.Bool.{Bool, true, false, ◌||◌, cond}
use Prim.Native.Nat.{ℕ, ◌+◌, ◌≤◌}
use native.Mathlib.Omega.{arith}
use lib.Dec.{eqb}
use borrow.Author.Tests.{ne_eqb}
use Rattle.std.specs.Prelude.{Result, Ok, Err, MatchResult, is_ok}
use Rattle.refusal.specs.declared.Refusal.{Refusal}
use Rattle.node.specs.declared.family.Family.{Family}
use Rattle.node.specs.declared.family.Family.TheVariants.{UdpIpv4, UdpIpv6, TcpIpv4, TcpIpv6}
use Rattle.node.specs.Families.{known_family, address_length, packed_length, family_byte, FamilyOf}

-- ---- which they are

pub unknown_family : (family : ℕ) → (family ≡ 2 → ⊥) → (family ≡ 10 → ⊥) → (family ≡ 130 → ⊥) → (family ≡ 138 → ⊥) → known_family family ≡ false
unfolding known_family
unknown_family k a b c d = simp (ne_eqb k 2 a, ne_eqb k 10 b, ne_eqb k 130 c, ne_eqb k 138 d)

pub byte_known : (family : Family) → known_family (family_byte family) ≡ true
unfolding known_family
byte_known UdpIpv4 = refl
byte_known UdpIpv6 = refl
byte_known TcpIpv4 = refl
byte_known TcpIpv6 = refl

-- a byte that names a family is known, and no other is
pub known_named : (byte : ℕ) (r : Result Family Refusal) → FamilyOf byte r → is_ok r ≡ known_family byte
known_named byte (Ok family) is = sym (ap known_family (sym is) ∙ byte_known family)
known_named byte (Err why) is = sym is.1

-- ---- lengths

no_length : (a b c d : Bool) → (a || (b || (c || d))) ≡ false → ◌≡◌ {A = ℕ} (cond (a || c) 4 (cond (b || d) 16 0)) 0
no_length true b c d k = let z : true ≡ false = k in cc
no_length false true c d k = let z : true ≡ false = k in cc
no_length false false true d k = let z : true ≡ false = k in cc
no_length false false false true k = let z : true ≡ false = k in cc
no_length false false false false k = refl

pub unknown_length : (family : ℕ) → known_family family ≡ false → address_length family ≡ 0
unfolding known_family address_length
unknown_length family k = no_length (eqb family 2) (eqb family 10) (eqb family 130) (eqb family 138) k

pub unknown_address : (family : ℕ) → (family ≡ 2 → ⊥) → (family ≡ 10 → ⊥) → (family ≡ 130 → ⊥) → (family ≡ 138 → ⊥) → address_length family ≡ 0
unknown_address k a b c d = unknown_length k (unknown_family k a b c d)

pub ipv4_length : (family : Family) → (family ≡ UdpIpv4) ⊎ (family ≡ TcpIpv4) → address_length (family_byte family) ≡ 4
unfolding address_length
ipv4_length family (inl e) = ap (λ (f : Family). address_length (family_byte f)) e
ipv4_length family (inr e) = ap (λ (f : Family). address_length (family_byte f)) e

pub ipv6_length : (family : Family) → (family ≡ UdpIpv6) ⊎ (family ≡ TcpIpv6) → address_length (family_byte family) ≡ 16
unfolding address_length
ipv6_length family (inl e) = ap (λ (f : Family). address_length (family_byte f)) e
ipv6_length family (inr e) = ap (λ (f : Family). address_length (family_byte f)) e

-- an address has as many bytes as its family says, and none where a byte names no family
pub length_named : (byte n : ℕ) (r : Result Family Refusal) → FamilyOf byte r → MatchResult r (λ family. n ≡ address_length (family_byte family)) (λ why. n ≡ 0)
    → n ≡ address_length byte
length_named byte n (Ok family) is e = e ∙ ap address_length is
length_named byte n (Err why) is e = e ∙ sym (unknown_length byte is.1)

-- "39 in all", "51"
pub ipv4_bytes : (packed_length 2 ≡ 39) × (packed_length 130 ≡ 39)
unfolding address_length
ipv4_bytes = (refl, refl)

pub ipv6_bytes : (packed_length 10 ≡ 51) × (packed_length 138 ≡ 51)
unfolding address_length
ipv6_bytes = (refl, refl)

at_most : (a b : Bool) → cond a 4 (cond b 16 0) ≤ 16
at_most true b = omega arith
at_most false true = omega arith
at_most false false = omega arith

-- an address has no more than 16 bytes
pub address_fits : (family : ℕ) → address_length family ≤ 16
unfolding address_length
address_fits family = at_most (eqb family 2 || eqb family 130) (eqb family 10 || eqb family 138)

pub packed_length_lem : (family : ℕ) → packed_length family ≡ 35 + address_length family
packed_length_lem family = omega arith

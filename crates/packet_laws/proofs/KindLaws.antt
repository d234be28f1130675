-- Laws of document 01's table of kinds: what each column says of a range of kinds. Assumes nothing.
use mathlib.Core.Path.{◌≡◌, refl}
use mathlib.Core.Bool.{Bool, true, false, ◌||◌}
use mathlib.Core.List.{List}
use mathlib.Core.Logic.{◌⊎◌, inl, inr}
use Prim.Native.Nat.{ℕ, ◌≤◌}
use native.Mathlib.Omega.{arith}
use lib.Dec.{leb}
use Rattle.std.proofs.lemmas.Bool.Decides.{nat_tests}
use Rattle.packet_laws.specs.Table.{size_right, relay_takes, client_takes, length_right, ping_right, number_right}
use Rattle.packet_laws.specs.FromClient as client
use Rattle.packet_laws.specs.FromRelay as relay

-- ---- tests joined

pub or-true : (a b : Bool) → (a || b) ≡ true → (a ≡ true) ⊎ (b ≡ true)
or-true true b e = inl refl
or-true false b e = inr e

-- ---- kinds above those of the table's first rows

module _ (k : ℕ) where
  pub relay_takes_data : 16 ≤ k → relay_takes k ≡ true
  unfolding relay_takes
  relay_takes_data h = grind (arith, nat_tests)

  pub client_takes_data : 16 ≤ k → client_takes k ≡ true
  unfolding client_takes
  client_takes_data h = grind (arith, nat_tests)

  pub length_data : (n : ℕ) → 8 ≤ k → length_right k n ≡ leb 2 n
  unfolding length_right
  length_data n h = grind (arith, nat_tests)

  pub ping_other : (body : List ℕ) → (k ≡ 4 → ⊥) → (k ≡ 5 → ⊥) → ping_right k body ≡ true
  unfolding ping_right
  ping_other body p q = grind (arith, nat_tests)

  pub number_other : (n : ℕ) → (k ≡ 1 → ⊥) → (k ≡ 2 → ⊥) → (k ≡ 3 → ⊥) → number_right k n ≡ true
  unfolding number_right
  number_other n p q r = grind (arith, nat_tests)

  pub from_client_data : (body : List ℕ) → 16 ≤ k → client.from_client k body ≡ client.routed_data k body
  unfolding client.from_client
  from_client_data body h = grind (arith, nat_tests)

  pub from_relay_data : (body : List ℕ) → 16 ≤ k → relay.from_relay k body ≡ relay.routed_data k body
  unfolding relay.from_relay
  from_relay_data body h = grind (arith, nat_tests)

-- ---- sizes

pub size_bounds : (n : ℕ) → size_right n ≡ true → (1 ≤ n) × (n ≤ 2032)
unfolding size_right
size_bounds n e = (grind (arith, nat_tests), grind (arith, nat_tests))

pub size_within : (n : ℕ) → 1 ≤ n → n ≤ 2032 → size_right n ≡ true
unfolding size_right
size_within n a b = grind (arith, nat_tests)

-- ---- lengths, row by row

module _ (k n : ℕ) (right : length_right k n ≡ true) where
  pub length_request : k ≡ 0 → n ≡ 33
  unfolding length_right
  length_request e = grind (arith, nat_tests)

  pub length_response : k ≡ 1 → n ≡ 34
  unfolding length_right
  length_response e = grind (arith, nat_tests)

  pub length_connect : k ≡ 2 → n ≡ 2
  unfolding length_right
  length_connect e = grind (arith, nat_tests)

  pub length_disconnect : k ≡ 3 → n ≡ 2
  unfolding length_right
  length_disconnect e = grind (arith, nat_tests)

  pub length_ping : k ≡ 4 → n ≡ 9
  unfolding length_right
  length_ping e = grind (arith, nat_tests)

  pub length_pong : k ≡ 5 → n ≡ 9
  unfolding length_right
  length_pong e = grind (arith, nat_tests)

  pub length_oob_send : k ≡ 6 → (34 ≤ n) × (n ≤ 1057)
  unfolding length_right
  length_oob_send e = (grind (arith, nat_tests), grind (arith, nat_tests))

  pub length_oob_received : k ≡ 7 → (34 ≤ n) × (n ≤ 1057)
  unfolding length_right
  length_oob_received e = (grind (arith, nat_tests), grind (arith, nat_tests))

-- every packet of the right length has two bytes
pub length_two : (k n : ℕ) → length_right k n ≡ true → 2 ≤ n
unfolding length_right
length_two k n right = grind (arith, nat_tests)

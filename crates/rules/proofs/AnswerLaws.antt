-- What a client reads of the answer to its request: the number that the relay put into it. A request that the relay took names a key of 32
-- bytes (`packet_laws`, `ReadBounds.antt`), so the answer is a packet that the client's reader takes. Assumes nothing.
use mathlib.Core.Path.{◌≡◌, refl, ap}
use mathlib.Core.Bool.{true}
use mathlib.Core.List.{List, ◌∷◌}
use Prim.Native.Nat.{ℕ, ◌+◌}
use native.Mathlib.Omega.{arith}
use lib.ListN.{length}
use borrow.Author.Tests.{ne_eqb, le-leb}
use Rattle.packet_laws.specs.Table.{number_right}
use Rattle.packet_laws.specs.FromRelay as relay
use Rattle.packet_laws.specs.Judged.{relay_judged}
use Rattle.packet_laws.proofs.Judged.{relay_response_judged}
use Rattle.rules.specs.Room.{Key, number_of_place}
use Rattle.rules.specs.Call.{Sent}
use Rattle.rules.specs.Outcome.{to}
use Rattle.rules.specs.Transcript.{number_read, number_answered}

module _ (seat : ℕ) (wanted : Key) (long : length wanted ≡ 32) (rest : List Sent) where
  number_answered_lem : (number : ℕ) → number_right 1 number ≡ true → number_answered (to seat (relay.routing_response number wanted) ∷ rest) ≡ number
  unfolding number_answered number_read to relay.from_relay relay_judged
  number_answered_lem number right = ap number_read (relay_response_judged number wanted long right)

  -- 0, where no number was free
  pub zero_answered : number_answered (to seat (relay.routing_response 0 wanted) ∷ rest) ≡ 0
  unfolding number_right
  zero_answered = number_answered_lem 0 refl

  -- the number of a place
  pub place_answered : (place : ℕ) → number_answered (to seat (relay.routing_response (number_of_place place) wanted) ∷ rest) ≡ number_of_place place
  unfolding number_right
  place_answered place = number_answered_lem (16 + place) (rw (ne_eqb (16 + place) 0 (λ q. omega arith), le-leb 16 (16 + place) (omega arith)))

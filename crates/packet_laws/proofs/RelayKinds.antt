-- Which kinds the relay takes, and what it reads of a packet that passes its checks. Assumes nothing.
use mathlib.Core.Path.{◌≡◌}
use mathlib.Core.Bool.{true}
use mathlib.Core.List.{List}
use mathlib.Core.Logic.{⊎_elim}
use Prim.Native.Nat.{ℕ, ◌≤◌}
use lib.Dec.{eqb, leb}
use borrow.Author.Tests.{eqb-true, leb-true}
use Rattle.packet_laws.specs.Read.{packet}
use Rattle.packet_laws.specs.Table.{kind_of, body_of, relay_takes}
use Rattle.packet_laws.specs.FromClient.{from_client, relay_read}
use Rattle.packet_laws.proofs.KindLaws.{or-true}
use Rattle.packet_laws.proofs.CheckLaws.{Passes, passes}

-- ---- the kinds that the relay takes

pub data RelayKind (k : ℕ) : Type 0 where
  is_request : k ≡ 0 → RelayKind k
  is_drop : k ≡ 3 → RelayKind k
  is_ping : k ≡ 4 → RelayKind k
  is_pong : k ≡ 5 → RelayKind k
  is_oob : k ≡ 6 → RelayKind k
  is_data : 16 ≤ k → RelayKind k

pub relay_kind : (k : ℕ) → relay_takes k ≡ true → RelayKind k
unfolding relay_takes
relay_kind k h =
    ⊎_elim (λ (e : eqb k 0 ≡ true). is_request (eqb-true k 0 e)) (λ (r : _ ≡ true).
    ⊎_elim (λ (e : eqb k 3 ≡ true). is_drop (eqb-true k 3 e)) (λ (r : _ ≡ true).
    ⊎_elim (λ (e : eqb k 4 ≡ true). is_ping (eqb-true k 4 e)) (λ (r : _ ≡ true).
    ⊎_elim (λ (e : eqb k 5 ≡ true). is_pong (eqb-true k 5 e)) (λ (r : _ ≡ true).
    ⊎_elim (λ (e : eqb k 6 ≡ true). is_oob (eqb-true k 6 e)) (λ (r : leb 16 k ≡ true). is_data (leb-true 16 k r))
    (or-true _ _ r)) (or-true _ _ r)) (or-true _ _ r)) (or-true _ _ r)) (or-true _ _ h)

-- ---- a packet that the relay takes

module _ (bytes : List ℕ) (taken : Passes relay_takes bytes) where
  pub relay_takes_lem : relay_read bytes ≡ packet (from_client (kind_of bytes) (body_of bytes))
  unfolding relay_read
  relay_takes_lem = passes relay_takes bytes (packet (from_client (kind_of bytes) (body_of bytes))) taken

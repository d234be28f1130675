-- What the relay's reader takes is within document 01's bounds: a requested key of 32 bytes, payloads of 1 to 1,024 and of 1 to 2,031 bytes, and ping numbers
-- that are not 0. Assumes nothing.
use mathlib.Core.Path.{◌≡◌, refl, subst}
use mathlib.Core.Bool.{Bool, true, false, not, false≢true}
use mathlib.Core.List.{List}
use Prim.Native.Nat.{ℕ, ◌<◌}
use native.Mathlib.Omega.{arith}
use lib.Dec.{eqb}
use lib.ListN.{length, take, length-drop}
use lib.Seq.{length-take-le}
use borrow.Author.Tests.{eqb-false}
use Rattle.wire.specs.Numbers.{number_of}
use Rattle.refusal.specs.declared.Refusal.{Refusal}
use Rattle.refusal.specs.Numbers.{is_retired}
use Rattle.packet_laws.specs.Read.{packet, refused}
use Rattle.packet_laws.specs.Table.{kind_of, body_of, relay_takes, ping_right}
use Rattle.packet_laws.specs.FromClient.{FromClient, routing_request, from_client, relay_read, Within}
use Rattle.packet_laws.proofs.KindLaws.{from_client_data, size_bounds, length_request, length_oob_send, length_two}
use Rattle.packet_laws.proofs.CheckLaws.{Passes, Checks, pass, fail, checks, never_both, checked_given}
use Rattle.packet_laws.proofs.ByteLaws.{length_body}
use Rattle.packet_laws.proofs.RelayKinds.{RelayKind, is_request, is_drop, is_ping, is_pong, is_oob, is_data, relay_kind, relay_takes_lem}

not_zero : (n : ℕ) → not (eqb n 0) ≡ true → 0 < n
not_zero n e = go (eqb n 0) refl e
  where
    go : (t : Bool) → eqb n 0 ≡ t → not t ≡ true → 0 < n
    go true h q = absurd (false≢true q)
    go false h q = let d = eqb-false n 0 h in omega (arith, d)

module _ (bytes : List ℕ) (taken : Passes relay_takes bytes) where
  within : RelayKind (kind_of bytes) → Within (from_client (kind_of bytes) (body_of bytes))
  unfolding from_client Within ping_right
  within (is_request e) =
      let h = length_request (kind_of bytes) (length bytes) taken.long e in
      let l = length_body bytes in
      rw e (length-take-le 32 (body_of bytes) (omega arith))
  within (is_drop e) = rw e tt
  within (is_ping e) = rw e (not_zero (number_of (take 8 (body_of bytes))) (rw e at taken.ping))
  within (is_pong e) = rw e (not_zero (number_of (take 8 (body_of bytes))) (rw e at taken.ping))
  within (is_oob e) =
      let h = length_oob_send (kind_of bytes) (length bytes) taken.long e in
      let l = length_body bytes in
      rw (e, length-drop) (omega arith, omega arith)
  within (is_data h) =
      let s = size_bounds (length bytes) taken.size in
      let d = length_two (kind_of bytes) (length bytes) taken.long in
      let l = length_body bytes in
      rw (from_client_data (kind_of bytes) (body_of bytes) h) (omega arith, omega arith)

pub read_within : (bytes : List ℕ) (p : FromClient) → relay_read bytes ≡ packet p → Within p
unfolding relay_read
read_within bytes p e = go (checks relay_takes bytes (packet (from_client (kind_of bytes) (body_of bytes))))
  where
    go : Checks relay_takes bytes (packet (from_client (kind_of bytes) (body_of bytes))) → Within p
    go (pass t) =
        let r = relay_takes_lem bytes t in
        let q : from_client (kind_of bytes) (body_of bytes) ≡ p = cc in
        subst Within q (within bytes t (relay_kind (kind_of bytes) t.kind))
    go (fail why r) = absurd (never_both (relay_read bytes) p why e r)

-- so a request that the relay takes names a key of 32 bytes
pub request_key_long : (bytes key : List ℕ) → relay_read bytes ≡ packet (routing_request key) → length key ≡ 32
unfolding Within
request_key_long bytes key e = read_within bytes (routing_request key) e

-- and what it refuses is never refused with 2
pub read_given : (bytes : List ℕ) (why : Refusal) → relay_read bytes ≡ refused why → is_retired why ≡ false
unfolding relay_read
read_given bytes why e = checked_given relay_takes bytes (from_client (kind_of bytes) (body_of bytes)) why e

-- How each packet that a writer would make is judged: by shape, at either end. Assumes nothing.
use mathlib.Core.Path.{◌≡◌, ◌∙◌, refl, sym, ap}
use mathlib.Core.Bool.{Bool, true, false, not}
use mathlib.Core.List.{List, [], ◌∷◌, ◌++◌}
use Prim.Native.Nat.{ℕ, suc, ◌+◌, ◌<◌, ◌≤◌, ◌^◌}
use native.Mathlib.Omega.{arith}
use lib.Dec.{eqb}
use lib.ListN.{length, take, length-append}
use borrow.Author.Tests.{eq-eqb, ne_eqb, le-leb, lt-leb}
use Rattle.wire.specs.Numbers.{number_of, bytes_of}
use Rattle.wire.proofs.Numbers.{length_bytes_of}
use Rattle.refusal.specs.declared.Refusal.TheVariants.{PacketSize, UnexpectedKind, WrongLength, ZeroPing, NoSuchRoute}
use Rattle.packet_laws.specs.Read.{Read, packet, refused, check}
use Rattle.packet_laws.specs.Table.{kind_of, body_of, size_right, relay_takes, client_takes, length_right, ping_right, number_right, checked}
use Rattle.packet_laws.specs.FromClient as client
use Rattle.packet_laws.specs.FromRelay as relay
use Rattle.packet_laws.specs.Judged.{client_judged, relay_judged, data_number}
use Rattle.packet_laws.proofs.KindLaws.{relay_takes_data, client_takes_data, length_data, ping_other, number_other}
use Rattle.packet_laws.proofs.CheckLaws.{Passes, fails_size, fails_length, fails_ping}
use Rattle.packet_laws.proofs.ByteLaws.{word_number}
use Rattle.packet_laws.proofs.RelayKinds.{relay_takes_lem}
use Rattle.packet_laws.proofs.ClientKinds.{client_takes_lem, client_fails_number}

-- ---- the four shapes, at an end that takes their kind

module _ (takes : ℕ → Bool) (k : ℕ) (kind : takes k ≡ true) where
  -- a kind and bytes, of a length that is right, with no ping number
  pass_plain : (body : List ℕ) (n : ℕ) → length (k ∷ body) ≡ n → size_right n ≡ true → length_right k n ≡ true → ping_right k body ≡ true → Passes takes (k ∷ body)
  unfolding kind_of body_of
  pass_plain body n e s l p = record { size = ap size_right e ∙ s; kind = kind; long = ap (length_right k) e ∙ l; ping = p }

  -- a ping or a pong
  module _ (long : length_right k 9 ≡ true) (ping : (body : List ℕ) → ping_right k body ≡ not (eqb (number_of (take 8 body)) 0)) (n : ℕ) where
    nine : length (k ∷ bytes_of 8 n) ≡ 9
    nine = ap suc (length_bytes_of 8 n)

    pass_ping : (n ≡ 0 → ⊥) → n < 2 ^ 64 → Passes takes (k ∷ bytes_of 8 n)
    unfolding size_right
    pass_ping ne fits = pass_plain (bytes_of 8 n) 9 nine refl long (ping (bytes_of 8 n) ∙ ap (λ (m : ℕ). not (eqb m 0)) (word_number n fits) ∙ ap not (ne_eqb n 0 ne))

    fail_ping : {A : Type 0} (after : Read A) → n ≡ 0 → checked takes (k ∷ bytes_of 8 n) after ≡ refused ZeroPing
    unfolding kind_of body_of size_right
    fail_ping after e =
        fails_ping takes (k ∷ bytes_of 8 n) after (ap size_right nine) kind (ap (length_right k) nine ∙ long)
        (ping (bytes_of 8 n) ∙ ap (λ (m : ℕ). not (eqb m 0)) (word_number n (omega arith)) ∙ ap not (eq-eqb n 0 e))

  -- a key and bytes
  module _ (ping : (body : List ℕ) → ping_right k body ≡ true) (key bytes : List ℕ) (key_long : length key ≡ 32) where
    all : length (k ∷ (key ++ bytes)) ≡ 33 + length bytes
    all = let e = length-append key bytes in omega arith

    pass_addressed : size_right (33 + length bytes) ≡ true → length_right k (33 + length bytes) ≡ true → Passes takes (k ∷ (key ++ bytes))
    pass_addressed s l = pass_plain (key ++ bytes) (33 + length bytes) all s l (ping (key ++ bytes))

    fail_addressed_size : {A : Type 0} (after : Read A) → size_right (33 + length bytes) ≡ false → checked takes (k ∷ (key ++ bytes)) after ≡ refused PacketSize
    fail_addressed_size after s = fails_size takes (k ∷ (key ++ bytes)) after (ap size_right all ∙ s)

    fail_addressed_length : {A : Type 0} (after : Read A) → size_right (33 + length bytes) ≡ true → length_right k (33 + length bytes) ≡ false
        → checked takes (k ∷ (key ++ bytes)) after ≡ refused WrongLength
    unfolding kind_of
    fail_addressed_length after s l = fails_length takes (k ∷ (key ++ bytes)) after (ap size_right all ∙ s) kind (ap (length_right k) all ∙ l)

-- ---- the client's writers

pub client_request_judged : (key : List ℕ) → length key ≡ 32 → client_judged (client.routing_request key) ≡ packet (client.from_client 0 key)
unfolding client_judged client.client_bytes kind_of body_of size_right relay_takes length_right ping_right
client_request_judged key e = relay_takes_lem (0 ∷ key) (pass_plain relay_takes 0 refl key 33 (ap suc e) refl refl refl)

pub client_drop_judged : (number : ℕ) → client_judged (client.drop_route number) ≡ packet (client.from_client 3 (number ∷ []))
unfolding client_judged client.client_bytes kind_of body_of size_right relay_takes length_right ping_right
client_drop_judged number = relay_takes_lem (3 ∷ number ∷ []) (pass_plain relay_takes 3 refl (number ∷ []) 2 refl refl refl refl)

module _ (n : ℕ) (fits : n < 2 ^ 64) where
  pub client_ping_judged : (n ≡ 0 → ⊥) → client_judged (client.ping n) ≡ packet (client.from_client 4 (bytes_of 8 n))
  unfolding client_judged client.client_bytes kind_of body_of relay_takes length_right ping_right
  client_ping_judged ne = relay_takes_lem (4 ∷ bytes_of 8 n) (pass_ping relay_takes 4 refl refl (λ (b : List ℕ). refl) n ne fits)

  pub client_ping_zero : n ≡ 0 → client_judged (client.ping n) ≡ refused ZeroPing
  unfolding client_judged client.client_bytes client.relay_read relay_takes length_right ping_right
  client_ping_zero e = fail_ping relay_takes 4 refl refl (λ (b : List ℕ). refl) n _ e

  pub client_pong_judged : (n ≡ 0 → ⊥) → client_judged (client.pong n) ≡ packet (client.from_client 5 (bytes_of 8 n))
  unfolding client_judged client.client_bytes kind_of body_of relay_takes length_right ping_right
  client_pong_judged ne = relay_takes_lem (5 ∷ bytes_of 8 n) (pass_ping relay_takes 5 refl refl (λ (b : List ℕ). refl) n ne fits)

  pub client_pong_zero : n ≡ 0 → client_judged (client.pong n) ≡ refused ZeroPing
  unfolding client_judged client.client_bytes client.relay_read relay_takes length_right ping_right
  client_pong_zero e = fail_ping relay_takes 5 refl refl (λ (b : List ℕ). refl) n _ e

module _ (key bytes : List ℕ) (key_long : length key ≡ 32) where
  pub client_oob_judged : size_right (33 + length bytes) ≡ true → length_right 6 (33 + length bytes) ≡ true
      → client_judged (client.oob_send key bytes) ≡ packet (client.from_client 6 (key ++ bytes))
  unfolding client_judged client.client_bytes kind_of body_of relay_takes ping_right
  client_oob_judged s l = relay_takes_lem (6 ∷ (key ++ bytes)) (pass_addressed relay_takes 6 refl (λ (b : List ℕ). refl) key bytes key_long s l)

  pub client_oob_size : size_right (33 + length bytes) ≡ false → client_judged (client.oob_send key bytes) ≡ refused PacketSize
  unfolding client_judged client.client_bytes client.relay_read relay_takes ping_right
  client_oob_size s = fail_addressed_size relay_takes 6 refl (λ (b : List ℕ). refl) key bytes key_long _ s

  pub client_oob_length : size_right (33 + length bytes) ≡ true → length_right 6 (33 + length bytes) ≡ false → client_judged (client.oob_send key bytes) ≡ refused WrongLength
  unfolding client_judged client.client_bytes client.relay_read relay_takes ping_right
  client_oob_length s l = fail_addressed_length relay_takes 6 refl (λ (b : List ℕ). refl) key bytes key_long _ s l

-- ---- the relay's writers

module _ (number : ℕ) (key : List ℕ) (key_long : length key ≡ 32) where
  response_passes : Passes client_takes (1 ∷ number ∷ key)
  unfolding size_right client_takes length_right ping_right
  response_passes = pass_plain client_takes 1 refl (number ∷ key) 34 (ap (λ (n : ℕ). suc (suc n)) key_long) refl refl refl

  pub relay_response_judged : number_right 1 number ≡ true → relay_judged (relay.routing_response number key) ≡ packet (relay.from_relay 1 (number ∷ key))
  unfolding relay_judged relay.relay_bytes kind_of body_of
  relay_response_judged e = client_takes_lem (1 ∷ number ∷ key) (record { both = response_passes; number = e })

  pub relay_response_number : number_right 1 number ≡ false → relay_judged (relay.routing_response number key) ≡ refused NoSuchRoute
  unfolding relay_judged relay.relay_bytes kind_of body_of
  relay_response_number e = client_fails_number (1 ∷ number ∷ key) response_passes e

module _ (number : ℕ) where
  connect_passes : Passes client_takes (2 ∷ number ∷ [])
  unfolding size_right client_takes length_right ping_right
  connect_passes = pass_plain client_takes 2 refl (number ∷ []) 2 refl refl refl refl

  disconnect_passes : Passes client_takes (3 ∷ number ∷ [])
  unfolding size_right client_takes length_right ping_right
  disconnect_passes = pass_plain client_takes 3 refl (number ∷ []) 2 refl refl refl refl

  pub relay_connect_judged : 16 ≤ number → relay_judged (relay.connect_notice number) ≡ packet (relay.from_relay 2 (number ∷ []))
  unfolding relay_judged relay.relay_bytes kind_of body_of number_right
  relay_connect_judged h = client_takes_lem (2 ∷ number ∷ []) (record { both = connect_passes; number = le-leb 16 number h })

  pub relay_connect_number : number < 16 → relay_judged (relay.connect_notice number) ≡ refused NoSuchRoute
  unfolding relay_judged relay.relay_bytes kind_of body_of number_right
  relay_connect_number h = client_fails_number (2 ∷ number ∷ []) connect_passes (lt-leb 16 number h)

  pub relay_disconnect_judged : 16 ≤ number → relay_judged (relay.disconnect_notice number) ≡ packet (relay.from_relay 3 (number ∷ []))
  unfolding relay_judged relay.relay_bytes kind_of body_of number_right
  relay_disconnect_judged h = client_takes_lem (3 ∷ number ∷ []) (record { both = disconnect_passes; number = le-leb 16 number h })

  pub relay_disconnect_number : number < 16 → relay_judged (relay.disconnect_notice number) ≡ refused NoSuchRoute
  unfolding relay_judged relay.relay_bytes kind_of body_of number_right
  relay_disconnect_number h = client_fails_number (3 ∷ number ∷ []) disconnect_passes (lt-leb 16 number h)

module _ (n : ℕ) (fits : n < 2 ^ 64) where
  pub relay_ping_judged : (n ≡ 0 → ⊥) → relay_judged (relay.ping n) ≡ packet (relay.from_relay 4 (bytes_of 8 n))
  unfolding relay_judged relay.relay_bytes kind_of body_of client_takes length_right ping_right number_right
  relay_ping_judged ne = client_takes_lem (4 ∷ bytes_of 8 n) (record { both = pass_ping client_takes 4 refl refl (λ (b : List ℕ). refl) n ne fits; number = refl })

  pub relay_ping_zero : n ≡ 0 → relay_judged (relay.ping n) ≡ refused ZeroPing
  unfolding relay_judged relay.relay_bytes relay.client_read client_takes length_right ping_right
  relay_ping_zero e = fail_ping client_takes 4 refl refl (λ (b : List ℕ). refl) n _ e

  pub relay_pong_judged : (n ≡ 0 → ⊥) → relay_judged (relay.pong n) ≡ packet (relay.from_relay 5 (bytes_of 8 n))
  unfolding relay_judged relay.relay_bytes kind_of body_of client_takes length_right ping_right number_right
  relay_pong_judged ne = client_takes_lem (5 ∷ bytes_of 8 n) (record { both = pass_ping client_takes 5 refl refl (λ (b : List ℕ). refl) n ne fits; number = refl })

  pub relay_pong_zero : n ≡ 0 → relay_judged (relay.pong n) ≡ refused ZeroPing
  unfolding relay_judged relay.relay_bytes relay.client_read client_takes length_right ping_right
  relay_pong_zero e = fail_ping client_takes 5 refl refl (λ (b : List ℕ). refl) n _ e

module _ (key bytes : List ℕ) (key_long : length key ≡ 32) where
  pub relay_oob_judged : size_right (33 + length bytes) ≡ true → length_right 7 (33 + length bytes) ≡ true
      → relay_judged (relay.oob_received key bytes) ≡ packet (relay.from_relay 7 (key ++ bytes))
  unfolding relay_judged relay.relay_bytes kind_of body_of client_takes ping_right number_right
  relay_oob_judged s l =
      client_takes_lem (7 ∷ (key ++ bytes)) (record { both = pass_addressed client_takes 7 refl (λ (b : List ℕ). refl) key bytes key_long s l; number = refl })

  pub relay_oob_size : size_right (33 + length bytes) ≡ false → relay_judged (relay.oob_received key bytes) ≡ refused PacketSize
  unfolding relay_judged relay.relay_bytes relay.client_read client_takes ping_right
  relay_oob_size s = fail_addressed_size client_takes 7 refl (λ (b : List ℕ). refl) key bytes key_long _ s

  pub relay_oob_length : size_right (33 + length bytes) ≡ true → length_right 7 (33 + length bytes) ≡ false → relay_judged (relay.oob_received key bytes) ≡ refused WrongLength
  unfolding relay_judged relay.relay_bytes relay.client_read client_takes ping_right
  relay_oob_length s l = fail_addressed_length client_takes 7 refl (λ (b : List ℕ). refl) key bytes key_long _ s l

-- ---- data, at both ends

one_more : (bytes : List ℕ) → size_right (1 + length bytes) ≡ size_right (suc (length bytes))
one_more bytes = ap size_right (omega arith)

module _ {A : Type 0} (number : ℕ) (bytes : List ℕ) (after : Read A) where
  data_size : size_right (1 + length bytes) ≡ false → data_number number bytes after ≡ refused PacketSize
  unfolding data_number check
  data_size s = rw (sym (one_more bytes) ∙ s)

  data_number_lem : size_right (1 + length bytes) ≡ true → number < 16 → data_number number bytes after ≡ refused UnexpectedKind
  unfolding data_number check
  data_number_lem s h = rw (sym (one_more bytes) ∙ s, lt-leb 16 number h)

  data_after : size_right (1 + length bytes) ≡ true → 16 ≤ number → data_number number bytes after ≡ after
  unfolding data_number check
  data_after s h = rw (sym (one_more bytes) ∙ s, le-leb 16 number h)

module _ (number : ℕ) (bytes : List ℕ) (s : size_right (1 + length bytes) ≡ true) (h : 16 ≤ number) where
  sized : size_right (length (number ∷ bytes)) ≡ true
  sized = sym (one_more bytes) ∙ s

  data_passes : (takes : ℕ → Bool) → takes number ≡ true → 1 ≤ length bytes → Passes takes (number ∷ bytes)
  data_passes takes kind l =
      pass_plain takes number kind bytes (length (number ∷ bytes)) refl sized (length_data number _ (omega arith) ∙ le-leb 2 (length (number ∷ bytes)) (omega arith))
      (ping_other number bytes (omega arith) (omega arith))

  data_empty : {A : Type 0} (takes : ℕ → Bool) (after : Read A) → takes number ≡ true → length bytes ≡ 0 → checked takes (number ∷ bytes) after ≡ refused WrongLength
  unfolding kind_of
  data_empty takes after kind e =
      fails_length takes (number ∷ bytes) after sized kind (length_data number _ (omega arith) ∙ lt-leb 2 (length (number ∷ bytes)) (omega arith))

  pub client_data_judged : 1 ≤ length bytes → client_judged (client.routed_data number bytes) ≡ packet (client.from_client number bytes)
  unfolding client_judged client.client_bytes kind_of body_of
  client_data_judged l = data_after number bytes _ s h ∙ relay_takes_lem (number ∷ bytes) (data_passes relay_takes (relay_takes_data number h) l)

  pub client_data_length : length bytes ≡ 0 → client_judged (client.routed_data number bytes) ≡ refused WrongLength
  unfolding client_judged client.client_bytes client.relay_read
  client_data_length e = data_after number bytes _ s h ∙ data_empty relay_takes _ (relay_takes_data number h) e

  pub relay_data_judged : 1 ≤ length bytes → relay_judged (relay.routed_data number bytes) ≡ packet (relay.from_relay number bytes)
  unfolding relay_judged relay.relay_bytes kind_of body_of
  relay_data_judged l =
      data_after number bytes _ s h
      ∙ client_takes_lem (number ∷ bytes)
      (record { both = data_passes client_takes (client_takes_data number h) l; number = number_other number _ (omega arith) (omega arith) (omega arith) })

  pub relay_data_length : length bytes ≡ 0 → relay_judged (relay.routed_data number bytes) ≡ refused WrongLength
  unfolding relay_judged relay.relay_bytes relay.client_read
  relay_data_length e = data_after number bytes _ s h ∙ data_empty client_takes _ (client_takes_data number h) e

module _ (number : ℕ) (bytes : List ℕ) where
  pub client_data_size : size_right (1 + length bytes) ≡ false → client_judged (client.routed_data number bytes) ≡ refused PacketSize
  unfolding client_judged
  client_data_size s = data_size number bytes _ s

  pub relay_data_size : size_right (1 + length bytes) ≡ false → relay_judged (relay.routed_data number bytes) ≡ refused PacketSize
  unfolding relay_judged
  relay_data_size s = data_size number bytes _ s

  pub client_data_number : size_right (1 + length bytes) ≡ true → number < 16 → client_judged (client.routed_data number bytes) ≡ refused UnexpectedKind
  unfolding client_judged
  client_data_number s h = data_number_lem number bytes _ s h

  pub relay_data_number : size_right (1 + length bytes) ≡ true → number < 16 → relay_judged (relay.routed_data number bytes) ≡ refused UnexpectedKind
  unfolding relay_judged
  relay_data_number s h = data_number_lem number bytes _ s h

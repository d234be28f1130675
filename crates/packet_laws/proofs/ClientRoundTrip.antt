-- From a client to the relay. For every packet that a client's writer takes, reading what was written gives the packet back. For all bytes that
-- the relay's reader takes, writing what was read gives the bytes back. The relay's reader refuses exactly what no writer of a client makes.
-- Assumes nothing.
use mathlib.Core.Path.{◌≡◌, ◌∙◌, refl, sym, ap, ap₂}
use mathlib.Core.Bool.{true}
use mathlib.Core.List.{List, [], ◌∷◌}
use Prim.Native.Nat.{ℕ, ◌≤◌}
use native.Mathlib.Omega.{arith}
use lib.Dec.{leb}
use lib.ListN.{length, get_or, take, take-append-drop}
use lib.Seq.{take_all, take_at, drop_at, length-take-le}
use borrow.Author.Tests.{leb-true, le-leb}
use Rattle.refusal.specs.declared.Refusal.{Refusal}
use Rattle.wire.specs.Numbers.{Bytes}
use Rattle.wire.proofs.Numbers.{bytes_take, bytes_drop, bytes_get_d}
use Rattle.packet_laws.specs.Read.{Read, packet, refused, check}
use Rattle.packet_laws.specs.Table.{kind_of, body_of, size_right, relay_takes}
use Rattle.packet_laws.specs.FromClient.{FromClient, routing_request, drop_route, ping, pong, oob_send, routed_data, client_bytes, from_client, relay_read, FitsClient}
use Rattle.packet_laws.specs.Judged.{client_judged, data_number, ClientMakes}
use Rattle.packet_laws.proofs.KindLaws.{from_client_data, size_bounds, length_request, length_disconnect, length_ping, length_pong, length_oob_send}
use Rattle.packet_laws.proofs.CheckLaws.{Passes, Checks, pass, fail, checks, check_taken, never_both}
use Rattle.packet_laws.proofs.ByteLaws.{kind_and_body, length_body, one_byte, word_bytes, word_number, word_fits, kind_byte}
use Rattle.packet_laws.proofs.RelayKinds.{RelayKind, is_request, is_drop, is_ping, is_pong, is_oob, is_data, relay_kind, relay_takes_lem}

-- ---- what was written is read

-- a data number is 16 or more
abbrev High : FromClient → Type 0
High (routing_request key) = Unit {0}
High (drop_route number) = Unit {0}
High (ping n) = Unit {0}
High (pong n) = Unit {0}
High (oob_send key bytes) = Unit {0}
High (routed_data number bytes) = 16 ≤ number

-- the table's third column read undoes the column written
parsed : (p : FromClient) → FitsClient p → High p → from_client (kind_of (client_bytes p)) (body_of (client_bytes p)) ≡ p
unfolding from_client client_bytes kind_of body_of FitsClient
parsed (routing_request key) f h = ap routing_request (take_all 32 key (let l = f.long in omega arith))
parsed (drop_route number) f h = refl
parsed (ping n) f h = ap ping (word_number n f)
parsed (pong n) f h = ap pong (word_number n f)
parsed (oob_send key bytes) f h = ap₂ oob_send (take_at key bytes 32 f.0.long) (drop_at key bytes 32 f.0.long)
parsed (routed_data number bytes) f h = from_client_data number bytes h

-- what the writer's judgement says beyond the reader's
judged_read : (p q : FromClient) → client_judged p ≡ packet q → High p × (relay_read (client_bytes p) ≡ packet q)
unfolding client_judged data_number
judged_read (routing_request key) q e = (tt, e)
judged_read (drop_route number) q e = (tt, e)
judged_read (ping n) q e = (tt, e)
judged_read (pong n) q e = (tt, e)
judged_read (oob_send key bytes) q e = (tt, e)
judged_read (routed_data number bytes) q e =
    let a = check_taken (size_right (length (number ∷ bytes))) _ _ q e in
    let b = check_taken (leb 16 number) _ _ q a.1 in
    (leb-true 16 number b.0, b.1)

-- reading what was written gives the packet back
pub relay_reads_written : (p q : FromClient) → FitsClient p → client_judged p ≡ packet q → (q ≡ p) × (relay_read (client_bytes p) ≡ packet p)
unfolding relay_read
relay_reads_written p q f e = go (checks relay_takes (client_bytes p) (packet (from_client (kind_of (client_bytes p)) (body_of (client_bytes p)))))
  where
    back : from_client (kind_of (client_bytes p)) (body_of (client_bytes p)) ≡ p
    back = parsed p f (judged_read p q e).0

    go : Checks relay_takes (client_bytes p) (packet (from_client (kind_of (client_bytes p)) (body_of (client_bytes p)))) → (q ≡ p) × (relay_read (client_bytes p) ≡ packet p)
    go (pass t) =
        let r = relay_takes_lem (client_bytes p) t in
        let s = (judged_read p q e).1 in
        ((let z : packet q ≡ packet (from_client (kind_of (client_bytes p)) (body_of (client_bytes p))) = sym s ∙ r in cc) ∙ back, r ∙ ap packet back)
    go (fail why r) = absurd (never_both (relay_read (client_bytes p)) q why (judged_read p q e).1 r)

-- so a packet that the writer takes has at most 2,032 bytes
pub client_judged_size : (p q : FromClient) → client_judged p ≡ packet q → length (client_bytes p) ≤ 2032
unfolding relay_read
client_judged_size p q e = go (checks relay_takes (client_bytes p) (packet (from_client (kind_of (client_bytes p)) (body_of (client_bytes p)))))
  where
    go : Checks relay_takes (client_bytes p) (packet (from_client (kind_of (client_bytes p)) (body_of (client_bytes p)))) → length (client_bytes p) ≤ 2032
    go (pass t) = (size_bounds (length (client_bytes p)) t.size).1
    go (fail why r) = absurd (never_both (relay_read (client_bytes p)) q why (judged_read p q e).1 r)

-- ---- what was read is written

module _ (bytes : List ℕ) (taken : Passes relay_takes bytes) (are : Bytes bytes) where
  split : bytes ≡ kind_of bytes ∷ body_of bytes
  split = kind_and_body bytes (size_bounds (length bytes) taken.size).0

  body_are : Bytes (body_of bytes)
  unfolding body_of
  body_are = bytes_drop 1 bytes are

  -- a row's bytes are the kind, then the rest
  row : (k : ℕ) (rest : List ℕ) → kind_of bytes ≡ k → rest ≡ body_of bytes → k ∷ rest ≡ bytes
  row k rest e r = ap₂ (λ (x : ℕ) (l : List ℕ). x ∷ l) (sym e) r ∙ sym split

  written : RelayKind (kind_of bytes) → client_bytes (from_client (kind_of bytes) (body_of bytes)) ≡ bytes
  unfolding from_client client_bytes
  written (is_request e) =
      let h = length_request (kind_of bytes) (length bytes) taken.long e in
      let l = length_body bytes in
      ap (λ (k : ℕ). client_bytes (from_client k (body_of bytes))) e ∙ row 0 (take 32 (body_of bytes)) e (take_all 32 (body_of bytes) (omega arith))
  written (is_drop e) =
      let h = length_disconnect (kind_of bytes) (length bytes) taken.long e in
      let l = length_body bytes in
      ap (λ (k : ℕ). client_bytes (from_client k (body_of bytes))) e ∙ row 3 (get_or (body_of bytes) 0 0 ∷ []) e (sym (one_byte (body_of bytes) (omega arith)))
  written (is_ping e) =
      let h = length_ping (kind_of bytes) (length bytes) taken.long e in
      let l = length_body bytes in
      ap (λ (k : ℕ). client_bytes (from_client k (body_of bytes))) e ∙ row 4 _ e (word_bytes (body_of bytes) (omega arith) body_are)
  written (is_pong e) =
      let h = length_pong (kind_of bytes) (length bytes) taken.long e in
      let l = length_body bytes in
      ap (λ (k : ℕ). client_bytes (from_client k (body_of bytes))) e ∙ row 5 _ e (word_bytes (body_of bytes) (omega arith) body_are)
  written (is_oob e) = ap (λ (k : ℕ). client_bytes (from_client k (body_of bytes))) e ∙ row 6 _ e (take-append-drop 32 (body_of bytes))
  written (is_data h) = ap client_bytes (from_client_data (kind_of bytes) (body_of bytes) h) ∙ sym split

  fits : RelayKind (kind_of bytes) → FitsClient (from_client (kind_of bytes) (body_of bytes))
  unfolding from_client FitsClient
  fits (is_request e) =
      let h = length_request (kind_of bytes) (length bytes) taken.long e in
      let l = length_body bytes in
      rw e (record { long = length-take-le 32 (body_of bytes) (omega arith); bytes = bytes_take 32 (body_of bytes) body_are })
  fits (is_drop e) = rw e (bytes_get_d 0 (body_of bytes) body_are)
  fits (is_ping e) =
      let h = length_ping (kind_of bytes) (length bytes) taken.long e in
      let l = length_body bytes in
      rw e (word_fits (body_of bytes) (omega arith) body_are)
  fits (is_pong e) =
      let h = length_pong (kind_of bytes) (length bytes) taken.long e in
      let l = length_body bytes in
      rw e (word_fits (body_of bytes) (omega arith) body_are)
  fits (is_oob e) =
      let h = length_oob_send (kind_of bytes) (length bytes) taken.long e in
      let l = length_body bytes in
      rw e
      (record { long = length-take-le 32 (body_of bytes) (omega arith); bytes = bytes_take 32 (body_of bytes) body_are }, bytes_drop 32 (body_of bytes) body_are)
  fits (is_data h) = rw (from_client_data (kind_of bytes) (body_of bytes) h) (kind_byte bytes are, body_are)

-- a packet that is read is one that the writer takes
read_judged : (p : FromClient) → High p → relay_read (client_bytes p) ≡ packet p → (n : ℕ) → length (client_bytes p) ≡ n → size_right n ≡ true → client_judged p ≡ packet p
unfolding client_judged data_number client_bytes check
read_judged (routing_request key) h e n l s = e
read_judged (drop_route number) h e n l s = e
read_judged (ping m) h e n l s = e
read_judged (pong m) h e n l s = e
read_judged (oob_send key bytes) h e n l s = e
read_judged (routed_data number bytes) h e n l s = rw (ap size_right l ∙ s, le-leb 16 number h) e

high : (bytes : List ℕ) → RelayKind (kind_of bytes) → High (from_client (kind_of bytes) (body_of bytes))
unfolding from_client
high bytes (is_request e) = rw e tt
high bytes (is_drop e) = rw e tt
high bytes (is_ping e) = rw e tt
high bytes (is_pong e) = rw e tt
high bytes (is_oob e) = rw e tt
high bytes (is_data h) = rw (from_client_data (kind_of bytes) (body_of bytes) h) h

-- writing what was read gives the bytes back
pub client_writes_read : (bytes : List ℕ) (p : FromClient) → Bytes bytes → relay_read bytes ≡ packet p → ClientMakes p bytes
unfolding relay_read
client_writes_read bytes p are e = go (checks relay_takes bytes (packet (from_client (kind_of bytes) (body_of bytes))))
  where
    made : Passes relay_takes bytes → RelayKind (kind_of bytes) → ClientMakes (from_client (kind_of bytes) (body_of bytes)) bytes
    made t k =
        let w = written bytes t are k in
        record {
          fits = fits bytes t are k;
          taken = read_judged (from_client (kind_of bytes) (body_of bytes)) (high bytes k) (ap relay_read w ∙ relay_takes_lem bytes t) (length bytes) (ap length w) t.size;
          makes = w;
        }

    go : Checks relay_takes bytes (packet (from_client (kind_of bytes) (body_of bytes))) → ClientMakes p bytes
    go (pass t) =
        let z : packet (from_client (kind_of bytes) (body_of bytes)) ≡ packet p = sym (relay_takes_lem bytes t) ∙ e in
        let q : from_client (kind_of bytes) (body_of bytes) ≡ p = cc in
        rw q at (made t (relay_kind (kind_of bytes) t.kind))
    go (fail why r) = absurd (never_both (relay_read bytes) p why e r)

-- ---- a reader refuses exactly what no writer makes

pub relay_refuses_unwritten : (bytes : List ℕ) (why : Refusal) → relay_read bytes ≡ refused why → (p : FromClient) → ClientMakes p bytes → ⊥
relay_refuses_unwritten bytes why e p m =
    never_both (relay_read bytes) p why (ap relay_read (sym m.makes) ∙ (relay_reads_written p p m.fits m.taken).1) e

pub unwritten_relay_refuses : (bytes : List ℕ) → Bytes bytes → ((p : FromClient) → ClientMakes p bytes → ⊥) → (why : Refusal) × (relay_read bytes ≡ refused why)
unwritten_relay_refuses bytes are none = go (relay_read bytes) refl
  where
    go : (r : Read FromClient) → relay_read bytes ≡ r → (why : Refusal) × (relay_read bytes ≡ refused why)
    go (packet p) e = absurd (none p (client_writes_read bytes p are e))
    go (refused why) e = (why, e)

-- From the relay to a client. For every packet that the relay's writer takes, reading what was written gives the packet back. For all bytes
-- that the client's reader takes, writing what was read gives the bytes back. The client's reader refuses exactly what no writer of the relay
-- makes. Assumes nothing.
use mathlib.Core.Path.{◌≡◌, ◌∙◌, refl, sym, ap, ap₂}
use mathlib.Core.Bool.{true}
use mathlib.Core.List.{List, [], ◌∷◌}
use Prim.Native.Nat.{ℕ, ◌≤◌}
use native.Mathlib.Omega.{arith}
use lib.Dec.{leb}
use lib.ListN.{length, get_or, take, drop, length-drop, take-append-drop}
use lib.Seq.{take_all, take_at, drop_at, length-take-le, drop-cons}
use borrow.Author.Tests.{leb-true, le-leb}
use Rattle.refusal.specs.declared.Refusal.{Refusal}
use Rattle.wire.specs.Numbers.{Bytes}
use Rattle.wire.proofs.Numbers.{bytes_take, bytes_drop, bytes_get_d}
use Rattle.packet_laws.specs.Read.{Read, packet, refused, check}
use Rattle.packet_laws.specs.Table.{kind_of, body_of, size_right, client_takes}
use Rattle.packet_laws.specs.FromRelay.{FromRelay, routing_response, connect_notice, disconnect_notice, ping, pong, oob_received, routed_data, relay_bytes, from_relay, client_read, FitsRelay}
use Rattle.packet_laws.specs.Judged.{relay_judged, data_number, RelayMakes}
use Rattle.packet_laws.proofs.KindLaws.{from_relay_data, size_bounds, length_response, length_connect, length_disconnect, length_ping, length_pong, length_oob_received}
use Rattle.packet_laws.proofs.CheckLaws.{Passes, check_taken, never_both}
use Rattle.packet_laws.proofs.ByteLaws.{kind_and_body, length_body, one_byte, word_bytes, word_number, word_fits, kind_byte}
use Rattle.packet_laws.proofs.ClientKinds.{ClientKind, is_response, is_connect, is_disconnect, is_ping, is_pong, is_oob, is_data, client_kind, ClientPasses, ClientChecks, taken, turned, client_checks, client_takes_lem}

-- ---- what was written is read

-- a data number is 16 or more
abbrev High : FromRelay → Type 0
High (routing_response number key) = Unit {0}
High (connect_notice number) = Unit {0}
High (disconnect_notice number) = Unit {0}
High (ping n) = Unit {0}
High (pong n) = Unit {0}
High (oob_received key bytes) = Unit {0}
High (routed_data number bytes) = 16 ≤ number

-- the table's third column read undoes the column written
parsed : (p : FromRelay) → FitsRelay p → High p → from_relay (kind_of (relay_bytes p)) (body_of (relay_bytes p)) ≡ p
unfolding from_relay relay_bytes kind_of body_of FitsRelay
parsed (routing_response number key) f h = ap (routing_response number) (take_all 32 key (let l = f.1.long in omega arith))
parsed (connect_notice number) f h = refl
parsed (disconnect_notice number) f h = refl
parsed (ping n) f h = ap ping (word_number n f)
parsed (pong n) f h = ap pong (word_number n f)
parsed (oob_received key bytes) f h = ap₂ oob_received (take_at key bytes 32 f.0.long) (drop_at key bytes 32 f.0.long)
parsed (routed_data number bytes) f h = from_relay_data number bytes h

-- what the writer's judgement says beyond the reader's
judged_read : (p q : FromRelay) → relay_judged p ≡ packet q → High p × (client_read (relay_bytes p) ≡ packet q)
unfolding relay_judged data_number
judged_read (routing_response number key) q e = (tt, e)
judged_read (connect_notice number) q e = (tt, e)
judged_read (disconnect_notice number) q e = (tt, e)
judged_read (ping n) q e = (tt, e)
judged_read (pong n) q e = (tt, e)
judged_read (oob_received key bytes) q e = (tt, e)
judged_read (routed_data number bytes) q e =
    let a = check_taken (size_right (length (number ∷ bytes))) _ _ q e in
    let b = check_taken (leb 16 number) _ _ q a.1 in
    (leb-true 16 number b.0, b.1)

-- reading what was written gives the packet back
pub client_reads_written : (p q : FromRelay) → FitsRelay p → relay_judged p ≡ packet q → (q ≡ p) × (client_read (relay_bytes p) ≡ packet p)
client_reads_written p q f e = go (client_checks (relay_bytes p))
  where
    back : from_relay (kind_of (relay_bytes p)) (body_of (relay_bytes p)) ≡ p
    back = parsed p f (judged_read p q e).0

    go : ClientChecks (relay_bytes p) → (q ≡ p) × (client_read (relay_bytes p) ≡ packet p)
    go (taken t) =
        let r = client_takes_lem (relay_bytes p) t in
        let s = (judged_read p q e).1 in
        ((let z : packet q ≡ packet (from_relay (kind_of (relay_bytes p)) (body_of (relay_bytes p))) = sym s ∙ r in cc) ∙ back, r ∙ ap packet back)
    go (turned why r) = absurd (never_both (client_read (relay_bytes p)) q why (judged_read p q e).1 r)

-- so a packet that the writer takes has at most 2,032 bytes
pub relay_judged_size : (p q : FromRelay) → relay_judged p ≡ packet q → length (relay_bytes p) ≤ 2032
relay_judged_size p q e = go (client_checks (relay_bytes p))
  where
    go : ClientChecks (relay_bytes p) → length (relay_bytes p) ≤ 2032
    go (taken t) = (size_bounds (length (relay_bytes p)) t.both.size).1
    go (turned why r) = absurd (never_both (client_read (relay_bytes p)) q why (judged_read p q e).1 r)

-- ---- what was read is written

module _ (bytes : List ℕ) (both : Passes client_takes bytes) (are : Bytes bytes) where
  split : bytes ≡ kind_of bytes ∷ body_of bytes
  split = kind_and_body bytes (size_bounds (length bytes) both.size).0

  body_are : Bytes (body_of bytes)
  unfolding body_of
  body_are = bytes_drop 1 bytes are

  -- a row's bytes are the kind, then the rest
  row : (k : ℕ) (rest : List ℕ) → kind_of bytes ≡ k → rest ≡ body_of bytes → k ∷ rest ≡ bytes
  row k rest e r = ap₂ (λ (x : ℕ) (l : List ℕ). x ∷ l) (sym e) r ∙ sym split

  -- the bytes after a kind: a number, then a key
  number_and_key : length (body_of bytes) ≡ 33 → get_or (body_of bytes) 0 0 ∷ take 32 (drop 1 (body_of bytes)) ≡ body_of bytes
  number_and_key l =
      let m = length-drop 1 (body_of bytes) in
      ap (λ (k : List ℕ). get_or (body_of bytes) 0 0 ∷ k) (take_all 32 (drop 1 (body_of bytes)) (omega arith)) ∙ sym (drop-cons (body_of bytes) 0 0 (omega arith))

  written : ClientKind (kind_of bytes) → relay_bytes (from_relay (kind_of bytes) (body_of bytes)) ≡ bytes
  unfolding from_relay relay_bytes
  written (is_response e) =
      let h = length_response (kind_of bytes) (length bytes) both.long e in
      let l = length_body bytes in
      ap (λ (k : ℕ). relay_bytes (from_relay k (body_of bytes))) e ∙ row 1 _ e (number_and_key (omega arith))
  written (is_connect e) =
      let h = length_connect (kind_of bytes) (length bytes) both.long e in
      let l = length_body bytes in
      ap (λ (k : ℕ). relay_bytes (from_relay k (body_of bytes))) e ∙ row 2 (get_or (body_of bytes) 0 0 ∷ []) e (sym (one_byte (body_of bytes) (omega arith)))
  written (is_disconnect e) =
      let h = length_disconnect (kind_of bytes) (length bytes) both.long e in
      let l = length_body bytes in
      ap (λ (k : ℕ). relay_bytes (from_relay k (body_of bytes))) e ∙ row 3 (get_or (body_of bytes) 0 0 ∷ []) e (sym (one_byte (body_of bytes) (omega arith)))
  written (is_ping e) =
      let h = length_ping (kind_of bytes) (length bytes) both.long e in
      let l = length_body bytes in
      ap (λ (k : ℕ). relay_bytes (from_relay k (body_of bytes))) e ∙ row 4 _ e (word_bytes (body_of bytes) (omega arith) body_are)
  written (is_pong e) =
      let h = length_pong (kind_of bytes) (length bytes) both.long e in
      let l = length_body bytes in
      ap (λ (k : ℕ). relay_bytes (from_relay k (body_of bytes))) e ∙ row 5 _ e (word_bytes (body_of bytes) (omega arith) body_are)
  written (is_oob e) = ap (λ (k : ℕ). relay_bytes (from_relay k (body_of bytes))) e ∙ row 7 _ e (take-append-drop 32 (body_of bytes))
  written (is_data h) = ap relay_bytes (from_relay_data (kind_of bytes) (body_of bytes) h) ∙ sym split

  fits : ClientKind (kind_of bytes) → FitsRelay (from_relay (kind_of bytes) (body_of bytes))
  unfolding from_relay FitsRelay
  fits (is_response e) =
      let h = length_response (kind_of bytes) (length bytes) both.long e in
      let l = length_body bytes in
      let m = length-drop 1 (body_of bytes) in
      rw e
      (bytes_get_d 0 (body_of bytes) body_are, record { long = length-take-le 32 (drop 1 (body_of bytes)) (omega arith); bytes = bytes_take 32 (drop 1 (body_of bytes)) (bytes_drop 1 (body_of bytes) body_are) })
  fits (is_connect e) = rw e (bytes_get_d 0 (body_of bytes) body_are)
  fits (is_disconnect e) = rw e (bytes_get_d 0 (body_of bytes) body_are)
  fits (is_ping e) =
      let h = length_ping (kind_of bytes) (length bytes) both.long e in
      let l = length_body bytes in
      rw e (word_fits (body_of bytes) (omega arith) body_are)
  fits (is_pong e) =
      let h = length_pong (kind_of bytes) (length bytes) both.long e in
      let l = length_body bytes in
      rw e (word_fits (body_of bytes) (omega arith) body_are)
  fits (is_oob e) =
      let h = length_oob_received (kind_of bytes) (length bytes) both.long e in
      let l = length_body bytes in
      rw e
      (record { long = length-take-le 32 (body_of bytes) (omega arith); bytes = bytes_take 32 (body_of bytes) body_are }, bytes_drop 32 (body_of bytes) body_are)
  fits (is_data h) = rw (from_relay_data (kind_of bytes) (body_of bytes) h) (kind_byte bytes are, body_are)

-- a packet that is read is one that the writer takes
read_judged : (p : FromRelay) → High p → client_read (relay_bytes p) ≡ packet p → (n : ℕ) → length (relay_bytes p) ≡ n → size_right n ≡ true → relay_judged p ≡ packet p
unfolding relay_judged data_number relay_bytes check
read_judged (routing_response number key) h e n l s = e
read_judged (connect_notice number) h e n l s = e
read_judged (disconnect_notice number) h e n l s = e
read_judged (ping m) h e n l s = e
read_judged (pong m) h e n l s = e
read_judged (oob_received key bytes) h e n l s = e
read_judged (routed_data number bytes) h e n l s = rw (ap size_right l ∙ s, le-leb 16 number h) e

high : (bytes : List ℕ) → ClientKind (kind_of bytes) → High (from_relay (kind_of bytes) (body_of bytes))
unfolding from_relay
high bytes (is_response e) = rw e tt
high bytes (is_connect e) = rw e tt
high bytes (is_disconnect e) = rw e tt
high bytes (is_ping e) = rw e tt
high bytes (is_pong e) = rw e tt
high bytes (is_oob e) = rw e tt
high bytes (is_data h) = rw (from_relay_data (kind_of bytes) (body_of bytes) h) h

-- writing what was read gives the bytes back
pub relay_writes_read : (bytes : List ℕ) (p : FromRelay) → Bytes bytes → client_read bytes ≡ packet p → RelayMakes p bytes
relay_writes_read bytes p are e = go (client_checks bytes)
  where
    made : ClientPasses bytes → ClientKind (kind_of bytes) → RelayMakes (from_relay (kind_of bytes) (body_of bytes)) bytes
    made t k =
        let w = written bytes t.both are k in
        record {
          fits = fits bytes t.both are k;
          taken = read_judged (from_relay (kind_of bytes) (body_of bytes)) (high bytes k) (ap client_read w ∙ client_takes_lem bytes t) (length bytes) (ap length w) t.both.size;
          makes = w;
        }

    go : ClientChecks bytes → RelayMakes p bytes
    go (taken t) =
        let z : packet (from_relay (kind_of bytes) (body_of bytes)) ≡ packet p = sym (client_takes_lem bytes t) ∙ e in
        let q : from_relay (kind_of bytes) (body_of bytes) ≡ p = cc in
        rw q at (made t (client_kind (kind_of bytes) t.both.kind))
    go (turned why r) = absurd (never_both (client_read bytes) p why e r)

-- ---- a reader refuses exactly what no writer makes

pub client_refuses_unwritten : (bytes : List ℕ) (why : Refusal) → client_read bytes ≡ refused why → (p : FromRelay) → RelayMakes p bytes → ⊥
client_refuses_unwritten bytes why e p m =
    never_both (client_read bytes) p why (ap client_read (sym m.makes) ∙ (client_reads_written p p m.fits m.taken).1) e

pub unwritten_client_refuses : (bytes : List ℕ) → Bytes bytes → ((p : FromRelay) → RelayMakes p bytes → ⊥) → (why : Refusal) × (client_read bytes ≡ refused why)
unwritten_client_refuses bytes are none = go (client_read bytes) refl
  where
    go : (r : Read FromRelay) → client_read bytes ≡ r → (why : Refusal) × (client_read bytes ≡ refused why)
    go (packet p) e = absurd (none p (relay_writes_read bytes p are e))
    go (refused why) e = (why, e)

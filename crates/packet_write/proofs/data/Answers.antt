-- `packet_write::data` meets its contract: the number, then the bytes, then what stood behind them; judged as both ends judge it. Assumes nothing.
use mathlib.Core.Path.{◌≡◌, ◌∙◌, sym}
use mathlib.Core.List.{List, ◌∷◌}
use Prim.Native.Nat.{ℕ, ◌+◌, ◌<◌, ◌≤◌}
use native.Mathlib.Omega.{arith}
use borrow.Author.Tests.{eqb-true, eqb-false}
use lib.ListN.{length}
use mathlib.Core.Bool.{true}
use Rattle.wire.specs.Numbers.{Bytes}
use Rattle.wire.proofs.Numbers.{bytes_each}
use Rattle.refusal.specs.declared.Refusal.{Refusal}
use Rattle.std.specs.Prelude.{Result, Err}
use Rattle.packet_laws.specs.Read.{refused}
use Rattle.packet_laws.specs.Table.{size_right}
use Rattle.packet_laws.specs.FromClient as client
use Rattle.packet_laws.specs.FromRelay as relay
use Rattle.packet_laws.specs.Judged.{client_judged, relay_judged}
use Rattle.packet_write.specs.Written.{Puts, DataWrites}
use Rattle.packet_write.proofs.WriteLaws.{accepted_writes, refused_writes}
use Rattle.packet_laws.proofs.Judged.{client_data_judged, client_data_size, client_data_number, client_data_length, relay_data_judged, relay_data_size, relay_data_number, relay_data_length}
use Rattle.packet_write.proofs.data.Goals as goal

-- both ends take the packet, and it is put; or both refuse it alike
put : (number : ℕ) (bytes out : List ℕ) (answer : Result ℕ Refusal) (left : List ℕ) → number < 256 → Bytes bytes → size_right (1 + length bytes) ≡ true → 16 ≤ number → 1 ≤ length bytes
    → Puts (number ∷ bytes) out answer left → DataWrites number bytes out left answer
unfolding client.client_bytes relay.relay_bytes client.FitsClient relay.FitsRelay
put number bytes out answer left small are s h l p = record {
  as_client = record { fits = (small, are); writes = accepted_writes (client_judged (client.routed_data number bytes)) (number ∷ bytes) out _ answer left (client_data_judged number bytes s h l) p };
  as_relay = record { fits = (small, are); writes = accepted_writes (relay_judged (relay.routed_data number bytes)) (number ∷ bytes) out _ answer left (relay_data_judged number bytes s h l) p };
}

refuse : (number : ℕ) (bytes out : List ℕ) (why : Refusal) → number < 256 → Bytes bytes → client_judged (client.routed_data number bytes) ≡ refused why
    → relay_judged (relay.routed_data number bytes) ≡ refused why → DataWrites number bytes out out (Err why)
unfolding client.client_bytes relay.relay_bytes client.FitsClient relay.FitsRelay
refuse number bytes out why small are p q = record {
  as_client = record { fits = (small, are); writes = refused_writes (client_judged (client.routed_data number bytes)) (number ∷ bytes) out why p };
  as_relay = record { fits = (small, are); writes = refused_writes (relay_judged (relay.routed_data number bytes)) (number ∷ bytes) out why q };
}

pub returns-then-not-size_right : goal.returns-then-not-size_right
returns-then-not-size_right c =
    let a = c.args in
    let s = sym c.size_right.ensures ∙ c.if-not-size_right.true in
    refuse a.number.0 a.«data».now a.out.now _
    c.well_formed.0.1.1.0.1 (bytes_each a.«data».now (λ i. (c.type_inv.data i).fits))
    (client_data_size a.number.0 a.«data».now s) (relay_data_size a.number.0 a.«data».now s)

pub returns-then-number-lt-FIRST : goal.returns-then-number-lt-FIRST
returns-then-number-lt-FIRST c =
    let a = c.args in
    let s = (sym c.size_right.ensures ∙ c.if-not-size_right.false) in
    refuse a.number.0 a.«data».now a.out.now _
    c.well_formed.0.1.1.0.1 (bytes_each a.«data».now (λ i. (c.type_inv.data i).fits))
    (client_data_number a.number.0 a.«data».now s c.if-number-lt-FIRST.true) (relay_data_number a.number.0 a.«data».now s c.if-number-lt-FIRST.true)

pub returns-then-is_empty : goal.returns-then-is_empty
returns-then-is_empty c =
    let a = c.args in
    let s = (sym c.size_right.ensures ∙ c.if-not-size_right.false) in
    let h = c.if-number-lt-FIRST.false in
    refuse a.number.0 a.«data».now a.out.now _
    c.well_formed.0.1.1.0.1 (bytes_each a.«data».now (λ i. (c.type_inv.data i).fits))
    (client_data_length a.number.0 a.«data».now s h (eqb-true _ _ (sym c.is_empty.ensures ∙ c.if-is_empty.true))) (relay_data_length a.number.0 a.«data».now s h (eqb-true _ _ (sym c.is_empty.ensures ∙ c.if-is_empty.true)))

pub returns : goal.returns
returns c =
    let a = c.args in
    put a.number.0 a.«data».now a.out.now _ _
    c.well_formed.0.1.1.0.1 (bytes_each a.«data».now (λ i. (c.type_inv.data i).fits))
    (sym c.size_right.ensures ∙ c.if-not-size_right.false) c.if-number-lt-FIRST.false (let e = eqb-false _ _ (sym c.is_empty.ensures ∙ c.if-is_empty.false) in omega arith) c.put.ensures

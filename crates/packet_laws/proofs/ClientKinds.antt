-- Which kinds the client takes, its checks, and what it reads of a packet that passes them. Assumes nothing.
use mathlib.Core.Path.{◌≡◌, ◌∙◌, refl}
use mathlib.Core.Bool.{Bool, true, false}
use mathlib.Core.List.{List}
use mathlib.Core.Logic.{⊎_elim}
use Prim.Native.Nat.{ℕ, ◌≤◌}
use lib.Dec.{eqb, leb}
use lib.ListN.{get_or}
use borrow.Author.Tests.{eqb-true, leb-true}
use Rattle.refusal.specs.declared.Refusal.{Refusal}
use Rattle.refusal.specs.declared.Refusal.TheVariants.{NoSuchRoute}
use Rattle.packet_laws.specs.Read.{Read, packet, refused, check}
use Rattle.packet_laws.specs.Table.{kind_of, body_of, client_takes, number_right}
use Rattle.packet_laws.specs.FromRelay.{FromRelay, from_relay, client_read}
use Rattle.packet_laws.proofs.KindLaws.{or-true}
use Rattle.packet_laws.proofs.CheckLaws.{Passes, passes, Checks, pass, fail, checks}

-- ---- the kinds that the client takes

pub data ClientKind (k : ℕ) : Type 0 where
  is_response : k ≡ 1 → ClientKind k
  is_connect : k ≡ 2 → ClientKind k
  is_disconnect : k ≡ 3 → ClientKind k
  is_ping : k ≡ 4 → ClientKind k
  is_pong : k ≡ 5 → ClientKind k
  is_oob : k ≡ 7 → ClientKind k
  is_data : 16 ≤ k → ClientKind k

pub client_kind : (k : ℕ) → client_takes k ≡ true → ClientKind k
unfolding client_takes
client_kind k h =
    ⊎_elim (λ (e : eqb k 1 ≡ true). is_response (eqb-true k 1 e)) (λ (r : _ ≡ true).
    ⊎_elim (λ (e : eqb k 2 ≡ true). is_connect (eqb-true k 2 e)) (λ (r : _ ≡ true).
    ⊎_elim (λ (e : eqb k 3 ≡ true). is_disconnect (eqb-true k 3 e)) (λ (r : _ ≡ true).
    ⊎_elim (λ (e : eqb k 4 ≡ true). is_ping (eqb-true k 4 e)) (λ (r : _ ≡ true).
    ⊎_elim (λ (e : eqb k 5 ≡ true). is_pong (eqb-true k 5 e)) (λ (r : _ ≡ true).
    ⊎_elim (λ (e : eqb k 7 ≡ true). is_oob (eqb-true k 7 e)) (λ (r : leb 16 k ≡ true). is_data (leb-true 16 k r))
    (or-true _ _ r)) (or-true _ _ r)) (or-true _ _ r)) (or-true _ _ r)) (or-true _ _ r)) (or-true _ _ h)

-- ---- the checks of the client: those of both ends, then 8

pub record ClientPasses (bytes : List ℕ) : Type 0 where
  pub both : Passes client_takes bytes
  pub number : number_right (kind_of bytes) (get_or bytes 1 0) ≡ true

pub client_fails_number : (bytes : List ℕ) → Passes client_takes bytes → number_right (kind_of bytes) (get_or bytes 1 0) ≡ false → client_read bytes ≡ refused NoSuchRoute
unfolding client_read check
client_fails_number bytes both e = passes client_takes bytes _ both ∙ rw e

pub client_takes_lem : (bytes : List ℕ) → ClientPasses bytes → client_read bytes ≡ packet (from_relay (kind_of bytes) (body_of bytes))
unfolding client_read check
client_takes_lem bytes passed = passes client_takes bytes _ passed.both ∙ rw passed.number

pub data ClientChecks (bytes : List ℕ) : Type 0 where
  taken : ClientPasses bytes → ClientChecks bytes
  turned : (why : Refusal) → client_read bytes ≡ refused why → ClientChecks bytes

at_number : (bytes : List ℕ) → Passes client_takes bytes → (t : Bool) → number_right (kind_of bytes) (get_or bytes 1 0) ≡ t → ClientChecks bytes
at_number bytes both true e = taken (record { both = both; number = e })
at_number bytes both false e = turned NoSuchRoute (client_fails_number bytes both e)

abbrev after : List ℕ → Read FromRelay
after bytes = check (number_right (kind_of bytes) (get_or bytes 1 0)) NoSuchRoute (packet (from_relay (kind_of bytes) (body_of bytes)))

at_both : (bytes : List ℕ) → Checks client_takes bytes (after bytes) → ClientChecks bytes
unfolding client_read
at_both bytes (pass both) = at_number bytes both (number_right (kind_of bytes) (get_or bytes 1 0)) refl
at_both bytes (fail why e) = turned why e

pub client_checks : (bytes : List ℕ) → ClientChecks bytes
client_checks bytes = at_both bytes (checks client_takes bytes (after bytes))

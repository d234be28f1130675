-- Which parts are the form of a call, case by case, and what the call at the front of bytes is where all its bytes are there. Assumes nothing.
use mathlib.Core.Path.{◌≡◌, ◌∙◌, sym, ap}
use mathlib.Core.List.{List, []}
use Prim.Native.Nat.{ℕ, ◌+◌, ◌≤◌}
use native.Mathlib.Omega.{arith}
use lib.ListN.{length, get_or, take, drop, length-append}
use borrow.Author.Tests.{le-leb, eq-eqb, ne_eqb}
use Rattle.wire.specs.Numbers.{number_of, bytes_of}
use Rattle.wire.proofs.Numbers.{length_bytes_of}
use Rattle.rules.specs.Call.{arrive, leave, packet_call}
use Rattle.stored.specs.Stored.{stored_form, stored_bytes, call, none, formed, headed, first_call}

-- ---- how many bytes a stored call has

pub length_form : (code seat : ℕ) (given : List ℕ) → length (stored_form code seat given) ≡ 4 + length given
unfolding stored_form
length_form code seat given =
    let e = length-append (bytes_of 2 (length given)) given in
    let f = length_bytes_of 2 (length given) in
    omega arith

pub length_arrive : (key : List ℕ) → length (stored_bytes (arrive key)) ≡ 4 + length key
unfolding stored_bytes
length_arrive key = length_form 0 0 key

pub length_leave : (seat : ℕ) (given : List ℕ) → length given ≡ 0 → length (stored_bytes (leave seat)) ≡ 4 + length given
unfolding stored_bytes
length_leave seat given e = length_form 1 seat [] ∙ ap (λ (n : ℕ). 4 + n) (sym e)

pub length_packet : (seat : ℕ) (bytes : List ℕ) → length (stored_bytes (packet_call seat bytes)) ≡ 4 + length bytes
unfolding stored_bytes
length_packet seat bytes = length_form 2 seat bytes

-- what `formed` needs of them
pub ruleset lengths = (length_arrive, length_leave, length_packet)

-- ---- the form

module _ (code seat : ℕ) (given : List ℕ) where
  pub arrival : code ≡ 0 → seat ≡ 0 → length given ≡ 32 → formed code seat given ≡ call (arrive given)
  unfolding formed
  arrival c s l = simp (eq-eqb code 0 c, eq-eqb seat 0 s, eq-eqb (length given) 32 l)

  pub departure : code ≡ 1 → length given ≡ 0 → formed code seat given ≡ call (leave seat)
  unfolding formed
  departure c l = rw c (simp (eq-eqb (length given) 0 l))

  pub packet_sent : code ≡ 2 → formed code seat given ≡ call (packet_call seat given)
  unfolding formed
  packet_sent c = rw c

  -- "no other form is one"
  pub arrival_seated : code ≡ 0 → (seat ≡ 0 → ⊥) → formed code seat given ≡ none
  unfolding formed
  arrival_seated c s = simp (eq-eqb code 0 c, ne_eqb seat 0 s)

  pub arrival_no_key : code ≡ 0 → seat ≡ 0 → (length given ≡ 32 → ⊥) → formed code seat given ≡ none
  unfolding formed
  arrival_no_key c s l = simp (eq-eqb code 0 c, eq-eqb seat 0 s, ne_eqb (length given) 32 l)

  pub departure_given : code ≡ 1 → (length given ≡ 0 → ⊥) → formed code seat given ≡ none
  unfolding formed
  departure_given c l = rw c (simp (ne_eqb (length given) 0 l))

  pub no_form : (code ≡ 0 → ⊥) → (code ≡ 1 → ⊥) → (code ≡ 2 → ⊥) → formed code seat given ≡ none
  unfolding formed
  no_form a b c = simp (ne_eqb code 0 a, ne_eqb code 1 b, ne_eqb code 2 c)

-- ---- the front of bytes

pub all_there : (bytes : List ℕ) → 4 ≤ length bytes → number_of (take 2 (drop 2 bytes)) ≤ length (drop 4 bytes)
    → first_call bytes ≡ formed (get_or bytes 0 0) (get_or bytes 1 0) (take (number_of (take 2 (drop 2 bytes))) (drop 4 bytes))
unfolding first_call headed
all_there bytes long h = simp (le-leb 4 (length bytes) long, le-leb (number_of (take 2 (drop 2 bytes))) (length (drop 4 bytes)) h)

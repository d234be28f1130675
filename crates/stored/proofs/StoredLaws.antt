-- What is known of the stored call at the front of bytes: its parts are the bytes there, and as many of them as its stored form has. Assumes nothing.
use mathlib.Core.Path.{◌≡◌, refl, ap, subst, ◌∙◌}
use mathlib.Core.Bool.{Bool, true, false, cond}
use mathlib.Core.List.{List}
use Prim.Native.Nat.{ℕ, ◌+◌, ◌≤◌}
use native.Mathlib.Omega.{arith}
use lib.Dec.{eqb, leb}
use lib.ListN.{length, get_or, take, drop, length-drop}
use lib.Seq.{length-take-le}
use borrow.Author.Tests.{leb-true, eqb-true}
use Rattle.wire.specs.Numbers.{number_of}
use Rattle.rules.specs.Call.{Call, arrive, leave, packet_call}
use Rattle.stored.specs.Stored.{stored_bytes, First, none, call, formed, headed, first_call}
use Rattle.stored.proofs.FormLaws.{length_arrive, length_leave, length_packet}

-- ---- the form, read back

pub data Formed (code seat : ℕ) (given : List ℕ) : Call → Type 0 where
  arrives : code ≡ 0 → seat ≡ 0 → length given ≡ 32 → Formed code seat given (arrive given)
  leaves : code ≡ 1 → length given ≡ 0 → Formed code seat given (leave seat)
  sends : code ≡ 2 → Formed code seat given (packet_call seat given)

-- a test that had to be passed
passed : (t : Bool) (x : First) (c : Call) → cond t x none ≡ call c → (t ≡ true) × (x ≡ call c)
passed true x c e = (refl, e)
passed false x c e = let z : none ≡ call c = e in (cc, cc)

pub same_call : (c d : Call) → call c ≡ call d → c ≡ d
same_call c d e = cc

pub formed_is : (code seat : ℕ) (given : List ℕ) (c : Call) → formed code seat given ≡ call c → Formed code seat given c
unfolding formed
formed_is code seat given c e = code_0 (eqb code 0) refl e
  where
    packet_or_none : First
    packet_or_none = cond (eqb code 2) (call (packet_call seat given)) none

    leave_or_none : First
    leave_or_none = cond (eqb (length given) 0) (call (leave seat)) none

    arrive_or_none : First
    arrive_or_none = cond (eqb seat 0) (cond (eqb (length given) 32) (call (arrive given)) none) none

    code_2 : packet_or_none ≡ call c → Formed code seat given c
    code_2 e =
        let p = passed (eqb code 2) (call (packet_call seat given)) c e in
        subst (Formed code seat given) (same_call (packet_call seat given) c p.1) (sends (eqb-true code 2 p.0))

    code_1 : (t : Bool) → eqb code 1 ≡ t → cond t leave_or_none packet_or_none ≡ call c → Formed code seat given c
    code_1 false q e = code_2 e
    code_1 true q e =
        let p = passed (eqb (length given) 0) (call (leave seat)) c e in
        subst (Formed code seat given) (same_call (leave seat) c p.1) (leaves (eqb-true code 1 q) (eqb-true (length given) 0 p.0))

    code_0 : (t : Bool) → eqb code 0 ≡ t → cond t arrive_or_none (cond (eqb code 1) leave_or_none packet_or_none) ≡ call c → Formed code seat given c
    code_0 false q e = code_1 (eqb code 1) refl e
    code_0 true q e =
        let p = passed (eqb seat 0) (cond (eqb (length given) 32) (call (arrive given)) none) c e in
        let r = passed (eqb (length given) 32) (call (arrive given)) c p.1 in
        subst (Formed code seat given) (same_call (arrive given) c r.1)
        (arrives (eqb-true code 0 q) (eqb-true seat 0 p.0) (eqb-true (length given) 32 r.0))

-- ---- the call at the front of bytes

-- how many bytes the head says
abbrev pub size_in : List ℕ → ℕ
size_in bytes = number_of (take 2 (drop 2 bytes))

-- what the call is given
abbrev pub given_in : List ℕ → List ℕ
given_in bytes = take (size_in bytes) (drop 4 bytes)

pub record Fronts (bytes : List ℕ) (c : Call) : Type 0 where
  pub there : 4 + size_in bytes ≤ length bytes
  pub long : length (given_in bytes) ≡ size_in bytes
  pub form : Formed (get_or bytes 0 0) (get_or bytes 1 0) (given_in bytes) c

pub first_is : (bytes : List ℕ) (c : Call) → first_call bytes ≡ call c → Fronts bytes c
unfolding first_call headed
first_is bytes c e =
    let p = passed (leb 4 (length bytes)) (headed (get_or bytes 0 0) (get_or bytes 1 0) (size_in bytes) (drop 4 bytes)) c e in
    let q = passed (leb (size_in bytes) (length (drop 4 bytes))) (formed (get_or bytes 0 0) (get_or bytes 1 0) (given_in bytes)) c p.1 in
    let a = leb-true 4 (length bytes) p.0 in
    let b = leb-true (size_in bytes) (length (drop 4 bytes)) q.0 in
    let d = length-drop 4 bytes in
    record {
      there = omega arith;
      long = length-take-le (size_in bytes) (drop 4 bytes) b;
      form = formed_is (get_or bytes 0 0) (get_or bytes 1 0) (given_in bytes) c q.1;
    }

-- ---- how many bytes a stored call has

pub length_stored : (bytes : List ℕ) (c : Call) → Fronts bytes c → length (stored_bytes c) ≡ 4 + size_in bytes
length_stored bytes c f = go c f.form
  where
    go : (c : Call) → Formed (get_or bytes 0 0) (get_or bytes 1 0) (given_in bytes) c → length (stored_bytes c) ≡ 4 + size_in bytes
    go c (arrives a b l) = length_arrive (given_in bytes) ∙ ap (λ (n : ℕ). 4 + n) f.long
    go c (leaves a l) = length_leave (get_or bytes 1 0) (given_in bytes) l ∙ ap (λ (n : ℕ). 4 + n) f.long
    go c (sends a) = length_packet (get_or bytes 1 0) (given_in bytes) ∙ ap (λ (n : ℕ). 4 + n) f.long

-- no call takes more than there is, and each takes something
pub first_within : (bytes : List ℕ) (c : Call) → first_call bytes ≡ call c → (4 ≤ length (stored_bytes c)) × (length (stored_bytes c) ≤ length bytes)
first_within bytes c e =
    let f = first_is bytes c e in
    let l = length_stored bytes c f in
    let t = f.there in
    (omega arith, omega arith)

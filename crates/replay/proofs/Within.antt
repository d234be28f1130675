-- What a call's answer counts lies within the output that it was lent, and what a stored call takes lies within the bytes that it was read from. Assumes
-- nothing.
use mathlib.Core.Path.{◌≡◌, refl, ap, subst, ◌∙◌}
use mathlib.Core.List.{List}
use Prim.Native.Nat.{ℕ, ◌+◌, ◌<◌, ◌≤◌}
use native.Mathlib.Omega.{arith}
use lib.ListN.{length, take, drop, length-append, length-drop}
use Rattle.rules.specs.Call.{Call, arrive, leave, packet_call, tick, Answer}
use Rattle.rules.specs.Outcome.{sent_bytes}
use Rattle.records.specs.declared.Accepted as accepted
use Rattle.refusal.specs.declared.Refusal.{Refusal}
use Rattle.relay_laws.specs.Calls.{answer_of, Leaves, with_output, written}
use Rattle.relay_laws.proofs.CallsLaws.{call_made}
use Rattle.relay_laws.proofs.OutcomeLeaves.{made_written}
use Rattle.stored.specs.declared.StoredCall.{StoredCall}
use Rattle.std.specs.Prelude.{Option, Some, None, Result, Ok}
use Rattle.std.proofs.lemmas.List.{length-take}
use Rattle.stored.specs.Stored.{First, none, call, first_call, shown_call, shown_first, stored_bytes}
use Rattle.stored.proofs.StoredLaws.{first_within}

-- ---- the answer and the output

pub count_within : (s n : ℕ) (b out : List ℕ) (c : Call) (given : Answer) (b' out' : List ℕ)
    → Leaves s n (with_output s n b out c) b out given b' out' → written given ≤ length out'
count_within s n b out c given b' out' l =
    let o = with_output s n b out c in
    let e = ap written l.answers ∙ made_written o (call_made s n b out c) in
    let w = ap length l.writes ∙ length-append (sent_bytes o.sent) (drop (length (sent_bytes o.sent)) out) in
    omega arith

-- the same of an accepted answer of the code
pub accepted_within : (s n : ℕ) (b out : List ℕ) (c : Call) (given : Result accepted.Accepted Refusal) (b' out' : List ℕ)
    → Leaves s n (with_output s n b out c) b out (answer_of given) b' out' → (a : accepted.Accepted) → given ≡ Ok a → a.bytes ≤ length out'
unfolding written answer_of
accepted_within s n b out c given b' out' l a e =
    subst (λ (x : Result accepted.Accepted Refusal). written (answer_of x) ≤ length out') e (count_within s n b out c (answer_of given) b' out' l)

-- ---- a stored call and the input

abbrev told_size : Option (StoredCall × ℕ) → ℕ
told_size None = 0
told_size (Some told) = told.1

same_size : (d : Call) (c : StoredCall) (m n : ℕ) → Some (c, m) ≡ shown_call d n → m ≡ n
unfolding shown_call
same_size (arrive key) c m n e = ap told_size e
same_size (leave seat) c m n e = ap told_size e
same_size (packet_call seat bytes) c m n e = ap told_size e
same_size (tick time number) c m n e = cc

shown_within : (bytes : List ℕ) (f : First) → first_call bytes ≡ f → (c : StoredCall) (size : ℕ) → Some (c, size) ≡ shown_first f
    → (4 ≤ size) × (size ≤ length bytes)
unfolding shown_first
shown_within bytes none e c size q = cc
shown_within bytes (call d) e c size q =
    let w = first_within bytes d e in
    let l = same_size d c size (length (stored_bytes d)) q in
    (omega arith, omega arith)

pub size_within : (bytes : List ℕ) (r : Option (StoredCall × ℕ)) (c : StoredCall) (size : ℕ) → r ≡ shown_first (first_call bytes) → r ≡ Some (c, size)
    → (4 ≤ size) × (size ≤ length bytes)
size_within bytes r c size e q = shown_within bytes (first_call bytes) refl c size (cc)

-- ---- what is left of a list of bytes

-- behind its front there is less of it
pub left_less : (k size : ℕ) (l : List ℕ) → 0 < size → size ≤ length l → length (take k (drop size l)) < length l
left_less k size l s h = omega (arith, length-take k (drop size l), length-drop size l)

-- what lies within the part from a place on ends within the list
pub part_within : (k at size : ℕ) (l : List ℕ) → at ≤ length l → size ≤ length (take k (drop at l)) → at + size ≤ length l
part_within k at size l a h = omega (arith, length-take k (drop at l), length-drop at l)

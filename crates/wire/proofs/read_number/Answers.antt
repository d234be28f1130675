-- `wire::read_number` meets its contract. What is left is the front of what the slice's iterator has left. Assumes nothing.
use mathlib.Core.Path.{◌≡◌}
use mathlib.Core.List.{List, [], ◌∷◌}
use Prim.Native.Nat.{ℕ, zero, suc, ◌+◌, ◌*◌, ◌<◌}
use native.Mathlib.Omega.{arith}
use native.Mathlib.Numerals.{add-one}
use lib.ListN.{length, take}
use Rattle.wire.proofs.Numbers.{Left, left_next, left_none, left_fits, bytes_each}
use Rattle.wire.proofs.read_number.Goals as goal

front_next : (n b i k all : ℕ) (bs rest : List ℕ) → bs ≡ b ∷ rest → k + 1 ≡ i → Left n (take i bs) all → Left (n * 256 + b) (take k rest) all
front_next n b i k all bs rest e f h = left_next n b (take k rest) all (rw (e, ← f, add-one) at h)

front_none : (n i all : ℕ) (bs : List ℕ) → (0 < i → length bs ≡ 0) → Left n (take i bs) all → n ≡ all
front_none n zero all bs e h = left_none n all h
front_none n (suc i) all [] e h = left_none n all h
front_none n (suc i) all (b ∷ bs) e h = absurd (omega (arith, e (omega arith)))

pub overflow_mul-number : goal.overflow_mul-number
overflow_mul-number c =
    let s = c.in-Some.ensures.steps in
    let e = front_next c.loop-byte.number c.in-Some.field-0.now _ _ _ _ _ s.0 s.1 c.loop-byte.invariant in
    omega (arith, left_fits _ _ _ (bytes_each c.args.bytes.now (λ i. (c.type_inv.bytes i).fits)) e)

pub overflow_add-number : goal.overflow_add-number
overflow_add-number c =
    let s = c.in-Some.ensures.steps in
    let e = front_next c.loop-byte.number c.in-Some.field-0.now _ _ _ _ _ s.0 s.1 c.loop-byte.invariant in
    omega (arith, left_fits _ _ _ (bytes_each c.args.bytes.now (λ i. (c.type_inv.bytes i).fits)) e)

pub loop-byte-preserved : goal.loop-byte-preserved
loop-byte-preserved c =
    let s = c.in-Some.ensures.steps in
    let e = front_next c.loop-byte.number c.in-Some.field-0.now _ _ _ _ _ s.0 s.1 c.loop-byte.invariant in
    let read : c.from.result ≡ c.in-Some.field-0.now = grind arith in
    rw read e

pub returns : goal.returns
returns c = front_none _ _ _ _ (λ h. (c.in-None.ensures.steps h).0) c.loop-byte.invariant

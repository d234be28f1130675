-- Laws of records in a lent output: bytes behind bytes, a part that a writer gives back, and records one after the other. Assumes nothing.
use mathlib.Core.Path.{◌≡◌, ◌∙◌, refl, sym, ap, ap₂}
use mathlib.Core.List.{List, [], ◌∷◌, ◌++◌, append_assoc, append-nil}
use Prim.Native.Nat.{ℕ, ◌+◌, ◌-◌, ◌≤◌}
use native.Mathlib.Nat.{zero-add, add-zero}
use native.Mathlib.Numerals.{add-one}
use native.Mathlib.Omega.{arith}
use lib.ListN.{length, take, drop, set, length-append, length-drop, length-set, take-append-drop}
use lib.Seq.{length-take-le, take-append-le, take-take, drop_at, drop-drop, set_split}
use Rattle.wire.specs.Numbers.{bytes_of}
use Rattle.wire.proofs.Numbers.{length_bytes_of}
use Rattle.wire.proofs.Copy.{written_part, length_lent}
use Rattle.rules.specs.Call.{Sent}
use Rattle.rules.specs.Outcome.{record_bytes, sent_bytes}
use Rattle.rules.proofs.SentLaws.{count_one}
use Rattle.records.specs.Output.{appended, Appends}

-- ---- bytes behind the first `at`

pub length_appended : (out : List ℕ) (at : ℕ) (x : List ℕ) → at + length x ≤ length out → length (appended out at x) ≡ length out
length_appended out at x h =
    let t = length-take-le at out (omega arith) in
    let d = length-drop (at + length x) out in
    let e = length-append x (drop (at + length x) out) in
    length-append (take at out) (x ++ drop (at + length x) out) ∙ omega arith

-- more bytes, behind those
pub appended_more : (out : List ℕ) (at next : ℕ) (x y : List ℕ) → at ≤ length out → next ≡ at + length x
    → appended (appended out at x) next y ≡ appended out at (x ++ y)
appended_more out at next x y h e =
    let w = take at out ++ x in
    let rest = drop (at + length x) out in
    let o = appended out at x in
    let lw : length w ≡ at + length x = let t = length-take-le at out h in length-append (take at out) x ∙ omega arith in
    let split : o ≡ w ++ rest = sym (append_assoc (take at out) x rest) in
    let all : at + length x + length y ≡ at + length (x ++ y) = let l = length-append x y in omega arith in
    ap (λ (n : ℕ). appended o n y) e
    ∙ ap (λ (l : List ℕ). take (at + length x) o ++ (y ++ l)) (sym (drop-drop (length y) (at + length x) o))
    ∙ ap (λ (l : List ℕ). take (at + length x) l ++ (y ++ drop (length y) (drop (at + length x) l))) split
    ∙ written_part w y out (at + length x) (length y) lw
    ∙ ap₂ (λ (l : List ℕ) (n : ℕ). l ++ drop n out) (append_assoc (take at out) x y) all
    ∙ append_assoc (take at out) (x ++ y) (drop (at + length (x ++ y)) out)

-- at the front of an output
pub appended_front : (out x : List ℕ) → appended out 0 x ≡ x ++ drop (length x) out
appended_front out x = ap (λ (n : ℕ). x ++ drop n out) (zero-add (length x))

-- nothing more
pub appended_none : (out : List ℕ) (at : ℕ) → appended out at [] ≡ out
appended_none out at = ap (λ (n : ℕ). take at out ++ drop n out) (add-zero at) ∙ take-append-drop at out

-- a part of the output, as it comes back from a call that it was lent to
pub part_back : (out : List ℕ) (at k : ℕ) (new : List ℕ) → length new ≡ k → take at out ++ (new ++ drop k (drop at out)) ≡ appended out at new
part_back out at k new e =
    ap (λ (n : ℕ). take at out ++ (new ++ drop n (drop at out))) (sym e)
    ∙ ap (λ (l : List ℕ). take at out ++ (new ++ l)) (drop-drop (length new) at out)

-- bytes before those
pub appended_before : (out : List ℕ) (at next : ℕ) (x y : List ℕ) → next ≤ length out → next ≡ at + length x
    → appended (appended out next y) at x ≡ appended out at (x ++ y)
appended_before out at next x y h e =
    let w = take next out in
    let rest = y ++ drop (next + length y) out in
    let lw : length w ≡ next = length-take-le next out h in
    let before : take at (w ++ rest) ≡ take at out = take-append-le at w rest (omega arith) ∙ take-take at next out (omega arith) in
    let behind : drop (at + length x) (w ++ rest) ≡ rest = drop_at w rest (at + length x) (lw ∙ e) in
    let all : next + length y ≡ at + length (x ++ y) = let l = length-append x y in omega arith in
    ap₂ (λ (b c : List ℕ). b ++ (x ++ c)) before behind
    ∙ ap (λ (l : List ℕ). take at out ++ l) (sym (append_assoc x y (drop (next + length y) out)))
    ∙ ap (λ (n : ℕ). take at out ++ ((x ++ y) ++ drop n out)) all

-- one byte
pub byte_appended : (out : List ℕ) (at b : ℕ) → at + 1 ≤ length out → set out at b ≡ appended out at (b ∷ [])
byte_appended out at b h = set_split out at b (omega arith) ∙ ap (λ (n : ℕ). take at out ++ (b ∷ drop n out)) (sym (add-one at))

-- ---- records

pub sent_one : (s : Sent) → sent_bytes (s ∷ []) ≡ record_bytes s
unfolding sent_bytes
sent_one s = append-nil (record_bytes s)

pub sent_append : (l m : List Sent) → sent_bytes (l ++ m) ≡ sent_bytes l ++ sent_bytes m
unfolding sent_bytes
sent_append [] m = refl
sent_append (s ∷ l) m = ap (λ (x : List ℕ). record_bytes s ++ x) (sent_append l m) ∙ sym (append_assoc (record_bytes s) (sent_bytes l) (sent_bytes m))

-- no record
pub appends_none : (out : List ℕ) (at : ℕ) → Appends [] out at at out
unfolding sent_bytes
appends_none out at = record { answers = sym (add-zero at); leaves = sym (appended_none out at) }

-- records, and then more behind them
pub appends_more : (l m : List Sent) (out : List ℕ) (at mid next : ℕ) (left last : List ℕ) → at ≤ length out
    → Appends l out at mid left → Appends m left mid next last → Appends (l ++ m) out at next last
appends_more l m out at mid next left last h p q = record {
  answers =
      let e = p.answers in
      let f = length-append (sent_bytes l) (sent_bytes m) in
      let g : length (sent_bytes (l ++ m)) ≡ length (sent_bytes l ++ sent_bytes m) = ap length (sent_append l m) in
      q.answers ∙ omega arith;
  leaves =
      q.leaves ∙ ap (λ (o : List ℕ). appended o mid (sent_bytes m)) p.leaves
      ∙ appended_more out at mid (sent_bytes l) (sent_bytes m) h p.answers
      ∙ ap (λ (x : List ℕ). appended out at x) (sym (sent_append l m));
}

-- where the next goes, behind one record
pub appends_one_next : (s : Sent) (out : List ℕ) (at next : ℕ) (left : List ℕ) → Appends (s ∷ []) out at next left → next ≡ at + (3 + length s.bytes)
appends_one_next s out at next left p = p.answers ∙ ap (λ (n : ℕ). at + n) (count_one s)

-- records keep the length of an output that has room for them
pub appends_length : (l : List Sent) (out : List ℕ) (at next : ℕ) (left : List ℕ) → Appends l out at next left → next ≤ length out → length left ≡ length out
appends_length l out at next left p h = ap length p.leaves ∙ length_appended out at (sent_bytes l) (let e = p.answers in omega arith)

-- records from the front of an output: how many bytes, and what the output is then
pub appends_front_answer : (l : List Sent) (out : List ℕ) (next : ℕ) (left : List ℕ) → Appends l out 0 next left → next ≡ length (sent_bytes l)
appends_front_answer l out next left p = p.answers ∙ zero-add (length (sent_bytes l))

pub appends_front : (l : List Sent) (out : List ℕ) (next : ℕ) (left : List ℕ) → Appends l out 0 next left
    → left ≡ sent_bytes l ++ drop (length (sent_bytes l)) out
appends_front l out next left p = p.leaves ∙ appended_front out (sent_bytes l)

-- ---- a head in the output

-- the seat and the length
pub head_written : (out new : List ℕ) (at seat size : ℕ) → at + 3 ≤ length out
    → new ≡ bytes_of (length (take (at + 3 - (at + 1)) (drop (at + 1) (set out at seat)))) size
    → take (at + 1) (set out at seat) ++ (new ++ drop (at + 3 - (at + 1)) (drop (at + 1) (set out at seat))) ≡ appended out at (seat ∷ bytes_of 2 size)
head_written out new at seat size h e =
    let k : at + 3 - (at + 1) ≡ 2 = omega arith in
    let s = set out at seat in
    let l : length (take (at + 3 - (at + 1)) (drop (at + 1) s)) ≡ 2 =
    ap (λ (n : ℕ). length (take n (drop (at + 1) s))) k ∙ length_lent s (at + 1) 2 (let f = length-set out at seat in omega arith) in
    let m : new ≡ bytes_of 2 size = e ∙ ap (λ (n : ℕ). bytes_of n size) l in
    ap₂ (λ (x : List ℕ) (n : ℕ). take (at + 1) s ++ (x ++ drop n (drop (at + 1) s))) m k
    ∙ part_back s (at + 1) 2 (bytes_of 2 size) (length_bytes_of 2 size)
    ∙ ap (λ (x : List ℕ). appended x (at + 1) (bytes_of 2 size)) (byte_appended out at seat (omega arith))
    ∙ appended_more out at (at + 1) (seat ∷ []) (bytes_of 2 size) (omega arith) refl

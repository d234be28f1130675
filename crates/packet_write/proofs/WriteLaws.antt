-- Laws of writing: into an output that is long enough or not, after a judgement. Assumes nothing.
use mathlib.Core.Path.{◌≡◌, ◌∙◌, refl, sym, ap, ap₂}
use mathlib.Core.List.{List, [], ◌∷◌, ◌++◌}
use Prim.Native.Nat.{ℕ, ◌+◌, ◌<◌, ◌≤◌}
use native.Mathlib.Omega.{arith}
use mathlib.Core.Bool.{Bool, true, false, cond, not}
use lib.Dec.{leb, eqb}
use Rattle.std.proofs.lemmas.Bool.Decides.{nat_tests}
use lib.Seq.{take-append_seam}
use lib.ListN.{length, take, drop, set, length-set}
use borrow.Author.Tests.{le-leb, lt-leb}
use Rattle.std.specs.Prelude.{Result, Ok, Err}
use Rattle.std.specs.Int.{to_be_bytes}
use Rattle.std.proofs.Math.Nat.{div-div-eq-div-mul}
use mir.Syntax.{w64}
use Rattle.wire.specs.Numbers.{bytes_of}
use Rattle.wire.proofs.Copy.{written_first, written_part, length_lent}
use Rattle.key.specs.Keys.{with_key}
use Rattle.key.proofs.Lent.{with_key_whole}
use Rattle.refusal.specs.declared.Refusal.{Refusal}
use Rattle.refusal.specs.declared.Refusal.TheVariants.{OutputTooShort}
use Rattle.packet_laws.specs.Read.{Read, packet, refused, check}
use Rattle.packet_write.specs.Written.{Writes, Puts, PutsJudged, written_answer, written_output}

pub puts_short : (bytes out : List ℕ) → length out < length bytes → Puts bytes out (Err OutputTooShort) out
unfolding written_answer written_output
puts_short bytes out h = record { answers = simp (lt-leb (length bytes) (length out) h); leaves = simp (lt-leb (length bytes) (length out) h) }

pub puts_written : (bytes out left : List ℕ) (n : ℕ) → length bytes ≡ n → n ≤ length out → left ≡ bytes ++ drop n out → Puts bytes out (Ok n) left
unfolding written_answer written_output
puts_written bytes out left n e h l =
    let k : length bytes ≤ length out = omega arith in
    record {
      answers = simp (le-leb (length bytes) (length out) k) (ap Ok (sym e));
      leaves = l ∙ ap (λ (m : ℕ). bytes ++ drop m out) (sym e) ∙ simp (le-leb (length bytes) (length out) k);
    }

module _ {A : Type 0} (judged : Read A) (bytes out : List ℕ) where
  -- a packet that the reader takes is put into the output
  pub accepted_writes : (p : A) (answer : Result ℕ Refusal) (left : List ℕ) → judged ≡ packet p → Puts bytes out answer left → Writes judged bytes out answer left
  unfolding written_answer written_output
  accepted_writes p answer left e puts = record {
    answers = puts.answers ∙ sym (ap (λ (j : Read A). written_answer j bytes out) e);
    leaves = puts.leaves ∙ sym (ap (λ (j : Read A). written_output j bytes out) e);
  }

  -- one that it refuses leaves the output
  pub refused_writes : (why : Refusal) → judged ≡ refused why → Writes judged bytes out (Err why) out
  unfolding written_answer written_output
  refused_writes why e = record {
    answers = sym (ap (λ (j : Read A). written_answer j bytes out) e);
    leaves = sym (ap (λ (j : Read A). written_output j bytes out) e);
  }

-- where a count is answered, the packet was taken, and it stands at the front of the output
pub record Put {A : Type 0} (judged : Read A) (bytes left : List ℕ) (n : ℕ) : Type 0 where
  pub found : A
  pub taken : judged ≡ packet found
  pub front : take n left ≡ bytes

counted : {A : Type 0} (p : A) (t : Bool) (bytes out left : List ℕ) (n : ℕ) → Ok n ≡ cond t (Ok (length bytes)) (Err OutputTooShort)
    → left ≡ cond t (bytes ++ drop (length bytes) out) out → Put (packet p) bytes left n
counted p true bytes out left n e l =
    let q : n ≡ length bytes = cc in
    record { found = p; taken = refl; front = ap₂ (λ (m : ℕ) (o : List ℕ). take m o) q l ∙ take-append_seam bytes (drop (length bytes) out) }
counted p false bytes out left n e l = let z : ◌≡◌ {A = ℕ} 0 1 = cc in absurd (omega arith)

pub writes_put : {A : Type 0} (judged : Read A) (bytes out left : List ℕ) (n : ℕ) → Writes judged bytes out (Ok n) left → Put judged bytes left n
unfolding written_answer written_output
writes_put (packet p) bytes out left n w = counted p (leb (length bytes) (length out)) bytes out left n w.answers w.leaves
writes_put (refused why) bytes out left n w = let f = w.answers in let z : ◌≡◌ {A = ℕ} 0 1 = cc in absurd (omega arith)

-- ---- what a writer does once its packet is judged

module _ {A : Type 0} (judged : Read A) (bytes out : List ℕ) (answer : Result ℕ Refusal) (left : List ℕ) where
  -- a judgement that begins with a check: what the check refuses is refused, and what it lets through is judged by what comes after it
  pub checked_writes : (right : Bool) (why : Refusal) (after : Read (Unit {0})) → (right ≡ false → judged ≡ refused why)
      → (right ≡ true → PutsJudged after bytes out answer left → Writes judged bytes out answer left)
      → PutsJudged (check right why after) bytes out answer left → Writes judged bytes out answer left
  unfolding check written_answer written_output
  checked_writes true why after turned passes w = passes refl w
  checked_writes false why after turned passes w = rw (turned refl) (record { answers = w.answers; leaves = w.leaves })

-- bytes that a check lets through
pub check_passes : (bytes out : List ℕ) (right : Bool) (why : Refusal) (after : Read (Unit {0})) (answer : Result ℕ Refusal) (left : List ℕ)
    → right ≡ true → PutsJudged after bytes out answer left → PutsJudged (check right why after) bytes out answer left
unfolding check
check_passes bytes out right why after answer left e w = rw e w

-- ---- a ping number, and its eight bytes

pub zero : (n : ℕ) → not (eqb n 0) ≡ false → n ≡ 0
zero n e = grind (arith, nat_tests)

pub other : (n : ℕ) → not (eqb n 0) ≡ true → n ≡ 0 → ⊥
other n e z = grind (arith, nat_tests)

pub be_bytes : (n : ℕ) → to_be_bytes w64 n ≡ bytes_of 8 n
unfolding bytes_of
be_bytes n = simp div-div-eq-div-mul

-- ---- pieces of a packet, put one after the other into an output: a byte, and two runs of bytes

pub written_pieces : (out head rest : List ℕ) (k m n : ℕ) → 0 < length out → m ≡ length head → n ≡ length rest
    → take (1 + length head) (take 1 (set out 0 k) ++ (head ++ drop m (drop 1 (set out 0 k)))) ++ (rest ++ drop n (drop (1 + length head) (take 1 (set out 0 k) ++ (head ++ drop m (drop 1 (set out 0 k))))))
    ≡ (k ∷ (head ++ rest)) ++ drop (1 + length head + length rest) out
written_pieces out head rest k m n room e f =
    let first : take 1 (set out 0 k) ++ (head ++ drop m (drop 1 (set out 0 k))) ≡ (k ∷ head) ++ drop (1 + m) out =
    ap (λ (l : List ℕ). take 1 l ++ (head ++ drop m (drop 1 l))) (written_first out k room) ∙ written_part (k ∷ []) head out 1 m refl in
    let second : take 1 (set out 0 k) ++ (head ++ drop m (drop 1 (set out 0 k))) ≡ (k ∷ head) ++ drop (1 + length head) out =
    first ∙ ap (λ (j : ℕ). (k ∷ head) ++ drop (1 + j) out) e in
    ap (λ (l : List ℕ). take (1 + length head) l ++ (rest ++ drop n (drop (1 + length head) l))) second
    ∙ written_part (k ∷ head) rest out (1 + length head) n (omega arith)
    ∙ ap (λ (j : ℕ). (k ∷ (head ++ rest)) ++ drop (1 + length head + j) out) f

-- ---- a byte and a key, and what is copied behind them; a byte, and what is copied behind it

-- an output whose first byte is set, and whose next 32 come back from a call that writes a key
abbrev pub with_kind_and_key : List ℕ → ℕ → List ℕ → List ℕ
with_kind_and_key out k new = take 1 (set out 0 k) ++ (new ++ drop 32 (drop 1 (set out 0 k)))

module _ (out new key : List ℕ) (k : ℕ) (room : 33 ≤ length out) (e : new ≡ with_key key (take 32 (drop 1 (set out 0 k)))) where
  pub written_key : with_kind_and_key out k new ≡ (k ∷ key) ++ drop 33 out
  written_key =
      let m : new ≡ key = e ∙ with_key_whole key _ (length_lent (set out 0 k) 1 32 (simp length-set room)) in
      ap₂ (λ (x l : List ℕ). take 1 l ++ (x ++ drop 32 (drop 1 l))) m (written_first out k (omega arith)) ∙ written_part (k ∷ []) key out 1 32 refl

  pub written_key_and_bytes : (copied bytes : List ℕ) (m : ℕ) → length key ≡ 32 → m ≡ length bytes → 33 + length bytes ≤ length out
      → copied ≡ bytes
      → take 33 (with_kind_and_key out k new) ++ (copied ++ drop m (drop 33 (with_kind_and_key out k new))) ≡ (k ∷ (key ++ bytes)) ++ drop (33 + length bytes) out
  written_key_and_bytes copied bytes m h q all f =
      ap₂ (λ (x l : List ℕ). take 33 l ++ (x ++ drop m (drop 33 l))) f written_key ∙ written_part (k ∷ key) bytes out 33 m (omega arith)
      ∙ ap (λ (n : ℕ). (k ∷ (key ++ bytes)) ++ drop (33 + n) out) q

pub written_byte_and_bytes : (out copied bytes : List ℕ) (k m : ℕ) → m ≡ length bytes → 1 + length bytes ≤ length out → copied ≡ bytes
    → take 1 (set out 0 k) ++ (copied ++ drop m (drop 1 (set out 0 k))) ≡ (k ∷ bytes) ++ drop (1 + length bytes) out
written_byte_and_bytes out copied bytes k m q all f =
    ap₂ (λ (x l : List ℕ). take 1 l ++ (x ++ drop m (drop 1 l))) f (written_first out k (omega arith)) ∙ written_part (k ∷ []) bytes out 1 m refl
    ∙ ap (λ (n : ℕ). (k ∷ bytes) ++ drop (1 + n) out) q

-- Records and their bytes, both ways round. One record, as `records::read` shows it (`first_record`):
--
--   - what was written is read, whatever follows (`record_back`), and what is read as a record is its bytes (`record_read`);
--   - the records in a run of bytes (`records_in`) are the one at the front and those behind it (`first_of_all`, `none_of_all`).
--
-- A run: what is read in the bytes of records, whose packets have fewer than 65,536 bytes, is these records (`reads_back`); so records with the same bytes are
-- the same (`one_way`). Assumes nothing.
use mathlib.Core.Path.{◌≡◌, ◌∙◌, refl, sym, ap, ap₂}
use mathlib.Core.List.{List, [], ◌∷◌, ◌++◌}
use Prim.Native.Nat.{ℕ, zero, suc, ◌+◌, ◌≤◌, ◌<◌}
use native.Mathlib.Omega.{arith}
use borrow.Author.Tests.{le-leb}
use lib.ListN.{length, take, drop, length-append, take-append-drop}
use lib.Seq.{length-take-le, take-append_seam, drop-append_seam, drop-drop}
use Rattle.wire.specs.Numbers.{Bytes, number_of, bytes_of}
use Rattle.wire.proofs.Numbers.{bytes_take, length_bytes_of, number_bytes_of, bytes_of_number}
use Rattle.rules.specs.Call.{Sent}
use Rattle.rules.specs.Outcome.{record_bytes, sent_bytes}
use Rattle.rules.proofs.SentLaws.{count_record, count_more}
use Rattle.records.specs.Read.{none, whole, sized, first_record, records_in, too_long, Short}
use Rattle.records.proofs.ReadLaws.{parts}

-- ---- the two bytes of a length, and what stands behind them

two_first : (w x y : List ℕ) → length w ≡ 2 → take 2 ((w ++ x) ++ y) ≡ w
two_first [] x y l = absurd (omega arith)
two_first (a ∷ []) x y l = absurd (omega arith)
two_first (a ∷ b ∷ []) x y l = refl
two_first (a ∷ b ∷ c ∷ w) x y l = absurd (omega arith)

two_behind : (w x y : List ℕ) → length w ≡ 2 → drop 2 ((w ++ x) ++ y) ≡ x ++ y
two_behind [] x y l = absurd (omega arith)
two_behind (a ∷ []) x y l = absurd (omega arith)
two_behind (a ∷ b ∷ []) x y l = refl
two_behind (a ∷ b ∷ c ∷ w) x y l = absurd (omega arith)

-- ---- one record, written and read

front : (seat : ℕ) (bytes w x y : List ℕ) → take 2 bytes ≡ w → drop 2 bytes ≡ x ++ y → number_of w ≡ length x → 2 ≤ length bytes
    → first_record (seat ∷ bytes) ≡ whole (record { seat = seat; bytes = x })
unfolding first_record sized
front seat bytes w x y f d e h =
    let l : length x ≤ length (x ++ y) = let a = length-append x y in omega arith in
    rw (f, d, e, take-append_seam x y) (simp (le-leb 2 (length bytes) h, le-leb (length x) (length (x ++ y)) l))

pub record_back : (s : Sent) → length s.bytes < too_long → (rest : List ℕ) → first_record (record_bytes s ++ rest) ≡ whole s
unfolding record_bytes
record_back s h rest =
    let size = bytes_of 2 (length s.bytes) in
    let two = length_bytes_of 2 (length s.bytes) in
    let a = length-append size s.bytes in
    let b = length-append (size ++ s.bytes) rest in
    front s.seat ((size ++ s.bytes) ++ rest) size s.bytes rest (two_first size s.bytes rest two) (two_behind size s.bytes rest two)
    (number_bytes_of 2 (length s.bytes) h) (omega arith)

-- ---- one record, read

pub record_read : (bytes : List ℕ) (s : Sent) → Bytes bytes → first_record bytes ≡ whole s → bytes ≡ record_bytes s ++ drop (length (record_bytes s)) bytes
unfolding record_bytes first_record
record_read [] s are e = let z : none ≡ whole s = e in cc
record_read (seat ∷ []) s are e = absurd (let l = (parts seat [] s e).0 in omega arith)
record_read (seat ∷ high ∷ []) s are e = absurd (let l = (parts seat (high ∷ []) s e).0 in omega arith)
record_read (seat ∷ high ∷ low ∷ rest) s are e =
    let two : List ℕ = high ∷ low ∷ [] in
    let n = number_of two in
    let p = parts seat (high ∷ low ∷ rest) s e in
    let l : length (take n rest) ≡ n = length-take-le n rest p.1 in
    let b : record_bytes s ≡ seat ∷ high ∷ low ∷ take n rest =
    ap record_bytes (sym p.2) ∙ ap (λ (x : List ℕ). seat ∷ (x ++ take n rest))
    (ap (bytes_of 2) l ∙ bytes_of_number two (bytes_take 2 (high ∷ low ∷ rest) are.1)) in
    let d : drop (length (record_bytes s)) (seat ∷ high ∷ low ∷ rest) ≡ drop n rest =
    ap (λ (k : List ℕ). drop (length k) (seat ∷ high ∷ low ∷ rest)) b ∙ ap (λ (k : ℕ). drop k rest) l in
    ap (λ (r : List ℕ). seat ∷ high ∷ low ∷ r) (sym (take-append-drop n rest)) ∙ sym (ap₂ (λ (x y : List ℕ). x ++ y) b d)

-- ---- the records in a run of bytes: the one at the front, and those behind it

pub first_of_all : (bytes : List ℕ) (s : Sent) (most : ℕ) → first_record bytes ≡ whole s
    → records_in (suc most) bytes ≡ s ∷ records_in most (drop (length (record_bytes s)) bytes)
unfolding records_in first_record
first_of_all [] s most e = let z : none ≡ whole s = e in cc
first_of_all (seat ∷ rest) s most e =
    let size = number_of (take 2 rest) in
    let p = parts seat rest s e in
    let l : length s.bytes ≡ size = ap (λ (t : Sent). length t.bytes) (sym p.2) ∙ length-take-le size (drop 2 rest) p.1 in
    let c = count_record s in
    let k : 1 + (2 + size) ≡ length (record_bytes s) = omega arith in
    ap₂ (λ (t : Sent) (r : List ℕ). t ∷ records_in most r) p.2
    (drop-drop size 2 rest ∙ drop-drop (2 + size) 1 (seat ∷ rest) ∙ ap (λ (n : ℕ). drop n (seat ∷ rest)) k)

pub none_of_all : (bytes : List ℕ) (most : ℕ) → length bytes ≡ 0 → (first_record bytes ≡ none) × (records_in most bytes ≡ [])
unfolding records_in first_record
none_of_all [] zero h = (refl, refl)
none_of_all [] (suc most) h = (refl, refl)
none_of_all (seat ∷ rest) most h = absurd (omega arith)

-- ---- a run of records, written and read

-- packets are short enough where all records together are
pub all_short : (sent : List Sent) → length (sent_bytes sent) < too_long → Short sent
all_short [] h = tt
all_short (s ∷ rest) h = let c = count_more s rest in (omega arith, all_short rest (omega arith))

pub reads_back : (sent : List Sent) → Short sent → (most : ℕ) → length (sent_bytes sent) ≤ most → records_in most (sent_bytes sent) ≡ sent
unfolding records_in sent_bytes
reads_back [] h zero l = refl
reads_back [] h (suc most) l = refl
reads_back (s ∷ rest) h zero l = absurd (let c = count_more s rest in omega arith)
reads_back (s ∷ rest) h (suc most) l =
    let c = count_more s rest in
    first_of_all (record_bytes s ++ sent_bytes rest) s most (record_back s h.0 (sent_bytes rest))
    ∙ ap (λ (r : List ℕ). s ∷ records_in most r) (drop-append_seam (record_bytes s) (sent_bytes rest))
    ∙ ap (λ (l : List Sent). s ∷ l) (reads_back rest h.1 most (omega arith))

-- so records with the same bytes are the same
pub one_way : (sent sent' : List Sent) → Short sent → Short sent' → sent_bytes sent ≡ sent_bytes sent' → sent ≡ sent'
one_way sent sent' h h' e =
    sym (reads_back sent h (length (sent_bytes sent)) (omega arith))
    ∙ ap (λ (l : List ℕ). records_in (length l) l) e ∙ reads_back sent' h' (length (sent_bytes sent')) (omega arith)

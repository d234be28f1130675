-- What is known of a record at the front of bytes: its parts are the bytes there, and it takes no more of them than there are. Assumes nothing.
use mathlib.Core.Path.{◌≡◌, ◌∙◌, refl, sym, ap}
use mathlib.Core.Bool.{Bool, true, false, cond}
use mathlib.Core.List.{List, [], ◌∷◌}
use Prim.Native.Nat.{ℕ, ◌≤◌}
use native.Mathlib.Omega.{arith}
use borrow.Author.Tests.{leb-true}
use lib.Dec.{leb}
use lib.ListN.{length, take, drop, length-drop}
use lib.Seq.{length-take-le}
use Rattle.wire.specs.Numbers.{number_of}
use Rattle.seat.specs.declared.Seat.{Seat}
use Rattle.rules.specs.Call.{Sent}
use Rattle.rules.specs.Outcome.{record_bytes}
use Rattle.rules.proofs.SentLaws.{count_record}
use Rattle.records.specs.declared.RecordRead.{RecordRead}
use Rattle.records.specs.declared.RecordRead.TheVariants as code
use Rattle.records.specs.Read.{First, none, cut_short, whole, sized, first_record, shown_first}

-- a test that had to be passed
passed : (t : Bool) (x : First) (s : Sent) → cond t x cut_short ≡ whole s → (t ≡ true) × (x ≡ whole s)
passed true x s e = (refl, e)
passed false x s e = let z : cut_short ≡ whole s = e in (cc, cc)

same_record : (s s' : Sent) → whole s ≡ whole s' → s ≡ s'
same_record s s' e = cc

-- the record's parts are the bytes there
pub parts : (seat : ℕ) (rest : List ℕ) (s : Sent) → first_record (seat ∷ rest) ≡ whole s
    → (2 ≤ length rest) × (number_of (take 2 rest) ≤ length (drop 2 rest)) × (record { seat = seat; bytes = take (number_of (take 2 rest)) (drop 2 rest) } ≡ s)
unfolding first_record sized
parts seat rest s e =
    let a = passed (leb 2 (length rest)) _ s e in
    let b = passed (leb (number_of (take 2 rest)) (length (drop 2 rest))) _ s a.1 in
    (leb-true 2 (length rest) a.0, leb-true (number_of (take 2 rest)) (length (drop 2 rest)) b.0, same_record _ s b.1)

whole_within : (bytes : List ℕ) (s : Sent) → first_record bytes ≡ whole s → (3 ≤ length (record_bytes s)) × (length (record_bytes s) ≤ length bytes)
unfolding first_record
whole_within [] s e = let z : none ≡ whole s = e in let y : ◌≡◌ {A = ℕ} 0 1 = cc z in absurd (omega arith)
whole_within (seat ∷ rest) s e =
    let size = number_of (take 2 rest) in
    let p = parts seat rest s e in
    let l : length s.bytes ≡ size = ap (λ (t : Sent). length t.bytes) (sym p.2) ∙ length-take-le size (drop 2 rest) p.1 in
    let c = count_record s in
    let d = length-drop 2 rest in
    let a = p.0 in
    let b = p.1 in
    (omega arith, omega arith)

same_size : (a b : Seat) (m n : ℕ) → code.Record a m ≡ code.Record b n → m ≡ n
same_size a b m n e = cc

shown_within : (bytes : List ℕ) (f : First) → first_record bytes ≡ f → (seat : Seat) (size : ℕ) → code.Record seat size ≡ shown_first f
    → (3 ≤ size) × (size ≤ length bytes)
unfolding shown_first
shown_within bytes none e seat size q = let z : ◌≡◌ {A = ℕ} 0 1 = cc in absurd (omega arith)
shown_within bytes cut_short e seat size q = let z : ◌≡◌ {A = ℕ} 0 1 = cc in absurd (omega arith)
shown_within bytes (whole s) e seat size q =
    let w = whole_within bytes s e in
    let l = same_size seat (record { 0 = s.seat }) size (length (record_bytes s)) q in
    let a = w.0 in
    let b = w.1 in
    (omega arith, omega arith)

pub record_within : (bytes : List ℕ) (r : RecordRead) (seat : Seat) (size : ℕ) → r ≡ shown_first (first_record bytes) → r ≡ code.Record seat size
    → (3 ≤ size) × (size ≤ length bytes)
record_within bytes r seat size e q = shown_within bytes (first_record bytes) refl seat size (sym q ∙ e)

-- What a writer of records does: the packet behind the place of the head, and then the head; or nothing. Assumes nothing.
use mathlib.Core.Path.{◌≡◌, ◌∙◌, refl, sym, ap, ap₂}
use mathlib.Core.Bool.{Bool, true, false, cond}
use mathlib.Core.List.{List, [], ◌∷◌, ◌++◌, append-nil}
use Prim.Native.Nat.{ℕ, ◌+◌, ◌-◌, ◌≤◌, ◌<◌}
use native.Mathlib.Omega.{arith}
use borrow.Author.Tests.{leb-true, leb-false, le-leb, lt-leb}
use lib.Dec.{leb}
use lib.ListN.{length, take, drop, set, length-drop, take-append-drop, drop_of_length-le}
use lib.Seq.{take_all}
use Rattle.wire.specs.Numbers.{bytes_of}
use Rattle.wire.proofs.Numbers.{length_bytes_of}
use Rattle.wire.proofs.Copy.{length_lent}
use Rattle.refusal.specs.declared.Refusal.{Refusal}
use Rattle.refusal.specs.declared.Refusal.TheVariants.{OutputTooShort}
use Rattle.packet_laws.specs.Read.{Read, packet, refused}
use Rattle.packet_laws.specs.FromRelay.{FromRelay, routing_response, connect_notice, disconnect_notice, ping, pong, oob_received, routed_data, relay_bytes}
use Rattle.packet_write.specs.Written.{Writes, RelayWrites, written_answer, written_output}
use Rattle.packet_laws.specs.Judged.{relay_judged}
use Rattle.std.specs.Prelude.{Result, Ok, Err, min}
use Rattle.std.proofs.lemmas.Bool.Decides.{nat_tests}
use Rattle.rules.specs.Call.{Sent}
use Rattle.rules.specs.Outcome.{to, record_bytes}
use Rattle.rules.proofs.SentLaws.{count_record, count_one}
use Rattle.records.specs.Output.{appended, Appends, fitting, fitting_record, WritesRecord}
use Rattle.records.proofs.AppendLaws.{head_written, appended_before, part_back, sent_one, appends_none}

-- ---- the packet's place: behind the head, or at the end of the output where no head fits, so that the packet does not fit either

unfoldable pub behind_head : ℕ → ℕ → ℕ
behind_head bytes at = cond (leb (at + 3) bytes) (at + 3) bytes

-- where the next record goes, once the packet's writer has answered, and what the output is then
unfoldable pub next_after : Result ℕ Refusal → ℕ → ℕ
next_after (Ok size) at = at + 3 + size
next_after (Err why) at = at

unfoldable pub headed : Result ℕ Refusal → ℕ → ℕ → List ℕ → List ℕ
headed (Ok size) seat at out = appended out at (seat ∷ bytes_of 2 size)
headed (Err why) seat at out = out

module _ (n at : ℕ) where
  pub behind_fits : at + 3 ≤ n → behind_head n at ≡ at + 3
  unfolding behind_head
  behind_fits h = simp (le-leb (at + 3) n h)

  pub behind_not : n < at + 3 → behind_head n at ≡ n
  unfolding behind_head
  behind_not h = simp (lt-leb (at + 3) n h)

  -- as the code finds it, where no sum overflows
  pub behind_min : (start : ℕ) → (start ≡ min (at + 3) n) → start ≡ behind_head n at
  unfolding behind_head
  behind_min start e = grind (arith, nat_tests)

  -- one of the two
  module _ (start : ℕ) (place : start ≡ behind_head n at) where
    behind_within : (b : Bool) → leb (at + 3) n ≡ b → start ≤ n
    behind_within true e = let l = leb-true (at + 3) n e in let p = place ∙ behind_fits l in omega arith
    behind_within false e = let p = place ∙ behind_not (leb-false (at + 3) n e) in omega arith

    pub behind_le : start ≤ n
    behind_le = behind_within (leb (at + 3) n) refl

    -- some bytes that fit there fit behind the head
    room_at : (b : Bool) → leb (at + 3) n ≡ b → (size : ℕ) → 1 ≤ size → size ≤ n - start → (start ≡ at + 3) × (at + 3 + size ≤ n)
    room_at true e size s h = let l = leb-true (at + 3) n e in let p = place ∙ behind_fits l in (p, omega arith)
    room_at false e size s h = let p = place ∙ behind_not (leb-false (at + 3) n e) in (omega arith, omega arith)

    pub room_behind : (size : ℕ) → 1 ≤ size → size ≤ n - start → (start ≡ at + 3) × (at + 3 + size ≤ n)
    room_behind = room_at (leb (at + 3) n) refl

    -- and those that do not fit there do not
    none_at : (b : Bool) → leb (at + 3) n ≡ b → (size : ℕ) → n - start < size → n < at + 3 + size
    none_at true e size h = let l = leb-true (at + 3) n e in let p = place ∙ behind_fits l in omega arith
    none_at false e size h = let l = leb-false (at + 3) n e in omega arith

    pub no_room : (size : ℕ) → n - start < size → n < at + 3 + size
    no_room = none_at (leb (at + 3) n) refl

-- ---- the head

pub head_refused : (answer : Result ℕ Refusal) (seat at : ℕ) (out : List ℕ) (why : Refusal) → answer ≡ Err why
    → (at ≡ next_after answer at) × (out ≡ headed answer seat at out)
unfolding next_after headed
head_refused answer seat at out why e = rw e (refl, refl)

pub head_done : (answer : Result ℕ Refusal) (seat at size : ℕ) (out left : List ℕ) → answer ≡ Ok size → left ≡ appended out at (seat ∷ bytes_of 2 size)
    → (at + 3 + size ≡ next_after answer at) × (left ≡ headed answer seat at out)
unfolding next_after headed
head_done answer seat at size out left e f = rw e (refl, f)

-- as it is written, between the first `at` bytes and the packet's start
pub head_put : (answer : Result ℕ Refusal) (seat at start size : ℕ) (out new : List ℕ) → answer ≡ Ok size → start ≡ at + 3 → at + 3 + size ≤ length out
    → new ≡ bytes_of (length (take (start - (at + 1)) (drop (at + 1) (set out at seat)))) size
    → (start + size ≡ next_after answer at) × (take (at + 1) (set out at seat) ++ (new ++ drop (start - (at + 1)) (drop (at + 1) (set out at seat))) ≡ headed answer seat at out)
head_put answer seat at start size out new e s h w =
    let v : new ≡ bytes_of (length (take (at + 3 - (at + 1)) (drop (at + 1) (set out at seat)))) size = rw s at w in
    rw s (head_done answer seat at size out _ e (head_written out new at seat size (omega arith) v))

-- ---- what is appended

does_not_fit : {A : Type 0} (p : A) (s : Sent) (at : ℕ) (out : List ℕ) → length out < at + 3 + length s.bytes → fitting (packet p) s at out ≡ []
unfolding fitting
does_not_fit p s at out h = simp (lt-leb (at + length (record_bytes s)) (length out) (let c = count_record s in omega arith))

pub does_fit : {A : Type 0} (p : A) (s : Sent) (at : ℕ) (out : List ℕ) → at + 3 + length s.bytes ≤ length out → fitting (packet p) s at out ≡ s ∷ []
unfolding fitting
does_fit p s at out h = simp (le-leb (at + length (record_bytes s)) (length out) (let c = count_record s in omega arith))

-- a part of the output that comes back as it was, and one that bytes were written into
part_unchanged : (out : List ℕ) (start k : ℕ) → take start out ++ (take k (drop start out) ++ drop k (drop start out)) ≡ out
part_unchanged out start k = ap (λ (l : List ℕ). take start out ++ l) (take-append-drop k (drop start out)) ∙ take-append-drop start out

part_written : (out bytes : List ℕ) (start : ℕ)
    → take start out ++ ((bytes ++ drop (length bytes) (take (length out - start) (drop start out)))
    ++ drop (length out - start) (drop start out)) ≡ appended out start bytes
part_written out bytes start =
    let d = length-drop start out in
    let all : take (length out - start) (drop start out) ≡ drop start out = take_all (length out - start) (drop start out) (omega arith) in
    let none : drop (length out - start) (drop start out) ≡ [] = drop_of_length-le (drop start out) {i = length out - start} (omega arith) in
    ap₂ (λ (x y : List ℕ). take start out ++ ((bytes ++ drop (length bytes) x) ++ y)) all none
    ∙ ap (λ (l : List ℕ). take start out ++ l) (append-nil (bytes ++ drop (length bytes) (drop start out)))
    ∙ part_back out start (length bytes) bytes refl

-- the packet behind the place of the head, and then the head
one_record : (s : Sent) (at : ℕ) (out : List ℕ) → at + 3 ≤ length out
    → Appends (s ∷ []) out at (at + 3 + length s.bytes) (appended (appended out (at + 3) s.bytes) at (s.seat ∷ bytes_of 2 (length s.bytes)))
unfolding record_bytes
one_record s at out h = record {
  answers = let c = count_one s in omega arith;
  leaves =
      appended_before out at (at + 3) (s.seat ∷ bytes_of 2 (length s.bytes)) s.bytes h (let l = length_bytes_of 2 (length s.bytes) in omega arith)
      ∙ ap (λ (x : List ℕ). appended out at x) (sym (sent_one s));
}

-- ---- the whole of a writer

module _ (s : Sent) (some : 1 ≤ length s.bytes) (at start : ℕ) (out : List ℕ) (place : start ≡ behind_head (length out) at) where
  abbrev lent : List ℕ
  lent = take (length out - start) (drop start out)

  abbrev back : List ℕ → List ℕ
  back new = take start out ++ (new ++ drop (length out - start) (drop start out))

  lent_long : length lent ≡ length out - start
  lent_long = length_lent out start (length out - start) (let l = behind_le (length out) at start place in omega arith)

  module _ (answer : Result ℕ Refusal) (new : List ℕ) (next : ℕ) (left : List ℕ) (e : next ≡ next_after answer at)
      (f : left ≡ headed answer s.seat at (back new)) where
    nothing : (why : Refusal) → answer ≡ Err why → new ≡ lent → Appends [] out at next left
    unfolding next_after headed
    nothing why a n =
        let m : next ≡ at = e ∙ ap (λ (w : Result ℕ Refusal). next_after w at) a in
        let o : left ≡ out = f ∙ ap₂ (λ (w : Result ℕ Refusal) (x : List ℕ). headed w s.seat at (back x)) a n ∙ part_unchanged out start (length out - start) in
        rw (m, o) (appends_none out at)

    one : length s.bytes ≤ length lent → answer ≡ Ok (length s.bytes) → new ≡ s.bytes ++ drop (length s.bytes) lent
        → Appends (s ∷ []) out at next left
    unfolding next_after headed
    one h a n =
        let r = room_behind (length out) at start place (length s.bytes) some (let l = lent_long in omega arith) in
        let head = s.seat ∷ bytes_of 2 (length s.bytes) in
        let m : next ≡ at + 3 + length s.bytes = e ∙ ap (λ (w : Result ℕ Refusal). next_after w at) a in
        let o : left ≡ appended (appended out (at + 3) s.bytes) at head =
        f ∙ ap₂ (λ (w : Result ℕ Refusal) (x : List ℕ). headed w s.seat at (back x)) a n
        ∙ ap (λ (x : List ℕ). appended x at head) (part_written out s.bytes start ∙ ap (λ (k : ℕ). appended out k s.bytes) r.0) in
        rw (m, o) (one_record s at out (let q = r.1 in omega arith))

    taken : {A : Type 0} (p : A) (b : Bool) → leb (length s.bytes) (length lent) ≡ b → Writes (packet p) s.bytes lent answer new
        → Appends (fitting (packet p) s at out) out at next left
    unfolding written_answer written_output
    taken p true t w =
        let l = leb-true (length s.bytes) (length lent) t in
        let r = room_behind (length out) at start place (length s.bytes) some (let q = lent_long in omega arith) in
        rw (does_fit p s at out r.1)
        (one l (w.answers ∙ ap (λ (b : Bool). cond b (Ok (length s.bytes)) (Err OutputTooShort)) t)
        (w.leaves ∙ ap (λ (b : Bool). cond b (s.bytes ++ drop (length s.bytes) lent) lent) t))
    taken p false t w =
        let l = leb-false (length s.bytes) (length lent) t in
        rw (does_not_fit p s at out (no_room (length out) at start place (length s.bytes) (let q = lent_long in omega arith)))
        (nothing OutputTooShort (w.answers ∙ ap (λ (b : Bool). cond b (Ok (length s.bytes)) (Err OutputTooShort)) t)
        (w.leaves ∙ ap (λ (b : Bool). cond b (s.bytes ++ drop (length s.bytes) lent) lent) t))

    finished : {A : Type 0} (judged : Read A) → Writes judged s.bytes lent answer new → Appends (fitting judged s at out) out at next left
    unfolding fitting written_answer written_output
    finished (refused why) w = nothing why w.answers w.leaves
    finished (packet p) w = taken p (leb (length s.bytes) (length lent)) refl w

-- ---- of one packet of the relay's

-- bytes that were written are all that were to be, and fit
written_fits : {A : Type 0} (judged : Read A) (bytes out left : List ℕ) (size : ℕ) → Writes judged bytes out (Ok size) left → (length bytes ≡ size) × (size ≤ length out)
unfolding written_answer
written_fits (refused why) bytes out left size w = let f : Ok size ≡ Err why = w.answers in cc
written_fits (packet p) bytes out left size w = go (leb (length bytes) (length out)) refl w.answers
  where
    go : (b : Bool) → leb (length bytes) (length out) ≡ b → Ok size ≡ cond b (Ok (length bytes)) (Err OutputTooShort) → (length bytes ≡ size) × (size ≤ length out)
    go true t e = let q : size ≡ length bytes = cc in let l = leb-true (length bytes) (length out) t in (omega arith, omega arith)
    go false t e = cc

-- every packet has a byte
some_byte : (p : FromRelay) → 1 ≤ length (relay_bytes p)
unfolding relay_bytes
some_byte (routing_response number key) = omega arith
some_byte (connect_notice number) = omega arith
some_byte (disconnect_notice number) = omega arith
some_byte (ping n) = omega arith
some_byte (pong n) = omega arith
some_byte (oob_received key bytes) = omega arith
some_byte (routed_data number bytes) = omega arith

module _ (p : FromRelay) (seat at start : ℕ) (out new : List ℕ) (answer : Result ℕ Refusal) (place : start ≡ behind_head (length out) at)
    (w : RelayWrites p (take (length out - start) (drop start out)) new answer) where
  -- where the packet was written, it has a byte and fits where it was put, so that the head has room behind the first `at` bytes
  pub head_room : (size : ℕ) → answer ≡ Ok size → (start ≡ at + 3) × (at + 3 + size ≤ length out)
  head_room size e =
      let lent = take (length out - start) (drop start out) in
      let l : length lent ≡ length out - start = length_lent out start (length out - start) (let q = behind_le (length out) at start place in omega arith) in
      let f = written_fits (relay_judged p) (relay_bytes p) lent new size (rw e at w.writes) in
      let s = some_byte p in
      room_behind (length out) at start place size (omega arith) (omega arith)

  pub record_written : (next : ℕ) (left : List ℕ)
      → (next ≡ next_after answer at) × (left ≡ headed answer seat at (take start out ++ (new ++ drop (length out - start) (drop start out))))
      → WritesRecord seat p out at next left
  unfolding to fitting_record
  record_written next left h = record {
    fits = w.fits;
    appends = finished (to seat p) (some_byte p) at start out place answer new next left h.0 h.1 (relay_judged p) w.writes;
  }

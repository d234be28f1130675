-- The stores' definitions, where the memory fits and has such a seat: what a change leaves.
use mathlib.Core.Path.{◌≡◌, sym, ap, ap₂, ◌∙◌}
use mathlib.Core.Bool.{true, false}
use mathlib.Core.List.{List, [], ◌∷◌, ◌++◌, append_assoc}
use Prim.Native.Nat.{ℕ, ◌+◌, ◌-◌, ◌≤◌}
use native.Mathlib.Nat.{not-suc-le-zero, le_of_suc-le-suc}
use native.Mathlib.Omega.{arith}
use lib.ListN.{length, take, drop, set, length-append}
use lib.Seq.{length-take-le, take_at, drop_at, drop-drop, set_split}
use borrow.Author.Tests.{le-ltb}
use Rattle.wire.proofs.Numbers.{length_bytes_of}
use Rattle.table_laws.specs.Bytes.{splice}
use Rattle.table_laws.specs.Table.{put_in, freed_in}
use Rattle.rules.specs.Room.{Key, first_number}
use Rattle.rules.specs.Outcome.{seat_taken, seat_emptied, ping_sent, ping_answered}
use Rattle.room_laws.specs.Layout.{word_bytes, clock_start, key_bytes, routes_bytes, seat_bytes, seats_bytes, room_header, fits_room, seat_table, ping_start, outstanding_start, routes_start, routes_table}
use Rattle.room_laws.specs.View.{word_at}
use Rattle.room_laws.specs.Store.{word_of, emptied, new_seat, with_ping_at, with_outstanding, with_seats, with_routes, store, MakesEmpty}
use Rattle.room_laws.specs.Lookup.{has_seat}
use Rattle.room.specs.Numbers.{given_number, freed_number}

module _ (s n : ℕ) (b : List ℕ) where
  pub store_taken : fits_room s n b ≡ true → (i : ℕ) (key : Key) → store s n b (seat_taken i key) ≡ splice b room_header (put_in s (seat_bytes n) (seat_table s n b) i (new_seat (word_at clock_start b) key)) (seats_bytes s n)
  unfolding store with_seats
  store_taken h i key = rw h

  pub store_emptied : fits_room s n b ≡ true → (i : ℕ) → store s n b (seat_emptied i) ≡ splice b room_header (freed_in s (seat_table s n b) i) (seats_bytes s n)
  unfolding store with_seats
  store_emptied h i = rw h

-- ---- the ping of a seat

-- a part replaced, and then the part behind it
pub splice_twice : (b x y : List ℕ) (at k m : ℕ) → length x ≡ k → at ≤ length b → splice (splice b at x k) (at + k) y m ≡ splice b at (x ++ y) (k + m)
splice_twice b x y at k m e h =
    let behind = drop k (drop at b) in
    let front : length (take at b ++ x) ≡ at + k = let q = length-take-le at b h in rw length-append (omega arith) in
    let first : splice b at x k ≡ (take at b ++ x) ++ behind = sym (append_assoc (take at b) x behind) in
    ap₂ (λ (p q : List ℕ). p ++ (y ++ drop m q))
    (ap (take (at + k)) first ∙ take_at (take at b ++ x) behind (at + k) front) (ap (drop (at + k)) first ∙ drop_at (take at b ++ x) behind (at + k) front)
    ∙ append_assoc (take at b) x (y ++ drop m behind)
    ∙ ap (λ (q : List ℕ). take at b ++ q)
    (sym (append_assoc x y (drop m behind)) ∙ ap (λ (q : List ℕ). (x ++ y) ++ q) (drop-drop m k (drop at b)))

module _ (s n : ℕ) (b : List ℕ) (i : ℕ) where
  pub store_sent : has_seat s n b i ≡ true → ping_start s n i ≤ length b → (time number : ℕ) →
      splice (splice b (ping_start s n i) (word_of time) word_bytes) (outstanding_start s n i) (word_of number) word_bytes ≡ store s n b (ping_sent i time number)
  unfolding store has_seat with_ping_at
  store_sent h within time number =
      ap (λ (x : ℕ). splice (splice b (ping_start s n i) (word_of time) word_bytes) x (word_of number) word_bytes)
      (let q : outstanding_start s n i ≡ ping_start s n i + word_bytes = omega arith in q)
      ∙ splice_twice b (word_of time) (word_of number) (ping_start s n i) word_bytes word_bytes (length_bytes_of word_bytes time) within ∙ rw h

  pub store_answered : has_seat s n b i ≡ true → store s n b (ping_answered i) ≡ splice b (outstanding_start s n i) (word_of 0) word_bytes
  unfolding store has_seat with_outstanding
  store_answered h = rw h

-- ---- the routes of a seat

module _ (s n : ℕ) (b : List ℕ) (i number : ℕ) where
  pub given_in : first_number ≤ number → has_seat s n b i ≡ true → (key : Key) →
      given_number s n b i number key ≡ splice b (routes_start s n i) (put_in n key_bytes (routes_table s n b i) (number - first_number) key) (routes_bytes n)
  unfolding given_number store has_seat with_routes
  given_in l h key = rw (le-ltb number first_number l, h)

  pub freed_in_lem : first_number ≤ number → has_seat s n b i ≡ true →
      freed_number s n b i number ≡ splice b (routes_start s n i) (freed_in n (routes_table s n b i) (number - first_number)) (routes_bytes n)
  unfolding freed_number store has_seat with_routes
  freed_in_lem l h = rw (le-ltb number first_number l, h)

-- ---- the empty room

-- its sizes, the count of its seats and its clock
pub empty_written : (s n : ℕ) (b : List ℕ) → 11 ≤ length b → splice (set (set (set b 0 s) 1 n) room_header 0) clock_start (word_of 0) word_bytes ≡ emptied s n b
unfolding emptied
empty_written s n [] h = absurd (not-suc-le-zero h)
empty_written s n (x ∷ []) h = absurd (not-suc-le-zero (le_of_suc-le-suc h))
empty_written s n (x ∷ y ∷ b) h =
    let e = set_split b word_bytes 0 (omega arith) in
    let l = length-take-le word_bytes b (omega arith) in
    ap (λ (l : List ℕ). s ∷ n ∷ (word_of 0 ++ l)) (ap (drop word_bytes) e ∙ drop_at (take word_bytes b) (0 ∷ drop 9 b) word_bytes l)

module _ (s n : ℕ) (b : List ℕ) where
  pub makes_empty : fits_room s n b ≡ true → (left : List ℕ) → left ≡ emptied s n b → MakesEmpty s n b left true
  makes_empty h left e = record { answers = rw h; leaves = rw h e }

  pub makes_none : fits_room s n b ≡ false → MakesEmpty s n b b false
  makes_none h = record { answers = rw h; leaves = rw h }

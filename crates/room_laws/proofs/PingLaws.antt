-- The ping of a seat replaced, or its number alone: that seat has the new ping, every other seat stays, and the room stays whole where the ping's time is not
-- after the clock.
use mathlib.Core.Path.{◌≡◌, refl, sym, ap, ap₂, ◌∙◌}
use mathlib.Core.Bool.{Bool, true, ◌&&◌}
use mathlib.Core.List.{List, ◌++◌, append_assoc}
use Prim.Native.Nat.{ℕ, ◌+◌, ◌^◌, ◌≤◌, ◌<◌}
use native.Mathlib.Omega.{arith}
use lib.ListN.{length, take, drop, length-append}
use lib.Seq.{take_at, drop_at, drop-drop}
use lib.Dec.{leb}
use borrow.Author.Tests.{le-leb}
use Rattle.wire.specs.Numbers.{number_of}
use Rattle.wire.proofs.Numbers.{length_bytes_of, number_bytes_of}
use Rattle.table_laws.specs.Bytes.{splice}
use Rattle.table_laws.specs.Table.{record_at, table_without}
use Rattle.table_laws.proofs.KeyOrder.{both}
use Rattle.rules.specs.Room.{Key, Route, Ping, Held, holds, none_since, set_key, set_ping, set_routes, set_seat, seat_at}
use Rattle.room_laws.specs.Layout.{word_bytes, key_bytes, seat_header, ping_in_seat, outstanding_in_seat, routes_in_seat, seat_bytes, seat_table, seat_start}
use Rattle.room_laws.specs.View.{clock_in, record_ping, held_in, view_routes, view_room}
use Rattle.room_laws.specs.Whole.{room_whole}
use Rattle.room_laws.specs.Store.{word_of, with_ping_at, with_outstanding}
use Rattle.room_laws.proofs.PartLaws.{splice_before, splice_from, splice_behind}
use Rattle.room_laws.proofs.ViewLaws.{seat_holds}
use Rattle.room_laws.proofs.WholeLaws.{SeatRecordWhole, whole_record, held_ping}
use Rattle.room_laws.proofs.ReplaceLaws.{part_view, part_length, part_whole, part_within, part_key}

-- ---- a part of a seat's header that ends where the header does

module _ (s n : ℕ) (b : List ℕ) (o : room_whole s n b ≡ true) (i : ℕ) (held : Held) (e : seat_at (view_room s n b) i ≡ holds held)
    (at : ℕ) (behind : key_bytes ≤ at) (new : List ℕ) (ends : at + length new ≡ routes_in_seat) where
  abbrev kept : List ℕ
  kept = record_at s (seat_bytes n) (seat_table s n b) i

  abbrev changed : List ℕ
  changed = splice kept at new (length new)

  most : at + length new ≤ seat_bytes n
  most = omega arith

  -- the routes stay, as the key does
  routes_stay : drop routes_in_seat changed ≡ drop routes_in_seat kept
  routes_stay = splice_behind kept new at (length new) (part_within s n b o i held e at behind new most) refl routes_in_seat (sym ends)

  key_stays : take key_bytes changed ≡ held.key
  key_stays = part_key s n b o i held e at behind new most

  -- THE LAW
  pub ping_replaced : (ping : Ping) → record_ping changed ≡ ping → ping.time ≤ clock_in b
      → (view_room s n (splice b (seat_start s n i + at) new (length new)) ≡ set_seat (view_room s n b) i (holds (set_ping held ping)))
      × (room_whole s n (splice b (seat_start s n i + at) new (length new)) ≡ true)
      × (length (splice b (seat_start s n i + at) new (length new)) ≡ length b)
  ping_replaced ping p h = (
    part_view s n b o i held e at behind new most ∙ ap (λ (x : Held). set_seat (view_room s n b) i (holds x)) is_held,
    part_whole s n b o i held e at behind new most whole,
    part_length s n b o i held e at behind new most,
  )
    where
      is_held : held_in n changed ≡ set_ping held ping
      is_held =
          ap₂ (λ (k : Key) (x : Ping). set_key (set_ping (held_in n changed) x) k) key_stays p
          ∙ ap (λ (l : List Route). set_ping (set_routes held l) ping) (ap (view_routes n) routes_stay ∙ ap (λ (x : Held). x.routes) (seat_holds s n b i held e).2)

      whole : SeatRecordWhole n (clock_in b) changed
      whole =
          let q = both (leb (record_ping kept).time (clock_in b)) _ (whole_record s n b o i (seat_holds s n b i held e).1) in
          ap₂ (λ (x y : Bool). x && y) (ap (λ (x : Ping). leb x.time (clock_in b)) p ∙ le-leb ping.time (clock_in b) h)
          (ap₂ (table_without n key_bytes) routes_stay (key_stays ∙ sym (ap (λ (x : Held). x.key) (seat_holds s n b i held e).2)) ∙ q.1)

-- ---- the two changes of a ping

module _ (s n : ℕ) (b : List ℕ) (o : room_whole s n b ≡ true) (i : ℕ) (held : Held) (e : seat_at (view_room s n b) i ≡ holds held) where
  -- the time and the number
  module _ (time number : ℕ) (small : time < 256 ^ word_bytes) (few : number < 256 ^ word_bytes) where
    abbrev both_words : List ℕ
    both_words = word_of time ++ word_of number

    words_long : length both_words ≡ seat_header
    words_long = let t = length_bytes_of word_bytes time in let m = length_bytes_of word_bytes number in rw length-append (omega arith)

    words_read : (r : List ℕ) → ping_in_seat ≤ length r → record_ping (splice r ping_in_seat both_words (length both_words)) ≡ record { time = time; number = number }
    words_read r within =
        let after = drop (length both_words) (drop ping_in_seat r) in
        let from = splice_from r both_words ping_in_seat (length both_words) within ∙ append_assoc (word_of time) (word_of number) after in
        ap₂ (λ (x y : ℕ). record { time = x; number = y })
        (ap (λ (x : List ℕ). number_of (take word_bytes x)) from
        ∙ ap number_of (take_at (word_of time) (word_of number ++ after) word_bytes (length_bytes_of word_bytes time)) ∙ number_bytes_of word_bytes time small)
        (ap (λ (x : List ℕ). number_of (take word_bytes x))
        (sym (drop-drop word_bytes ping_in_seat (splice r ping_in_seat both_words (length both_words))) ∙ ap (drop word_bytes) from
        ∙ drop_at (word_of time) (word_of number ++ after) word_bytes (length_bytes_of word_bytes time))
        ∙ ap number_of (take_at (word_of number) after word_bytes (length_bytes_of word_bytes number)) ∙ number_bytes_of word_bytes number few)

    pub ping_sent_lem : time ≤ clock_in b
        → (view_room s n (with_ping_at s n b i time number) ≡ set_seat (view_room s n b) i (holds (set_ping held (record { time = time; number = number }))))
        × (room_whole s n (with_ping_at s n b i time number) ≡ true) × (length (with_ping_at s n b i time number) ≡ length b)
    unfolding with_ping_at
    ping_sent_lem h =
        let l = words_long in
        rw l at
        (ping_replaced s n b o i held e ping_in_seat (omega arith) both_words (omega arith) (record { time = time; number = number })
        (words_read (record_at s (seat_bytes n) (seat_table s n b) i) (part_within s n b o i held e ping_in_seat (omega arith) both_words (omega arith))) h)

  -- the number alone: none is outstanding any more
  pub ping_answered_lem : (view_room s n (with_outstanding s n b i 0) ≡ set_seat (view_room s n b) i (holds (set_ping held (none_since held.ping.time))))
      × (room_whole s n (with_outstanding s n b i 0) ≡ true) × (length (with_outstanding s n b i 0) ≡ length b)
  unfolding with_outstanding
  ping_answered_lem =
      let l = length_bytes_of word_bytes 0 in
      rw l at
      (ping_replaced s n b o i held e outstanding_in_seat (omega arith) (word_of 0) (omega arith) (none_since held.ping.time) read (held_ping s n b o i held e))
    where
      read : record_ping (splice (record_at s (seat_bytes n) (seat_table s n b) i) outstanding_in_seat (word_of 0) (length (word_of 0))) ≡ none_since held.ping.time
      read =
          let l = length_bytes_of word_bytes 0 in
          let r = record_at s (seat_bytes n) (seat_table s n b) i in
          let within = part_within s n b o i held e outstanding_in_seat (omega arith) (word_of 0) (omega arith) in
          ap₂ (λ (x y : ℕ). record { time = x; number = y })
          (ap number_of (splice_before r (word_of 0) outstanding_in_seat (length (word_of 0)) within ping_in_seat word_bytes (omega arith))
          ∙ ap (λ (x : Held). x.ping.time) (seat_holds s n b i held e).2)
          (ap number_of
          (ap (take word_bytes) (splice_from r (word_of 0) outstanding_in_seat (length (word_of 0)) within)
          ∙ take_at (word_of 0) (drop (length (word_of 0)) (drop outstanding_in_seat r)) word_bytes l)
          ∙ number_bytes_of word_bytes 0 (omega arith))

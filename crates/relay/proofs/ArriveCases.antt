-- What an arrival leaves, case by case: a key that sits nowhere takes the lowest empty seat; a seated key leaves first, and then takes a seat of the room that
-- it has left. Assumes nothing.
use mathlib.Core.Path.{◌≡◌, refl, ap, ◌∙◌}
use mathlib.Core.Bool.{true, not}
use mathlib.Core.List.{List, []}
use Prim.Native.Nat.{ℕ}
use lib.ListN.{length}
use Rattle.refusal.specs.declared.Refusal.TheVariants.{RoomFull}
use Rattle.rules.specs.Room.{Key, Seat, vacant, holds, Room, set_seat, Found, none, at, find, seat_of, is_vacant, seat_at}
use Rattle.rules.specs.Call.{arrive, leave, Answer, accepted, refused, Sent}
use Rattle.rules.specs.Outcome.{outcome, leave_from, take_seat, accept, refuse, room_after, apply, apply_all, sent_bytes, tell_peers, seat_taken}
use Rattle.rules.proofs.ComesBack.{arrives_new, held, sits_there, Lowest, some_empty, comes_back_to}
use Rattle.room_laws.specs.View.{view_room}
use Rattle.room_laws.specs.Whole.{room_whole}
use Rattle.room_laws.specs.Store.{store, store_all}
use Rattle.room_laws.specs.Lookup.{taken}
use Rattle.room_laws.proofs.LookupLaws.{taken_is}
use Rattle.room_laws.proofs.OutcomeLaws.{outcome_stored}
use Rattle.records.proofs.AppendLaws.{appends_none, appends_front, appends_front_answer}
use Rattle.relay_laws.specs.Calls.{Leaves}
use Rattle.relay_laws.specs.Steps.{Made, departure, departure_from, departure_of, counting_all, TakesSeat}

-- ---- a seat taken

module _ (s n : ℕ) (key : Key) (b : List ℕ) (written : ℕ) where
  pub takes_none : find is_vacant (view_room s n b).seats ≡ none → TakesSeat s n key b written (refused RoomFull) b
  unfolding take_seat refuse store_all counting_all
  takes_none e = record { answers = rw e; stores = rw e }

  pub takes_lowest : (seat : ℕ) → find is_vacant (view_room s n b).seats ≡ at seat → (b' : List ℕ) → b' ≡ store s n b (seat_taken seat key)
      → TakesSeat s n key b written (accepted seat written) b'
  unfolding take_seat accept store_all counting_all
  takes_lowest seat e b' f = record { answers = rw e; stores = rw e f }

-- ---- whether it leaves first

module _ (s n : ℕ) (b : List ℕ) (whole : room_whole s n b ≡ true) (key : Key) (out : List ℕ) where
  abbrev room : Room
  room = view_room s n b

  -- a key that sits nowhere
  pub none_leaves : find (seat_of key) (view_room s n b).seats ≡ none → Made s n (departure_of s n b key) b out 0 b 0 out
  unfolding departure_from accept store_all
  none_leaves e = record { stores = rw e; writes = rw e (appends_none out 0) }

  -- a seated one
  module _ (old : ℕ) (found : find (seat_of key) (view_room s n b).seats ≡ at old) where
    there : seat_at room old ≡ holds (held room key old found)
    there = sits_there room key old found

    pub seat_taken_lem : taken s n b old ≡ true
    unfolding is_vacant
    seat_taken_lem = taken_is s n b whole old ∙ ap (λ (x : Seat). not (is_vacant x)) there

    pub one_leaves : (bytes : ℕ) (left out' : List ℕ) → Made s n (departure s n b old) b out 0 left bytes out' → Made s n (departure_of s n b key) b out 0 left bytes out'
    unfolding departure_from
    one_leaves bytes left out' made = rw found made

    -- once it has left
    module _ (bytes : ℕ) (left out' : List ℕ) (made : Made s n (departure s n b old) b out 0 left bytes out') where
      left_whole : room_whole s n left ≡ true
      unfolding outcome
      left_whole = rw made.stores (outcome_stored s n b whole (leave old) tt).1

      left_room : view_room s n left ≡ set_seat room old vacant
      unfolding outcome leave_from accept room_after apply_all apply
      left_room = ap (view_room s n) made.stores ∙ (outcome_stored s n b whole (leave old) tt).0 ∙ rw there

      takes_again : (given : Answer) (b' : List ℕ) → TakesSeat s n key left bytes given b' → Leaves s n (outcome room (arrive key)) b out given b' out'
      unfolding leave_from take_seat accept counting_all store_all
      takes_again given b' t = rw (comes_back_to room key old found low.place low.lowest) (record {
        answers = rw seat at t.answers ∙ ap (accepted low.place) (appends_front_answer _ out bytes out' made.writes ∙ ap (λ (l : List Sent). length (sent_bytes l)) sent);
        stores = rw seat at t.stores ∙ ap (λ (x : List ℕ). store s n x (seat_taken low.place key)) (made.stores ∙ rw there);
        writes = appends_front _ out bytes out' made.writes ∙ rw sent;
      })
        where
          low : Lowest room key old found
          low = some_empty room key old found

          seat : find is_vacant (view_room s n left).seats ≡ at low.place
          seat = ap (λ (r : Room). find is_vacant r.seats) left_room ∙ low.lowest

          sent : (departure s n b old).sent ≡ tell_peers room old key (held room key old found).routes
          sent = rw there

  -- ---- the arrival

  -- of a key that sits nowhere: nothing is written
  arrives_new_at : find (seat_of key) room.seats ≡ none → (given : Answer) (b' : List ℕ) → TakesSeat s n key b 0 given b' → Leaves s n (outcome room (arrive key)) b out given b' out
  unfolding take_seat accept refuse counting_all sent_bytes store_all
  arrives_new_at e given b' t = rw (arrives_new room key e) (go (find is_vacant room.seats) t.answers t.stores)
    where
      go : (f : Found) → given ≡ counting_all 0 (take_seat f key).answer → b' ≡ store_all s n b (take_seat f key).changes → Leaves s n (take_seat f key) b out given b' out
      go none a d = record { answers = a; stores = d; writes = refl }
      go (at seat) a d = record { answers = a; stores = d; writes = refl }

  -- whether it was seated or not
  module _ (bytes : ℕ) (left out' : List ℕ) (made : Made s n (departure_of s n b key) b out 0 left bytes out') where
    pub still_whole : room_whole s n left ≡ true
    unfolding departure_from accept store_all
    still_whole = go (find (seat_of key) room.seats) refl made
      where
        go : (f : Found) → find (seat_of key) room.seats ≡ f → Made s n (departure_from f s n b) b out 0 left bytes out' → room_whole s n left ≡ true
        go none e m = rw m.stores whole
        go (at old) e m = left_whole old e bytes left out' m

    pub arrives : (given : Answer) (b' : List ℕ) → TakesSeat s n key left bytes given b' → Leaves s n (outcome (view_room s n b) (arrive key)) b out given b' out'
    unfolding departure_from accept store_all sent_bytes
    arrives given b' = go (find (seat_of key) room.seats) refl made
      where
        go : (f : Found) → find (seat_of key) room.seats ≡ f → Made s n (departure_from f s n b) b out 0 left bytes out' → TakesSeat s n key left bytes given b'
            → Leaves s n (outcome room (arrive key)) b out given b' out'
        go none e m t =
            let none_written = appends_front_answer [] out bytes out' m.writes in
            rw (appends_front [] out bytes out' m.writes) (arrives_new_at e given b' (rw (m.stores, none_written) at t))
        go (at old) e m t = takes_again old e bytes left out' m given b' t

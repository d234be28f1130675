-- What a room's tables say of a seat and of a client's routes after one seat is replaced. Assumes nothing.
use mathlib.Core.Path.{◌≡◌, refl, sym, ap, ◌∙◌}
use mathlib.Core.Bool.{Bool, true, false, cond, true≢false}
use mathlib.Core.List.{List, []}
use Prim.Native.Nat.{ℕ, ◌<◌}
use lib.Dec.{eqb}
use lib.ListN.{length}
use borrow.Author.Tests.{eqb-true, eqb-false}
use Rattle.key.specs.Keys.{same_key}
use Rattle.key.proofs.Same.{same_sound}
use Rattle.rules.specs.Room.{Sizes, Key, Route, Held, Seat, vacant, holds, Room, newcomer, set_seat, Found, none, at, find, seat_of, is_vacant, routes_of, seat_at, route_at}
use Rattle.rules.specs.Whole.{Whole}
use Rattle.rules.specs.Transcript.{client_of}
use Rattle.rules.specs.After.{client_in, routes_in, routes_by}
use Rattle.rules.proofs.FindLaws.{find_hit, find_within, find_set_same, vacant_no_key, seat_set, seat_set_other, held_within, route_none, route_all_free}
use Rattle.rules.proofs.Whole.{key_found, left_nowhere}

-- ---- what is asked of a seat, after one seat is replaced

module _ (room : Room) (seat : ℕ) (s : Seat) (within : seat < length room.seats) where
  pub seat_put : {A : Type 0} (f : Seat → A) (here : ℕ) → f (seat_at (set_seat room seat s) here) ≡ cond (eqb seat here) (f s) (f (seat_at room here))
  seat_put f here = go (eqb seat here) refl
    where
      go : (t : Bool) → eqb seat here ≡ t → f (seat_at (set_seat room seat s) here) ≡ cond t (f s) (f (seat_at room here))
      go true e = ap f (ap (seat_at (set_seat room seat s)) (sym (eqb-true seat here e)) ∙ seat_set room seat s within)
      go false e = ap f (seat_set_other room seat s here (λ q. eqb-false seat here e (sym q)))

  -- who sits where
  pub client_set : (here : ℕ) → client_in (seat_at (set_seat room seat s) here) ≡ cond (eqb seat here) (client_in s) (client_in (seat_at room here))
  client_set here = seat_put client_in here

-- the same client sits there, whatever else of it is another
pub client_kept : (room : Room) (seat : ℕ) (held held' : Held) → held'.key ≡ held.key → seat_at room seat ≡ holds held
    → (here : ℕ) → client_in (seat_at (set_seat room seat (holds held')) here) ≡ client_in (seat_at room here)
unfolding client_in
client_kept room seat held held' same e here = client_set room seat (holds held') (held_within room seat held e) here ∙ go (eqb seat here) refl
  where
    go : (t : Bool) → eqb seat here ≡ t → cond t (client_of held'.key) (client_in (seat_at room here)) ≡ client_in (seat_at room here)
    go true q = sym (ap client_in (ap (seat_at room) (sym (eqb-true seat here q)) ∙ e) ∙ ap client_of (sym same))
    go false q = refl

-- ---- a client's routes, after one seat is replaced

-- by one that holds another key where another key was held
pub routes_else : (room : Room) (seat : ℕ) (s : Seat) (key : Key) → seat_of key (seat_at room seat) ≡ false → seat_of key s ≡ false → routes_by (set_seat room seat s) key ≡ routes_by room key
unfolding routes_by routes_in seat_at
routes_else room seat s key h hs = rw (find_set_same (seat_of key) vacant room.seats seat s (hs ∙ sym h)) (go (find (seat_of key) room.seats) refl)
  where
    go : (f : Found) → find (seat_of key) room.seats ≡ f → routes_in f (set_seat room seat s) ≡ routes_in f room
    go none q = refl
    go (at other) q = ap routes_of (seat_set_other room seat s other (λ z. true≢false (sym (find_hit (seat_of key) vacant room.seats other q) ∙ rw z h)))

module _ (sizes : Sizes) (room : Room) (whole : Whole sizes room) (seat : ℕ) (held : Held) (sits : seat_at room seat ≡ holds held) where
  pub routes_mine : routes_by room held.key ≡ held.routes
  unfolding routes_by routes_in routes_of
  routes_mine = rw (key_found sizes room whole seat held sits, sits)

  pub routes_put : (held' : Held) → held'.key ≡ held.key → routes_by (set_seat room seat (holds held')) held.key ≡ held'.routes
  unfolding routes_by routes_in routes_of seat_of seat_at
  routes_put held' same =
      rw (
        find_set_same (seat_of held.key) vacant room.seats seat (holds held') (rw (sits, same)),
        key_found sizes room whole seat held sits,
      ) (ap routes_of (seat_set room seat (holds held') (held_within room seat held sits)))

  pub routes_left : routes_by (set_seat room seat vacant) held.key ≡ []
  unfolding routes_by routes_in
  routes_left = rw (left_nowhere sizes room whole held.key seat (key_found sizes room whole seat held sits))

-- an arrival takes a seat: whoever's routes they are, each number has what it had
pub routes_arrived : (sizes : Sizes) (room : Room) (seat : ℕ) (key : Key) → find (seat_of key) room.seats ≡ none → find is_vacant room.seats ≡ at seat
    → Whole sizes (set_seat room seat (holds (newcomer sizes room.clock key)))
    → (k : Key) (number : ℕ) → route_at (routes_by room k) number ≡ route_at (routes_by (set_seat room seat (holds (newcomer sizes room.clock key))) k) number
unfolding seat_at seat_of routes_by routes_in
routes_arrived sizes room seat key hf he whole k number = go (same_key key k) refl
  where
    s : Seat
    s = holds (newcomer sizes room.clock key)

    go : (t : Bool) → same_key key k ≡ t → route_at (routes_by room k) number ≡ route_at (routes_by (set_seat room seat s) k) number
    go true q =
        rw (← (same_sound key k q), hf, routes_mine sizes (set_seat room seat s) whole seat (newcomer sizes room.clock key) (seat_set room seat s (find_within is_vacant room.seats seat he)))
        (route_none number ∙ sym (route_all_free sizes.numbers number))
    go false q = sym (ap (λ (t : List Route). route_at t number) (routes_else room seat s k (vacant_no_key k (seat_at room seat) (find_hit is_vacant vacant room.seats seat he)) q))

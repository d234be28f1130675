-- Whether a client is seated, by what has happened, is whether the room's tables have a seat with its key. Assumes nothing.
use mathlib.Core.Path.{◌≡◌, refl, ap, ◌∙◌}
use mathlib.Core.Bool.{Bool, true, false, ◌||◌}
use mathlib.Core.List.{List, [], ◌∷◌}
use Prim.Native.Nat.{ℕ, suc, ◌+◌}
use native.Mathlib.Omega.{arith}
use lib.ListN.{get_or, length}
use Rattle.rules.specs.Room.{Key, Seat, vacant, holds, Room, Found, none, at, or_later, find, seat_of, seat_at}
use Rattle.rules.specs.Transcript.{Past, is_client, Start, sits_from, is_seated}
use Rattle.rules.specs.After.{client_in, Tied}

-- whether a search has found something
unfoldable pub is_found : Found → Bool
is_found none = false
is_found (at i) = true

-- whether it is the client of a seat
pub client_of_lem : (key : Key) (s : Seat) → is_client key (client_in s) ≡ seat_of key s
unfolding is_client client_in seat_of
client_of_lem key vacant = refl
client_of_lem key (holds held) = refl

module _ (start : Start) (past : Past) (room : Room) (tie : Tied start past room) (key : Key) where
  seated_from : (from : ℕ) (l : List Seat) → ((i : ℕ) → seat_at room (from + i) ≡ get_or l i vacant) → sits_from start past key from (length l) ≡ is_found (find (seat_of key) l)
  unfolding sits_from find is_found
  seated_from from [] same = refl
  seated_from from (s ∷ l) same =
      let here : seat_at room from ≡ s = ap (seat_at room) (let q : from ≡ from + 0 = omega arith in q) ∙ same 0 in
      rw (
        tie.sits from,
        here,
        client_of_lem key s,
        seated_from (suc from) l (λ i. ap (seat_at room) (let q : suc from + i ≡ from + suc i = omega arith in q) ∙ same (suc i)),
      ) (go (seat_of key s) (find (seat_of key) l))
    where
      go : (t : Bool) (f : Found) → (t || is_found f) ≡ is_found (or_later t f)
      go true f = unfold is_found or_later in refl
      go false none = unfold is_found or_later in refl
      go false (at i) = unfold is_found or_later in refl

  pub seated_found : is_seated start past key ≡ is_found (find (seat_of key) room.seats)
  unfolding is_seated seat_at
  seated_found =
      ap (sits_from start past key 0) tie.seats
      ∙ seated_from 0 room.seats (λ i. ap (λ (n : ℕ). get_or room.seats n vacant) (let q : 0 + i ≡ i = omega arith in q))

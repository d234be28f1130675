-- The search for a peer, which goes by the room's tables, finds who is connected by what has happened: in a whole room that says what has happened says,
-- for each number of a seated client that names a key, it finds nobody where no two are connected on that number, and else the one seat and the one number
-- that are connected with it. Data, drops, leaves and requests all ask this search. Assumes nothing.
use mathlib.Core.Path.{◌≡◌, refl, sym, ap, ◌∙◌, subst}
use mathlib.Core.Bool.{true}
use Prim.Native.Nat.{ℕ, ◌-◌}
use Rattle.rules.specs.Room.{Sizes, Key, wants, Held, holds, Room, set_key, seat_at, route_at, first_number, number_of_place, Peer, alone, joined}
use Rattle.rules.specs.Whole.{Whole}
use Rattle.rules.specs.Outcome.{peer}
use Rattle.rules.specs.Transcript.{Past, Start, stands}
use Rattle.rules.specs.After.{Tied}
use Rattle.after_calls.specs.GoesOn.{Connected, OnlyPeer}
use Rattle.rules.proofs.FindLaws.{held_of, wanted_high}
use Rattle.rules.proofs.PeerLaws.{PeerHas, peer_has, has_peer}
use Rattle.rules.proofs.Tied.{seat_holds, sitter_is, stands_wants, wants_stands}

-- who is connected on a number asked under it
pub connected_asks : (sizes : Sizes) (start : Start) (past : Past) (room : Room) (whole : Whole sizes room) (tie : Tied start past room)
    (seat : ℕ) (held : Held) → seat_at room seat ≡ holds held
    → (number other number' : ℕ) (c : Connected start past seat number other number') → (c.key ≡ held.key) × (route_at held.routes number ≡ wants c.wanted)
connected_asks sizes start past room whole tie seat held sits number other number' c =
    let q : c.key ≡ held.key = (let a = c.here.sits in let b = sitter_is sizes start past room whole tie seat held sits in cc) in
    (q, stands_wants sizes start past room whole tie seat held sits number c.wanted (subst (λ (k : Key). stands start past k number c.wanted ≡ true) q c.here.asked))

module _ (sizes : Sizes) (start : Start) (past : Past) (room : Room) (whole : Whole sizes room) (tie : Tied start past room) (seat : ℕ) (held : Held)
    (sits : seat_at room seat ≡ holds held) (number : ℕ) (wanted : Key) (asks : route_at held.routes number ≡ wants wanted) where
  joined_connected : (other place : ℕ) → peer room seat held.key wanted ≡ joined other place → Connected start past seat number other (number_of_place place)
  joined_connected other place e =
      let has = peer_has room seat held.key wanted other place e in
      record {
        key = held.key;
        wanted = wanted;
        apart = has.apart;
        here = record { sits = sitter_is sizes start past room whole tie seat held sits; asked = wants_stands sizes start past room whole tie seat held sits number wanted asks };
        there = record { sits = sitter_is sizes start past room whole tie other (set_key has.held wanted) has.sits; asked = wants_stands sizes start past room whole tie other (set_key has.held wanted) has.sits (number_of_place place) held.key has.asked };
      }

  connected_has : (other number' : ℕ) → Connected start past seat number other number' → PeerHas room seat held.key wanted other number'
  connected_has other number' c =
      let mine = connected_asks sizes start past room whole tie seat held sits number other number' c in
      let q = mine.0 in
      let r : c.wanted ≡ wanted = (let a = mine.1 in cc) in
      let there = seat_holds sizes start past room whole tie other c.wanted c.there.sits in
      let has : PeerHas room seat c.key c.wanted other number' = record {
        apart = c.apart;
        held = held_of (seat_at room other);
        sits = there;
        asked = stands_wants sizes start past room whole tie other (set_key (held_of (seat_at room other)) c.wanted) there number' c.key c.there.asked;
      } in
      rw (q, r) at has

  connected_joined : (other number' : ℕ) → Connected start past seat number other number'
      → (peer room seat held.key wanted ≡ joined other (number' - first_number)) × (number' ≡ number_of_place (number' - first_number))
  connected_joined other number' c =
      let has = connected_has other number' c in
      (has_peer room seat held.key wanted sizes whole other number' has, wanted_high has.held.routes number' held.key has.asked)

  pub peer_is_connected : OnlyPeer start past seat number (peer room seat held.key wanted)
  unfolding OnlyPeer
  peer_is_connected = go (peer room seat held.key wanted) refl
    where
      go : (p : Peer) → peer room seat held.key wanted ≡ p → OnlyPeer start past seat number p
      go alone e = λ other number' c. (let h = (connected_joined other number' c).0 in absurd (cc))
      go (joined other place) e = (joined_connected other place e, only)
        where
          only : (other' number' : ℕ) → Connected start past seat number other' number' → (other ≡ other') × (number_of_place place ≡ number')
          only other' number' c =
              let h = connected_joined other' number' c in
              let p = h.0 in
              let i : place ≡ number' - first_number = cc in
              (cc, ap number_of_place i ∙ sym h.1)

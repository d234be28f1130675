-- The peer that the code found, and the rules' peer: read back, they are the same, and a number found is at least 16.
use mathlib.Core.Path.{◌≡◌, refl, sym, ap, ◌∙◌}
use Prim.Native.Nat.{◌-◌, ◌≤◌}
use native.Mathlib.Nat.{add-sub_cancel_left}
use native.Mathlib.Omega.{arith}
use Rattle.std.proofs.Common.{Option, Some, None}
use Rattle.rules.specs.Room.{first_number, Peer, alone, joined}
use Rattle.room.specs.declared.peer.Peer as code
use Rattle.room.specs.Numbers.{peer_found, peer_of, PeerRight}

pub peer_back : (p : Peer) → peer_of (peer_found p) ≡ p
unfolding peer_of peer_found
peer_back alone = refl
peer_back (joined seat place) = ap (joined seat) (add-sub_cancel_left 16 place)

pub peer_right : (p : Peer) → PeerRight (peer_found p)
unfolding PeerRight peer_found
peer_right alone = tt
peer_right (joined seat place) = omega arith

pub found_back : (p : Peer) (q : Option code.Peer) → q ≡ peer_found p → peer_of q ≡ p
found_back p q e = ap peer_of e ∙ peer_back p

pub found_right : (p : Peer) (q : Option code.Peer) → q ≡ peer_found p → PeerRight q
found_right p q e = rw e (peer_right p)

pub joined_right : (q : Option code.Peer) (peer : code.Peer) → q ≡ Some peer → PeerRight q → 16 ≤ peer.number.0
unfolding PeerRight
joined_right q peer e h = rw e at h

pub found_joined : (p : Peer) (r : Option code.Peer) → r ≡ peer_found p → (peer : code.Peer) → r ≡ Some peer
    → (p ≡ joined peer.seat.0 (peer.number.0 - first_number)) × (16 ≤ peer.number.0)
unfolding peer_of PeerRight
found_joined p r f peer e = (sym (found_back p r f) ∙ ap peer_of e, joined_right r peer e (found_right p r f))

pub found_alone : (p : Peer) (r : Option code.Peer) → r ≡ peer_found p → r ≡ None → p ≡ alone
unfolding peer_of
found_alone p r f e = sym (found_back p r f) ∙ ap peer_of e

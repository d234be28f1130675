-- Every whole room is the room of some bytes: of a whole room of bytes, as long as a room of these sizes is, where each key has 32 elements and the clock and
-- the numbers of pings have 8 bytes; and these are bytes of a memory, each below 256, where the keys' are. The room is built up from the empty one, change by
-- change, and each change is stored in the bytes.
use mathlib.Core.Path.{◌≡◌, ap, ◌∙◌}
use mathlib.Core.Bool.{true}
use mathlib.Core.List.{List}
use Prim.Native.Nat.{ℕ}
use native.Mathlib.Omega.{arith}
use lib.ListN.{length, replicate, length-replicate}
use borrow.Author.Tests.{le-leb}
use Rattle.wire.specs.Numbers.{Bytes}
use Rattle.key.specs.Keys.{IsKey}
use Rattle.rules.specs.Room.{Key, Room, empty_room, sizes_of}
use Rattle.rules.specs.Outcome.{Change, seat_taken, seat_emptied, route_given, route_freed, clock_set, ping_sent, ping_answered, apply}
use Rattle.rules.specs.Whole.{Whole}
use Rattle.room_laws.specs.Layout.{room_bytes, sizes_right, fits_room}
use Rattle.room_laws.specs.Store.{emptied, store}
use Rattle.room_laws.proofs.LayoutLaws.{sizes_facts}
use Rattle.room_laws.specs.Fits.{Fit}
use Rattle.room_laws.specs.Memory.{KeysAre, WordsFit, HasBytes, HasMemory}
use Rattle.room_laws.proofs.EmptyLaws.{empty_length, empty_whole, empty_view}
use Rattle.room_laws.proofs.StoreLaws.{store_is_apply}
use Rattle.room_laws.proofs.StoreBytes.{bytes_replicate, store_bytes, emptied_bytes}
use Rattle.room_laws.proofs.BuiltUp.{Brings, every_room_built_up}

module _ (s n : ℕ) (right : sizes_right s n ≡ true) where
  fits : fits_room s n (replicate (room_bytes s n) 0) ≡ true
  unfolding fits_room
  fits = rw (right, length-replicate {A = ℕ} (room_bytes s n) 0) (le-leb (room_bytes s n) (room_bytes s n) (omega arith))

  empty_has_bytes : HasBytes s n (empty_room (sizes_of s n))
  empty_has_bytes =
      let b : List ℕ = replicate (room_bytes s n) 0 in
      record {
        bytes = emptied s n b;
        long = empty_length s n b fits ∙ length-replicate {A = ℕ} (room_bytes s n) 0;
        whole = empty_whole s n b fits;
        is = empty_view s n b fits;
      }

  -- a change that fits a room with bytes makes a room with bytes
  change_has_bytes : (room : Room) (change : Change) → HasBytes s n room → Fit s n room change → HasBytes s n (apply (sizes_of s n) room change)
  change_has_bytes room change h fit =
      let q = store_is_apply s n h.bytes h.whole change (rw h.is fit) in
      record {
        bytes = store s n h.bytes change;
        long = q.2 ∙ h.long;
        whole = q.1;
        is = q.0 ∙ ap (λ (r : Room). apply (sizes_of s n) r change) h.is;
      }

  -- THE THEOREM
  pub every_room_has_bytes : (room : Room) → Whole (sizes_of s n) room → KeysAre (λ (key : Key). length key ≡ 32) room → WordsFit room → HasBytes s n room
  every_room_has_bytes =
      every_room_built_up s n (λ (key : Key). length key ≡ 32) (λ key l. l) (HasBytes s n) empty_has_bytes (λ room change h fit k. change_has_bytes room change h fit)

  -- and for keys that are bytes
  empty_has_memory : HasMemory s n (empty_room (sizes_of s n))
  unfolding empty_has_bytes
  empty_has_memory = record {
    has = empty_has_bytes;
    each = emptied_bytes s n (replicate (room_bytes s n) 0) (bytes_replicate (room_bytes s n) 0 (omega arith))
        (let q = (sizes_facts s n right).0 in omega arith) (let q = (sizes_facts s n right).1 in omega arith);
  }

  brings_bytes : (change : Change) → Brings IsKey change → Brings Bytes change
  brings_bytes (seat_taken i key) k = k.bytes
  brings_bytes (seat_emptied i) k = tt
  brings_bytes (route_given i j key) k = k.bytes
  brings_bytes (route_freed i j) k = tt
  brings_bytes (clock_set time) k = tt
  brings_bytes (ping_sent i time number) k = tt
  brings_bytes (ping_answered i) k = tt

  change_has_memory : (room : Room) (change : Change) → HasMemory s n room → Fit s n room change → Brings IsKey change → HasMemory s n (apply (sizes_of s n) room change)
  unfolding change_has_bytes
  change_has_memory room change h fit k = record {
    has = change_has_bytes room change h.has fit;
    each = store_bytes s n h.has.bytes h.each change (brings_bytes change k);
  }

  pub every_room_has_memory : (room : Room) → Whole (sizes_of s n) room → KeysAre IsKey room → WordsFit room → HasMemory s n room
  every_room_has_memory =
      every_room_built_up s n IsKey (λ key k. k.long) (HasMemory s n) empty_has_memory change_has_memory

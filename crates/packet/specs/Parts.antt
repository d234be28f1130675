-- The bytes at a place of the lent packet, and what it is for a slice to be a part of it.
use Rattle.std.specs.Prelude.{cond, List, [], ◌≡◌, ℕ, ◌+◌, ◌-◌, leb, length, take, drop}
use Rattle.std.specs.Borrow.{Bor}
use Rattle.packet.specs.declared.Part.{Part}

-- the bytes at a part of a packet; none where it runs past the end
unfoldable pub part_of : List ℕ → Part → List ℕ
part_of bytes part =
    cond (leb part.start (length bytes)) (cond (leb part.length (length bytes - part.start)) (take part.length (drop part.start bytes)) []) []

-- where such a part begins; the front of the packet where it runs past the end
unfoldable pub start_of : List ℕ → Part → ℕ
start_of bytes part = cond (leb part.start (length bytes)) (cond (leb part.length (length bytes - part.start)) part.start 0) 0

-- all bytes from a place on, as a part
abbrev pub part_behind : List ℕ → ℕ → Part
part_behind bytes at = record { start = at; length = length (drop at bytes) }

-- the part where there is no payload: no bytes, at the front
abbrev pub no_part : Part
no_part = record { start = 0; length = 0 }

-- "as part of the lent packet": what a returned slice holds, and where it stands. A reference points into a block, at an offset (`.ref_ptr`); the slice is in the
-- block of the lent packet, so many bytes behind the packet's first.
pub record PartAt (packet : Bor (List ℕ)) (part : Part) (slice : Bor (List ℕ)) : Type 0 where
  pub holds : slice.now ≡ part_of packet.now part
  pub stands : slice.ref_ptr ≡ (packet.ref_ptr.0, packet.ref_ptr.1 + start_of packet.now part)

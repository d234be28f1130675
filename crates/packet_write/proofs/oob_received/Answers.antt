-- `packet_write::oob_received` meets its contract: the size and the length are judged, then the packet is put. Assumes nothing.
use Rattle.std.proofs.Common.{◌+◌, ◌∷◌, ◌++◌, length}
use Rattle.wire.proofs.Numbers.{bytes_each}
use Rattle.key.proofs.Owned.{is_key}
use Rattle.refusal.specs.declared.Refusal.TheVariants.{PacketSize, WrongLength}
use Rattle.packet_laws.specs.Read.{check}
use Rattle.packet_laws.specs.Table.{size_right, length_right}
use Rattle.packet_laws.specs.FromRelay.{FitsRelay, relay_bytes, oob_received}
use Rattle.packet_laws.specs.Judged.{relay_judged}
use Rattle.packet_laws.proofs.Judged.{relay_oob_judged, relay_oob_size, relay_oob_length}
use Rattle.packet_write.specs.Written.{passed}
use Rattle.packet_write.proofs.WriteLaws.{accepted_writes, checked_writes}
use Rattle.packet_write.proofs.oob_received.Goals as goal

pub returns : goal.returns
unfolding FitsRelay relay_bytes
returns c =
    let a = c.args in
    let k = is_key a.key c.well_formed.0.0 c.well_formed.0.1.1 in
    let key = a.key.0 in
    let load = a.«data».now in
    let n = 33 + length load in
    let judged = relay_judged (oob_received key load) in
    let bytes = 7 ∷ (key ++ load) in
    record {
      fits = (k, bytes_each load (λ i. (c.type_inv.data i).fits));
      writes =
          checked_writes judged bytes a.out.now _ _ (size_right n) PacketSize (check (length_right 7 n) WrongLength passed) (relay_oob_size key load k.long)
          (λ e w.
          checked_writes judged bytes a.out.now _ _ (length_right 7 n) WrongLength passed (relay_oob_length key load k.long e)
          (λ f v. accepted_writes judged bytes a.out.now _ _ _ (relay_oob_judged key load k.long e f) v) w)
          c.addressed.ensures;
    }

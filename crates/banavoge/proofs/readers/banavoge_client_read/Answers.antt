-- `banavoge_client_read` meets its contract: the fields of the packet read, or the refusal. Assumes nothing.
use mir.Syntax.{w32}
use mir.ValLaws.{to_z-of_z}
use Rattle.wire.proofs.Numbers.{bytes_each}
use Rattle.packet_laws.specs.FromRelay.{client_read}
use Rattle.banavoge_laws.proofs.Reading.{client_told}
use Rattle.banavoge.proofs.readers.banavoge_client_read.Goals as goal

pub returns : goal.returns
returns c = record {
  bytes = bytes_each c.args.packet.now (λ i. (c.type_inv.packet i).fits);
  does =
      rw (to_z-of_z w32 c.tell.result (record { sfits = c.tell.type_inv }))
      (client_told (client_read c.args.packet.now) c.read.result c.map-read.result _ _ _ c.read.ensures.exact c.map-read.ensures.cases c.tell.ensures);
}

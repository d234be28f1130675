-- `packet_write::routing_request` meets its contract: the kind and the key are put. Assumes nothing.
use Rattle.std.proofs.Common.{◌∷◌}
use Rattle.key.proofs.Owned.{is_key}
use Rattle.packet_laws.specs.FromClient.{FitsClient, client_bytes, routing_request}
use Rattle.packet_laws.specs.Judged.{client_judged}
use Rattle.packet_laws.proofs.Judged.{client_request_judged}
use Rattle.packet_write.proofs.WriteLaws.{accepted_writes}
use Rattle.packet_write.proofs.routing_request.Goals as goal

pub returns : goal.returns
unfolding FitsClient client_bytes
returns c =
    let a = c.args in
    let k = is_key a.key c.well_formed.0.0 c.well_formed.0.1.1 in
    record {
      fits = k;
      writes = accepted_writes (client_judged (routing_request a.key.0)) (0 ∷ a.key.0) a.out.now _ _ _ (client_request_judged a.key.0 k.long) c.put.ensures;
    }

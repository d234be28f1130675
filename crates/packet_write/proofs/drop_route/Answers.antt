-- `packet_write::drop_route` meets its contract: every number is put. Assumes nothing.
use Rattle.std.proofs.Common.{[], ◌∷◌}
use Rattle.packet_laws.specs.FromClient.{FitsClient, client_bytes, drop_route}
use Rattle.packet_laws.specs.Judged.{client_judged}
use Rattle.packet_laws.proofs.Judged.{client_drop_judged}
use Rattle.packet_write.proofs.WriteLaws.{accepted_writes}
use Rattle.packet_write.proofs.drop_route.Goals as goal

pub returns : goal.returns
unfolding FitsClient client_bytes
returns c =
    let a = c.args in
    record {
      fits = c.well_formed.0.1.1.0.1;
      writes = accepted_writes (client_judged (drop_route a.number.0)) (3 ∷ a.number.0 ∷ []) a.out.now _ _ _ (client_drop_judged a.number.0) c.put.ensures;
    }

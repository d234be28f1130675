-- `packet_write::routing_response` meets its contract: the number is judged, then the bytes are put. Assumes nothing.
use Rattle.std.proofs.Common.{◌∷◌}
use Rattle.key.proofs.Owned.{is_key}
use Rattle.refusal.specs.declared.Refusal.TheVariants.{NoSuchRoute}
use Rattle.packet_laws.specs.Table.{number_right}
use Rattle.packet_laws.specs.FromRelay.{FitsRelay, relay_bytes, routing_response}
use Rattle.packet_laws.specs.Judged.{relay_judged}
use Rattle.packet_laws.proofs.Judged.{relay_response_judged, relay_response_number}
use Rattle.packet_write.specs.Written.{passed}
use Rattle.packet_write.proofs.WriteLaws.{accepted_writes, checked_writes}
use Rattle.packet_write.proofs.routing_response.Goals as goal

pub returns : goal.returns
unfolding FitsRelay relay_bytes
returns c =
    let n = c.args.number.0 in
    let key = c.args.key.0 in
    let k = is_key c.args.key c.well_formed.1.0.0 c.well_formed.1.0.1.1 in
    let judged = relay_judged (routing_response n key) in
    let bytes = 1 ∷ n ∷ key in
    record {
      fits = (c.well_formed.0.1.1.0.1, k);
      writes =
          checked_writes judged bytes c.args.out.now _ _ (number_right 1 n) NoSuchRoute passed (relay_response_number n key k.long)
          (λ e w. accepted_writes judged bytes c.args.out.now _ _ _ (relay_response_judged n key k.long e) w) c.numbered.ensures;
    }

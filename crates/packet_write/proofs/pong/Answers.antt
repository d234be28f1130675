-- `packet_write::pong` meets its contract: the number is judged as both ends judge it, then put. Assumes nothing.
use Rattle.std.proofs.Common.{◌∷◌, not}
use lib.Dec.{eqb}
use Rattle.wire.specs.Numbers.{bytes_of}
use Rattle.refusal.specs.declared.Refusal.TheVariants.{ZeroPing}
use Rattle.packet_laws.specs.FromClient as client
use Rattle.packet_laws.specs.FromRelay as relay
use Rattle.packet_laws.specs.Judged.{client_judged, relay_judged}
use Rattle.packet_laws.proofs.Judged.{client_pong_judged, client_pong_zero, relay_pong_judged, relay_pong_zero}
use Rattle.packet_write.specs.Written.{passed}
use Rattle.packet_write.proofs.WriteLaws.{accepted_writes, checked_writes, zero, other}
use Rattle.packet_write.proofs.pong.Goals as goal

pub returns : goal.returns
unfolding client.client_bytes relay.relay_bytes
returns c =
    let n = c.args.number in
    let fits = c.ranges.number.fits in
    let bytes = 5 ∷ bytes_of 8 n in
    record {
      as_client = record {
        fits = unfold client.FitsClient in fits;
        writes =
            checked_writes (client_judged (client.pong n)) bytes c.args.out.now _ _ (not (eqb n 0)) ZeroPing passed (λ e. client_pong_zero n fits (zero n e))
            (λ e w. accepted_writes (client_judged (client.pong n)) bytes c.args.out.now _ _ _ (client_pong_judged n fits (other n e)) w) c.pinging.ensures;
      };
      as_relay = record {
        fits = unfold relay.FitsRelay in fits;
        writes =
            checked_writes (relay_judged (relay.pong n)) bytes c.args.out.now _ _ (not (eqb n 0)) ZeroPing passed (λ e. relay_pong_zero n fits (zero n e))
            (λ e w. accepted_writes (relay_judged (relay.pong n)) bytes c.args.out.now _ _ _ (relay_pong_judged n fits (other n e)) w) c.pinging.ensures;
      };
    }

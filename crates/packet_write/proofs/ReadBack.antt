-- What stands at the front of the output that a writer leaves is read as the packet written, at either end. Assumes nothing.
use mathlib.Core.Path.{◌≡◌, ◌∙◌, ap}
use mathlib.Core.List.{List}
use Prim.Native.Nat.{ℕ}
use lib.ListN.{take}
use Rattle.std.specs.Prelude.{Ok}
use Rattle.packet_laws.specs.Read.{packet}
use Rattle.packet_laws.specs.FromClient.{FromClient, client_bytes, relay_read}
use Rattle.packet_laws.specs.FromRelay.{FromRelay, relay_bytes, client_read}
use Rattle.packet_laws.specs.Judged.{client_judged, relay_judged}
use Rattle.packet_write.specs.Written.{ClientWrites, RelayWrites}
use Rattle.packet_laws.proofs.ClientRoundTrip.{relay_reads_written}
use Rattle.packet_laws.proofs.RelayRoundTrip.{client_reads_written}
use Rattle.packet_write.proofs.WriteLaws.{writes_put}

pub relay_reads_output : (p : FromClient) (out left : List ℕ) (n : ℕ) → ClientWrites p out left (Ok n) → relay_read (take n left) ≡ packet p
relay_reads_output p out left n w =
    let put = writes_put (client_judged p) (client_bytes p) out left n w.writes in
    ap relay_read put.front ∙ (relay_reads_written p put.found w.fits put.taken).1

pub client_reads_output : (p : FromRelay) (out left : List ℕ) (n : ℕ) → RelayWrites p out left (Ok n) → client_read (take n left) ≡ packet p
client_reads_output p out left n w =
    let put = writes_put (relay_judged p) (relay_bytes p) out left n w.writes in
    ap client_read put.front ∙ (client_reads_written p put.found w.fits put.taken).1

-- What the host reads in an output that begins with records is these records, as far as the answer counts; so the records of a call are determined by its
-- answer and its output. Assumes nothing.
use mathlib.Core.Path.{◌≡◌}
use mathlib.Core.List.{List, ◌++◌}
use Prim.Native.Nat.{ℕ}
use native.Mathlib.Omega.{arith}
use lib.ListN.{length}
use lib.Seq.{take-append_seam}
use Rattle.rules.specs.Call.{Answer, Sent}
use Rattle.rules.specs.Outcome.{sent_bytes}
use Rattle.records.specs.Read.{Short}
use Rattle.records.proofs.RoundTrips.{reads_back}
use Rattle.relay_laws.specs.Calls.{written}
use Rattle.histories.specs.Seen.{records_read}

pub written_read : (sent : List Sent) → Short sent → (given : Answer) → written given ≡ length (sent_bytes sent) → (behind : List ℕ)
    → records_read given (sent_bytes sent ++ behind) ≡ sent
unfolding records_read
written_read sent h given e behind = rw (e, take-append_seam (sent_bytes sent) behind) (reads_back sent h (length (sent_bytes sent)) (omega arith))

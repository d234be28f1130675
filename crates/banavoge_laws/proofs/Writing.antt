-- What a writer of `packet_write` promises, carried over to the exported one. Assumes nothing.
use mathlib.Core.Path.{◌≡◌, refl}
use mathlib.Core.Bool.{Bool, true, false, cond}
use mathlib.Core.List.{List}
use Prim.Native.Nat.{ℕ, ◌≤◌}
use lib.Dec.{leb}
use lib.ListN.{length}
use Rattle.std.proofs.Common.{Result, Ok, Err}
use Rattle.refusal.specs.declared.Refusal.{Refusal}
use Rattle.refusal.specs.declared.Refusal.TheVariants.{OutputTooShort}
use Rattle.packet_laws.specs.Read.{Read, packet, refused}
use Rattle.packet_laws.specs.FromClient.{FromClient, client_bytes}
use Rattle.packet_laws.specs.FromRelay.{FromRelay, relay_bytes}
use Rattle.packet_write.specs.Written.{Writes, ClientWrites, RelayWrites, written_answer}
use Rattle.packet_laws.specs.Judged.{client_judged, relay_judged}
use Rattle.packet_laws.proofs.ClientRoundTrip.{client_judged_size}
use Rattle.packet_laws.proofs.RelayRoundTrip.{relay_judged_size}
use Rattle.banavoge_laws.specs.Answers.{Counted}

-- ---- every count is that of a packet, so it is small

fits : (t : Bool) (n : ℕ) → n ≤ 2032 → Counted (cond t (Ok n) (Err OutputTooShort))
unfolding Counted
fits true n h = h
fits false n h = tt

module _ {A : Type 0} (bytes out : List ℕ) (w : Result ℕ Refusal) where
  answered : (judged : Read A) → ((p : A) → judged ≡ packet p → length bytes ≤ 2032) → Counted (written_answer judged bytes out)
  unfolding written_answer Counted
  answered (packet p) h = fits (leb (length bytes) (length out)) (length bytes) (h p refl)
  answered (refused why) h = tt

  small : (judged : Read A) (left : List ℕ) → ((p : A) → judged ≡ packet p → length bytes ≤ 2032) → Writes judged bytes out w left → Counted w
  small judged left h writes = rw writes.answers (answered judged h)

pub client_counted : (p : FromClient) (out : List ℕ) (w : Result ℕ Refusal) (left : List ℕ) → ClientWrites p out left w → Counted w
client_counted p out w left writes = small (client_bytes p) out w (client_judged p) left (client_judged_size p) writes.writes

pub relay_counted : (p : FromRelay) (out : List ℕ) (w : Result ℕ Refusal) (left : List ℕ) → RelayWrites p out left w → Counted w
relay_counted p out w left writes = small (relay_bytes p) out w (relay_judged p) left (relay_judged_size p) writes.writes

-- Where a writer appends its record: the packet is one that the client's reader takes, and the output has room. Assumes nothing.
use mathlib.Core.Path.{◌≡◌, ◌∙◌, refl, ap, subst}
use mathlib.Core.Bool.{true}
use mathlib.Core.List.{List, [], ◌∷◌}
use Prim.Native.Nat.{ℕ, ◌+◌, ◌≤◌, ◌<◌}
use native.Mathlib.Omega.{arith}
use borrow.Author.Tests.{le-leb, ne_eqb}
use lib.ListN.{length, length-append}
use Rattle.wire.proofs.Numbers.{length_bytes_of}
use Rattle.packet_laws.specs.Read.{Read, packet}
use Rattle.packet_laws.specs.FromRelay.{FromRelay, FitsRelay, routing_response, connect_notice, disconnect_notice, ping, pong, oob_received, routed_data, relay_bytes}
use Rattle.packet_laws.specs.Table.{length_right, number_right}
use Rattle.packet_laws.specs.Judged.{relay_judged}
use Rattle.packet_laws.proofs.KindLaws.{size_within}
use Rattle.packet_laws.proofs.Judged.{relay_response_judged, relay_connect_judged, relay_disconnect_judged, relay_ping_judged, relay_pong_judged, relay_oob_judged, relay_data_judged}
use Rattle.rules.specs.Call.{Sent}
use Rattle.rules.specs.Outcome.{to}
use Rattle.records.specs.Output.{Appends, fitting, fitting_record, WritesRecord, Answers, none, given}
use Rattle.records.proofs.WriteLaws.{does_fit}

-- the table's row for an out-of-band packet
oob_within : (n : ℕ) → 34 ≤ n → n ≤ 1057 → length_right 7 n ≡ true
unfolding length_right
oob_within n a b = simp (le-leb 34 n a, le-leb n 1057 b)

-- a number that a response may carry is one that the client's reader takes
answers_right : {number : ℕ} → Answers number → number_right 1 number ≡ true
unfolding number_right
answers_right none = refl
answers_right (given number h) = simp (ne_eqb number 0 (omega arith), le-leb 16 number h)

module _ {seat at next : ℕ} {out left : List ℕ} where
  plain : (p q : FromRelay) → relay_judged p ≡ packet q → at + 3 + length (relay_bytes p) ≤ length out → WritesRecord seat p out at next left
      → Appends (to seat p ∷ []) out at next left
  unfolding to fitting_record
  plain p q e h w =
      subst (λ (l : List Sent). Appends l out at next left)
      (ap (λ (j : Read FromRelay). fitting j (to seat p) at out) e ∙ does_fit q (to seat p) at out h) w.appends

  pub connected_fits : (number : ℕ) → 16 ≤ number → at + 5 ≤ length out → WritesRecord seat (connect_notice number) out at next left
      → Appends (to seat (connect_notice number) ∷ []) out at next left
  unfolding relay_bytes
  connected_fits number n h = plain (connect_notice number) _ (relay_connect_judged number n) (omega arith)

  pub disconnected_fits : (number : ℕ) → 16 ≤ number → at + 5 ≤ length out → WritesRecord seat (disconnect_notice number) out at next left
      → Appends (to seat (disconnect_notice number) ∷ []) out at next left
  unfolding relay_bytes
  disconnected_fits number n h = plain (disconnect_notice number) _ (relay_disconnect_judged number n) (omega arith)

  pub response_fits : (number : ℕ) (key : List ℕ) → Answers number → at + 37 ≤ length out → WritesRecord seat (routing_response number key) out at next left
      → Appends (to seat (routing_response number key) ∷ []) out at next left
  unfolding relay_bytes FitsRelay
  response_fits number key n h w =
      let l = w.fits.1.long in
      plain (routing_response number key) _ (relay_response_judged number key l (answers_right n)) (omega arith) w

  pub answered_fits : (n : ℕ) → 0 < n → at + 12 ≤ length out → WritesRecord seat (pong n) out at next left → Appends (to seat (pong n) ∷ []) out at next left
  unfolding relay_bytes FitsRelay
  answered_fits n z h w = let l = length_bytes_of 8 n in plain (pong n) _ (relay_pong_judged n w.fits (omega arith)) (omega arith) w

  pub pinged_fits : (n : ℕ) → 0 < n → at + 12 ≤ length out → WritesRecord seat (ping n) out at next left → Appends (to seat (ping n) ∷ []) out at next left
  unfolding relay_bytes FitsRelay
  pinged_fits n z h w = let l = length_bytes_of 8 n in plain (ping n) _ (relay_ping_judged n w.fits (omega arith)) (omega arith) w

  pub out_of_band_fits : (key bytes : List ℕ) → 1 ≤ length bytes → length bytes ≤ 1024 → at + 1060 ≤ length out
      → WritesRecord seat (oob_received key bytes) out at next left
      → Appends (to seat (oob_received key bytes) ∷ []) out at next left
  unfolding relay_bytes FitsRelay
  out_of_band_fits key bytes a b h w =
      let l = w.fits.0.long in
      let m = length-append key bytes in
      plain (oob_received key bytes) _
      (relay_oob_judged key bytes l (size_within (33 + length bytes) (omega arith) (omega arith))
      (oob_within (33 + length bytes) (omega arith) (omega arith))) (omega arith) w

  pub data_fits : (number : ℕ) (bytes : List ℕ) → 16 ≤ number → 1 ≤ length bytes → length bytes ≤ 2031 → at + 2035 ≤ length out
      → WritesRecord seat (routed_data number bytes) out at next left → Appends (to seat (routed_data number bytes) ∷ []) out at next left
  unfolding relay_bytes
  data_fits number bytes n a b h =
      plain (routed_data number bytes) _ (relay_data_judged number bytes (size_within (1 + length bytes) (omega arith) (omega arith)) n a) (omega arith)

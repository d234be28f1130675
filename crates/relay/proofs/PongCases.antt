-- A pong: it clears the ping that is outstanding where it bears its number, and otherwise does nothing. Assumes nothing.
use mathlib.Core.Path.{◌≡◌, sym, ◌∙◌}
use mathlib.Core.Bool.{true, false}
use mathlib.Core.List.{List}
use mathlib.Core.Logic.{◌≢◌}
use Prim.Native.Nat.{ℕ}
use lib.Dec.{eqb}
use borrow.Author.Tests.{eq-eqb, ne_eqb}
use Rattle.rules.specs.Call.{accepted}
use Rattle.rules.specs.Outcome.{act, pong_at, accept, sent_bytes, ping_answered}
use Rattle.room_laws.specs.View.{seat_held}
use Rattle.room_laws.specs.Whole.{room_whole}
use Rattle.room_laws.specs.Store.{store, store_all}
use Rattle.room_laws.specs.Lookup.{outstanding_of}
use Rattle.room_laws.proofs.LookupLaws.{outstanding_is}
use Rattle.relay.specs.Steps.{Pongs}

module _ (s n : ℕ) (b : List ℕ) (whole : room_whole s n b ≡ true) (i number : ℕ) where
  pub pong_clears : outstanding_of s n b i ≡ number → (b' : List ℕ) → b' ≡ store s n b (ping_answered i) → Pongs s n i number b (accepted i 0) b'
  unfolding act pong_at accept store_all sent_bytes
  pong_clears h b' f key out sits =
      let e : eqb number (seat_held s n b i key).ping.number ≡ true = eq-eqb number _ (sym h ∙ outstanding_is s n b whole i (seat_held s n b i key) sits) in
      record { answers = rw e; stores = rw e f; writes = rw e }

  pub pong_passes : outstanding_of s n b i ≢ number → Pongs s n i number b (accepted i 0) b
  unfolding act pong_at accept store_all sent_bytes
  pong_passes h key out sits =
      let e : eqb number (seat_held s n b i key).ping.number ≡ false = ne_eqb number _ (λ q. h (outstanding_is s n b whole i (seat_held s n b i key) sits ∙ sym q)) in
      record { answers = rw e; stores = rw e; writes = rw e }

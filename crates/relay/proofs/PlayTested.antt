-- The test of the room before a run.
use mathlib.Core.Path.{◌≡◌, refl}
use mathlib.Core.Bool.{true, false}
use mathlib.Core.List.{List}
use Prim.Native.Nat.{ℕ}
use Rattle.std.proofs.Common.{Ok, Err}
use Rattle.refusal.specs.declared.Refusal.TheVariants.{RoomNotWhole}
use Rattle.room_laws.specs.Whole.{room_whole}
use Rattle.room_laws.specs.Store.{store_all}
use Rattle.relay.specs.declared.play.Run.{Run}
use Rattle.relay.specs.Play.{playing, Plays}
use Rattle.relay.specs.PlaySteps.{RunsOn}

module _ (s n allowance : ℕ) (stored b out : List ℕ) where
  pub play_not_whole : room_whole s n b ≡ false → Plays s n allowance stored b out b out (Err RoomNotWhole)
  unfolding playing store_all
  play_not_whole e = rw e (record { answers = refl; stores = refl; writes = refl })

  pub play_tested : room_whole s n b ≡ true → (given : Run) (b' out' : List ℕ)
      → RunsOn s n allowance stored b out given b' out' → Plays s n allowance stored b out b' out' (Ok given)
  unfolding playing
  play_tested e given b' out' w = rw e w

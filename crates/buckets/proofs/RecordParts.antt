-- The parts of a record, read where they stand. Assumes nothing.
use mathlib.Core.Path.{◌≡◌}
use mathlib.Core.List.{List}
use Prim.Native.Nat.{ℕ}
use Prim.Native.Nat.{◌<◌, ◌^◌}
use native.Mathlib.Omega.{arith}
use lib.ListN.{length, take, drop}
use lib.Seq.{take_all}
use Rattle.wire.specs.Numbers.{Bytes, number_of}
use Rattle.wire.proofs.Numbers.{bytes_take, bytes_drop, number_lt}
use Rattle.wire.proofs.Copy.{length_lent}
use Rattle.key.specs.Keys.{key_of}
use Rattle.key.proofs.Lent.{key_itself}

module _ (s : List ℕ) (long : length s ≡ 51) where
  port_two : length (take 2 (drop 49 s)) ≡ 2
  port_two = length_lent s 49 2 (omega arith)

  pub port_part : take 8 (take 2 (drop 49 s)) ≡ take 2 (drop 49 s)
  port_part = take_all 8 (take 2 (drop 49 s)) (let e = port_two in omega arith)

  pub port_small : Bytes s → number_of (take 2 (drop 49 s)) < 2 ^ 16
  port_small b = rw port_two at (number_lt (take 2 (drop 49 s)) (bytes_take 2 (drop 49 s) (bytes_drop 49 s b)))

pub key_part : (s : List ℕ) → length s ≡ 51 → key_of (take 32 s) ≡ take 32 s
key_part s e = key_itself (take 32 s) (length_lent s 0 32 (omega arith))

-- `Records::all_rise` meets its contract. The invariant: what was passed rises up to the last place, and what is left behind it decides. Assumes nothing.
use mathlib.Core.Path.{◌≡◌}
use Prim.Native.Nat.{ℕ}
use lib.ListN.{length, drop}
use Rattle.table_laws.specs.Table.{key_at, table_whole, rising_after}
use Rattle.table.proofs.records.Records.all_rise.Given as goal

abbrev pub invariant-loop-next : goal.invariant-loop-next
invariant-loop-next l =
    (length l.last ≡ 32)
    × ((m : ℕ) × ((l.last ≡ key_at l.self.shape.places l.self.shape.width l.self.bytes.now m)
    × (table_whole l.self.shape.places l.self.shape.width l.self.bytes.now
    ≡ rising_after l.self.shape.places (key_at l.self.shape.places l.self.shape.width l.self.bytes.now) m (drop l.next-index l.rest))))

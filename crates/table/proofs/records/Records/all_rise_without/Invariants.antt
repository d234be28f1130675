-- `Records::all_rise_without` meets its contract. The invariant: what was passed rises up to the last place, what is left behind it decides whether all do, and
-- where no first byte was alike the key is not among those passed. Assumes nothing.
use mathlib.Core.Path.{◌≡◌}
use mathlib.Core.Bool.{false}
use Prim.Native.Nat.{ℕ}
use lib.ListN.{length, drop}
use Rattle.table_laws.specs.Table.{listed, key_at, table_whole, rising_after, find_key}
use Rattle.table.proofs.records.Records.all_rise_without.Given as goal

abbrev pub invariant-loop-next : goal.invariant-loop-next
invariant-loop-next l =
    (length l.last ≡ 32)
    × ((m : ℕ) × ((l.last ≡ key_at l.self.shape.places l.self.shape.width l.self.bytes.now m)
    × (table_whole l.self.shape.places l.self.shape.width l.self.bytes.now
    ≡ rising_after l.self.shape.places (key_at l.self.shape.places l.self.shape.width l.self.bytes.now) m (drop l.next-index l.rest))))
    × (l.alike ≡ false
    → find_key l.self.shape.places (key_at l.self.shape.places l.self.shape.width l.self.bytes.now) l.key (listed l.self.shape.places l.self.bytes.now)
    ≡ find_key l.self.shape.places (key_at l.self.shape.places l.self.shape.width l.self.bytes.now) l.key (drop l.next-index l.rest))

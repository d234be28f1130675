-- `Records::position_of` meets its contract. The invariant: those passed come before the key, and what is left decides. Assumes nothing.
use mathlib.Core.Path.{◌≡◌}
use Prim.Native.Nat.{◌+◌}
use lib.ListN.{drop}
use Rattle.table_laws.specs.Table.{key_at, position}
use Rattle.table.proofs.records.Records.position_of.Given as goal

abbrev pub invariant-loop-place : goal.invariant-loop-place
invariant-loop-place l =
    (l.before ≡ l.place-index)
    × (position (key_at l.self.shape.places l.self.shape.width l.self.bytes.now) l.key l.place-items
    ≡ l.place-index + position (key_at l.self.shape.places l.self.shape.width l.self.bytes.now) l.key (drop l.place-index l.place-items))

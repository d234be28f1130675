-- `Records::place_of` meets its contract. The invariant: none of those passed has the key, and what is left decides. Assumes nothing.
use mathlib.Core.Path.{◌≡◌}
use lib.ListN.{drop}
use Rattle.table_laws.specs.Table.{key_at, find_key}
use Rattle.table.proofs.records.Records.place_of.Given as goal

abbrev pub invariant-loop-place : goal.invariant-loop-place
invariant-loop-place l =
    find_key l.self.shape.places (key_at l.self.shape.places l.self.shape.width l.self.bytes.now) l.key l.place-items
    ≡ find_key l.self.shape.places (key_at l.self.shape.places l.self.shape.width l.self.bytes.now) l.key (drop l.place-index l.place-items)

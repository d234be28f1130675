-- The records of a table, as its private functions are lent them: the key of each place, and the places listed.
use Rattle.std.specs.Prelude.{List, ℕ}
use Rattle.table_laws.specs.Table.{key_at, listed}
use Rattle.table.specs.declared.records.Records.{Records}

abbrev pub keys : Records → ℕ → List ℕ
keys r = key_at r.shape.places r.shape.width r.bytes.now

abbrev pub order : Records → List ℕ
order r = listed r.shape.places r.bytes.now

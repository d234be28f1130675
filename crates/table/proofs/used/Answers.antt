-- `table::used` meets its contract: the part lent is what the order lists. Assumes nothing.
use mathlib.Core.Path.{◌≡◌, sym, ◌∙◌}
use mathlib.Core.List.{List, []}
use Prim.Native.Nat.{ℕ, ◌<◌, ◌≤◌}
use lib.ListN.{length}
use borrow.Author.Tests.{lt-ltb, le-ltb}
use Rattle.table_laws.specs.Table.{listed, used_places}
use Rattle.table.proofs.used.Goals as goal

module _ (p : ℕ) (b : List ℕ) where
  used_short : length b ≤ p → used_places p b ≡ []
  unfolding used_places
  used_short h = rw (le-ltb p (length b) h)

  used_is : p < length b → used_places p b ≡ listed p b
  unfolding used_places
  used_is h = rw (lt-ltb p (length b) h)

pub returns-then-table-places : goal.returns-then-table-places
returns-then-table-places c = let a = c.args in sym (used_short a.places a.table.now c.if-table-places.true)

pub returns : goal.returns
returns c = let a = c.args in c.listed.ensures ∙ sym (used_is a.places a.table.now c.if-table-places.false)

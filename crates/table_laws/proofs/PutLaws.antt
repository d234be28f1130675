-- Where a whole table does not list a place, the test of `put` passes, so a record that fits is put there.
use mathlib.Core.Path.{◌≡◌, ◌∙◌}
use mathlib.Core.Bool.{true, false}
use mathlib.Core.List.{List}
use Prim.Native.Nat.{ℕ, ◌≤◌, ◌<◌}
use native.Mathlib.Omega.{arith}
use lib.ListN.{length}
use borrow.Author.Tests.{le-leb}
use Rattle.lists.specs.Find.{member}
use Rattle.table_laws.specs.Table.{Table, listed, table_whole, put, put_in}
use Rattle.table_laws.proofs.FitsLaws.{table_fits, put_may, may_is}
use Rattle.table_laws.proofs.Distinct.{unlisted_leaves_room}

module _ (p w : ℕ) (b : List ℕ) (t : Table p w b) (o : table_whole p w b ≡ true) (n : ℕ) (below : n < p) (absent : member n (listed p b) ≡ false) where
  pub put_in_is_put : (new : List ℕ) → 32 ≤ length new → length new ≤ w → put_in p w b n new ≡ put p w b n new
  put_in_is_put new l m =
      let room = unlisted_leaves_room p w b (let q = t.long in omega arith) o n below absent in
      put_may p w b n new (may_is p w b n new (table_fits p w b t) room below l ∙ le-leb (length new) w m)

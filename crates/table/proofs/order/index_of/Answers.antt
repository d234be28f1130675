-- `order::index_of` meets its contract: the first that is the place, where one is. Assumes nothing.
use mathlib.Core.Path.{◌∙◌, refl, ap, sym}
use Prim.Native.Nat.{ℕ}
use lib.Dec.{eqb, ltb}
use lib.ListN.{length}
use Rattle.std.proofs.Common.{one-add, rules, tests, cond, Some, None}
use Rattle.std.proofs.lemmas.Iterator.{YieldsList-from_slice}
use Rattle.std.proofs.lemmas.Iterator.Search.{position_from_yields_List}
use Rattle.std.proofs.lemmas.List.Recursion.{is_position_or_len}
use Rattle.lists.specs.Find.{index_of}
use Rattle.lists.proofs.Found.{first_none, first_one}
use Rattle.table_laws.specs.Table.{place_below, listed}
use Rattle.table.proofs.order.index_of.Goals as goal

pub returns : goal.returns
unfolding place_below
returns c =
    let a = c.args in
    let t = λ (m : ℕ). eqb m a.place in
    let ns = listed a.places a.table.now in
    let e = is_position_or_len (index_of a.place) t (first_none t) (λ x xs. rw one-add (first_one t x xs (t x) refl)) ns in
    position_from_yields_List t _ _ c.position.result c.position.ensures.ran (YieldsList-from_slice ns cc) (λ x b q k. search (rules, tests))
    ∙ ap (λ (x : ℕ). cond (ltb x (length ns)) (Some x) None) (sym e)

-- `order::remove` meets its contract: a place that is not listed changes nothing; else the order is closed over it and the count is one less.
-- Assumes nothing.
use mathlib.Core.Path.{◌≡◌, refl, ap₂, ◌∙◌}
use Prim.Native.Nat.{ℕ, ◌+◌, ◌-◌}
use native.Mathlib.Omega.{arith}
use lib.ListN.{length, take, drop, get_or, length-drop}
use lib.Seq.{length-take-le}
use Rattle.lists.specs.Find.{index_of}
use Rattle.table_laws.specs.Table.{listed, closed}
use Rattle.table_laws.proofs.Listed.{length_listed}
use Rattle.table_laws.proofs.PlaceBelow.{below_some, below_none}
use Rattle.table_laws.proofs.Stores.{freed_none, freed_done}
use Rattle.table.proofs.order.remove.Goals as goal

pub returns-in_default : goal.returns-in_default
returns-in_default c =
    let a = c.args in
    let l = length_listed a.places a.table.now c.requires.0 c.requires.1 in
    let n = below_none (length (listed a.places a.table.now)) (index_of a.place (listed a.places a.table.now)) c.in_default.ensures in
    freed_none a.places a.table.now a.place _ _ refl refl (omega arith)

pub overflow_sub-last : goal.overflow_sub-last
overflow_sub-last c =
    let a = c.args in
    let l = length_listed a.places a.table.now c.requires.0 c.requires.1 in
    let s = below_some (length (listed a.places a.table.now)) (index_of a.place (listed a.places a.table.now)) c.in-Some.at c.in-Some.ensures in
    omega arith

pub close-requires : goal.close-requires
close-requires c =
    let a = c.args in
    let t = a.table.now in
    let l = length_listed a.places t c.requires.0 c.requires.1 in
    let s = below_some (length (listed a.places t)) (index_of a.place (listed a.places t)) c.in-Some.at c.in-Some.ensures in
    let k : 1 + a.places - 1 ≡ a.places = omega arith in
    let o : length (take a.places (drop 1 t)) ≡ a.places = length-take-le a.places (drop 1 t) (rw length-drop (omega arith)) in
    (omega arith, rw k (omega arith))

pub returns : goal.returns
returns c =
    let a = c.args in
    let t = a.table.now in
    let p = a.places in
    let m = get_or t 0 0 in
    let l = length_listed p t c.requires.0 c.requires.1 in
    let s = below_some (length (listed p t)) (index_of a.place (listed p t)) c.in-Some.at c.in-Some.ensures in
    let k : 1 + p - 1 ≡ p = omega arith in
    rw k
    (freed_done p t a.place (m - 1) c.in-Some.at (m - 1) c.close.new.order (omega arith) refl s.1 refl (omega arith)
    (c.close.ensures ∙ ap₂ (λ (x y : ℕ). closed y c.in-Some.at (take x (drop 1 t))) k c.from.ensures))

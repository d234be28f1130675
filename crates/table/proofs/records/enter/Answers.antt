-- `records::enter` meets its contract: the order is opened where the key belongs, the record is refilled from its front, and the count is one more.
-- Assumes nothing.
use mathlib.Core.Path.{◌≡◌, refl, ap, ap₂, ◌∙◌}
use mathlib.Core.List.{List}
use Prim.Native.Nat.{ℕ, ◌-◌, ◌<◌, ◌+◌}
use native.Mathlib.Omega.{arith}
use lib.ListN.{length, take, drop, get_or, length-drop}
use lib.Seq.{length-take-le}
use Rattle.key.proofs.Lent.{key_whole}
use Rattle.table_laws.specs.Table.{entered, key_at, listed, position}
use Rattle.table_laws.proofs.Listed.{place_le}
use Rattle.table_laws.proofs.Stores.{put_done}
use Rattle.table.proofs.records.enter.Goals as goal

pub open-requires : goal.open-requires
open-requires c =
    let a = c.args in
    let t = a.table.now in
    let p = a.shape.places in
    let f : p < length t = omega arith in
    let q = place_le p a.shape.width t (omega arith) f c.read.result.0 in
    let e = c.position_of-at.ensures in
    let k : 1 + p - 1 ≡ p = omega arith in
    let o : length (take p (drop 1 t)) ≡ p = length-take-le p (drop 1 t) (rw length-drop (omega arith)) in
    (omega arith, rw k (omega arith))

pub returns : goal.returns
returns c =
    let a = c.args in
    let t = a.table.now in
    let p = a.shape.places in
    let i = c.position_of-at in
    let o : List ℕ = c.«open».new.order in
    let k : 1 + p - 1 ≡ p = omega arith in
    let lo : length o ≡ p
    = c.«open».auto.order ∙ rw k (length-take-le p (drop 1 t) (rw length-drop (omega arith))) in
    put_done p a.shape.width t c.requires.0 (1 + p - 1) o k lo a.place a.«record».now (get_or t 0 0 + 1) i.result (get_or t 0 0) _ refl
    (i.ensures ∙ ap (λ (x : List ℕ). position (key_at p a.shape.width t) x (listed p t)) (c.read.ensures ∙ key_whole a.«record».now (omega arith))) refl
    (c.«open».ensures ∙ ap₂ (λ (x y : ℕ). entered y i.result a.place (take x (drop 1 t))) k c.from.ensures)
    c.refill.ensures

-- `in_place::shared_bits` meets its contract: the first byte in which the two differ decides. Assumes nothing.
use mathlib.Core.Path.{◌∙◌, sym, ap, ap₂}
use native.Mathlib.Omega.{arith}
use lib.ListN.{length}
use Rattle.wire.specs.Numbers.{Bytes}
use Rattle.wire.proofs.Numbers.{bytes_each, bytes_get_d}
use Rattle.key.specs.Bits.{shared_bits}
use Rattle.key.proofs.Bits.{shared_first, shared_self}
use Rattle.key.proofs.Lent.{length_key, bytes_key}
use Rattle.key.proofs.in_place.shared_bits.Goals as goal

pub returns-in-Some : goal.returns-in-Some
returns-in-Some c =
    let i = c.in-Some.i in
    let f = c.in-Some.ensures in
    let la = ap length c.front-a.ensures ∙ length_key c.args.a.now in
    let lb = ap length c.front-b.ensures ∙ length_key c.args.b.now in
    let sa : Bytes c.front-a.result.now = rw c.front-a.ensures (bytes_key c.args.a.now (bytes_each c.args.a.now (λ j. (c.type_inv.a j).fits))) in
    let sb : Bytes c.front-b.result.now = rw c.front-b.ensures (bytes_key c.args.b.now (bytes_each c.args.b.now (λ j. (c.type_inv.b j).fits))) in
    sym (shared_first c.front-a.result.now c.front-b.result.now i (omega arith) (omega arith) f.1 (bytes_get_d i _ sa) (bytes_get_d i _ sb) f.2)
    ∙ ap₂ shared_bits c.front-a.ensures c.front-b.ensures

pub returns-in-None : goal.returns-in-None
returns-in-None c =
    let s = shared_self c.front-a.result.now in
    let l = ap length c.front-a.ensures ∙ length_key c.args.a.now in
    let e = ap (shared_bits c.front-a.result.now) (sym c.in-None.ensures) ∙ s in
    let q = ap₂ shared_bits c.front-a.ensures c.front-b.ensures in
    omega arith

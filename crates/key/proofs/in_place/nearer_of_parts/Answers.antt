-- `in_place::nearer_of_parts` meets its contract: the first byte in which the two differ decides. Assumes nothing.
use mathlib.Core.Path.{◌∙◌, sym, ap}
use native.Mathlib.Omega.{arith}
use lib.ListN.{get_or}
use Rattle.wire.proofs.Numbers.{bytes_each}
use Rattle.key.specs.Keys.{nearer}
use Rattle.key.proofs.Distance.{difference_decides}
use Rattle.key.proofs.Cancel.{xor_cancels, le_not_nearer}
use Rattle.key.proofs.in_place.nearer_of_parts.Goals as goal

pub returns-in-Some : goal.returns-in-Some
returns-in-Some c =
    let t = c.args.target.now in
    let a = c.args.a.now in
    let b = c.args.b.now in
    let i = c.in-Some.i in
    let f = c.in-Some.ensures in
    sym (difference_decides t a b (omega arith) (omega arith) i (omega arith) f.1 (bytes_each t c.fits-target) (bytes_each a c.fits-a) (bytes_each b c.fits-b)
    (λ e. f.2 (xor_cancels 8 (get_or t i 0) (get_or a i 0) (get_or b i 0) (c.fits-a i) (c.fits-b i) e)))

pub returns-in-None : goal.returns-in-None
returns-in-None c =
    let t = c.args.target.now in
    let a = c.args.a.now in
    sym (ap (nearer t a) (sym c.in-None.ensures) ∙ le_not_nearer t a a (omega arith))

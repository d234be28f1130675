-- `change::set_ping` meets its contract: the time and the number of the ping are written, one behind the other. Assumes nothing.
use Rattle.std.proofs.Common.{ℕ, arith, ap}
use Rattle.room.proofs.StoreSteps.{store_sent}
use Rattle.room.proofs.change.set_ping.Goals as goal

pub returns-in-Some : goal.returns-in-Some
returns-in-Some c =
    let e = c.in-Some.ensures.is in
    let w = c.in-Some.ensures.within in
    let at = ap (λ (places : ℕ × ℕ). places.0) e.1 in
    let then = ap (λ (places : ℕ × ℕ). places.1) e.1 in
    rw (c.write_word-in-Some.ensures, c.write_word.ensures, at, then) (store_sent _ _ _ _ e.0 (omega arith) _ _)

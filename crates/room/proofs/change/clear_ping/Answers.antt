-- `change::clear_ping` meets its contract. Assumes nothing.
use Rattle.std.proofs.Common.{ℕ, sym, ap}
use Rattle.room.proofs.StoreSteps.{store_answered}
use Rattle.room.proofs.change.clear_ping.Goals as goal

pub returns-in-Some : goal.returns-in-Some
returns-in-Some c =
    let e = c.in-Some.ensures.is in
    let then = ap (λ (places : ℕ × ℕ). places.1) e.1 in
    rw (c.write_word.ensures, then) (sym (store_answered _ _ _ _ e.0))

-- `banavoge_nearer` meets its contract: 32 bytes are the key that they are read as. Assumes nothing.
use native.Mathlib.Omega.{arith}
use Rattle.key.proofs.Lent.{key_itself}
use Rattle.banavoge.proofs.keys.banavoge_nearer.Goals as goal

pub returns : goal.returns
returns c =
    let s = c.args in
    rw (key_itself s.target.now (omega arith), key_itself s.a.now (omega arith), key_itself s.b.now (omega arith)) at c.nearer.ensures

-- What holding a key by value tells of its bytes: there are 32, each below 256. Assumes nothing.
use mathlib.Core.List.{List, [], ◌∷◌}
use Prim.Native.Nat.{ℕ}
use mir.Val.{Val}
use denote.Builtin.{u8}
use denote.Array.{each}
use denote.RattleType.{owns, Valss}
use denote.Shadow.{shadow}
use denote.Struct.Declared.{shape}
use Rattle.wire.specs.Numbers.{Bytes}
use Rattle.key.specs.declared.Key.{Key}
use Rattle.key.specs.Keys.{IsKey}
use Rattle.key.specs.contracts.Key as type

-- what owning an array of bytes tells of them
pub each_byte : (xs : List ℕ) (us : List Val) → shadow (each (u8).Denot (u8).own_val xs us) → Bytes xs
each_byte [] us p = tt
each_byte (x ∷ xs) [] p = absurd p
each_byte (x ∷ xs) (u ∷ us) p = (p.0.1, each_byte xs us p.1)

pub is_key : (k : Key) (values : Valss (shape type.the_type).fields) → shadow (owns (shape type.the_type).fields ((type.the_type).to k) values) → IsKey k.0
is_key k values g =
    let bytes = g.0 in
    record { long = bytes.1.0.1; bytes = each_byte k.0 bytes.0 bytes.1.1 }

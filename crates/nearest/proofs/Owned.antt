-- What holding a nearest list by value tells: it has 16 slots, and the key of its target and each key in a slot is 32 bytes. Assumes nothing.
use mathlib.Core.Path.{sym, subst}
use mathlib.Core.List.{List, [], ◌∷◌}
use mathlib.Core.Logic.{inl, inr}
use mir.Val.{Val}
use denote.Array.{each}
use denote.RattleType.{owns, Valss}
use denote.Shadow.{shadow}
use denote.Struct.Declared.{shape}
use Rattle.key.specs.Keys.{IsKey}
use Rattle.key.proofs.Owned.{each_byte}
use Rattle.node.specs.declared.Node.{Node}
use Rattle.node.specs.contracts.Node as node
use Rattle.nearest.specs.declared.NearestList.{NearestList}
use Rattle.nearest.specs.Lists.{node_key}
use Rattle.nearest.specs.Sequence.{Keyed}
use Rattle.nearest.specs.Slots.{IsList}
use Rattle.nearest.specs.contracts.NearestList as type

pub each_key : (xs : List Node) (us : List Val) → shadow (each (node.the_row).Denot (node.the_row).own_val xs us) → Keyed xs
each_key [] us p x i = absurd i
each_key (y ∷ xs) [] p x i = absurd p
each_key (y ∷ xs) (u ∷ us) p x (inl e) =
    let g = p.0.1.1.1.1.1.0.1.1.0 in
    let k : IsKey (node_key y) = record { long = g.1.0.1; bytes = each_byte (node_key y) g.0 g.1.1 } in
    subst (λ (z : Node). IsKey (node_key z)) (sym e) k
each_key (y ∷ xs) (u ∷ us) p x (inr i) = each_key xs us p.1 x i

pub is_list : (l : NearestList) (values : Valss (shape type.the_type).fields) → shadow (owns (shape type.the_type).fields ((type.the_type).to l) values) → IsList l
is_list l values g =
    let target = g.0.1.1.0 in
    let nodes = g.1.1.1.0 in
    record {
      slots = nodes.1.0.1;
      target = record { long = target.1.0.1; bytes = each_byte l.target.0 target.0 target.1.1 };
      keys = each_key l.nodes nodes.0 nodes.1.1;
    }

-- `record::of` meets its contract: the port, the address, the family and the key are written over zeros. Assumes nothing.
use mathlib.Core.Path.{◌≡◌, ◌∙◌, ap}
use mathlib.Core.List.{List, [], ◌∷◌, ◌++◌, append-nil}
use Prim.Native.Nat.{ℕ}
use Rattle.wire.proofs.TwoBytes.{to_two}
use Rattle.buckets_laws.specs.Layout.{node_fields, node_record}
use Rattle.buckets.proofs.record.of.Goals as goal

-- the parts, one behind the other
joined : {key k address a port p : List ℕ} (family : ℕ) → key ≡ k → address ≡ a → port ≡ p → key ++ (family ∷ (address ++ (port ++ []))) ≡ k ++ (family ∷ (a ++ p))
joined {key} {k} {address} {a} {port} {p} family e f g =
    ap (λ (x : List ℕ). key ++ (family ∷ (address ++ x))) (append-nil port ∙ g) ∙ ap (λ (x : List ℕ). key ++ (family ∷ (x ++ p))) f ∙ ap (λ (x : List ℕ). x ++ (family ∷ (a ++ p))) e

pub returns : goal.returns
unfolding node_record node_fields
returns c =
    joined c.args.node.family c.copy_from_slice-3.ensures.after c.copy_from_slice-2.ensures.after (c.copy_from_slice.ensures.after ∙ c.to_be_bytes.ensures ∙ to_two c.args.node.port)

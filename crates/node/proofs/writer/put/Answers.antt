-- `node::writer::put` meets its contract: the family, the address, the port and the key, one behind the other, fill the output. Assumes nothing.
use mathlib.Core.Path.{◌≡◌, ◌∙◌, sym, ap}
use mathlib.Core.List.{List}
use Prim.Native.Nat.{ℕ, ◌+◌, ◌-◌, ◌≤◌}
use native.Mathlib.Omega.{arith}
use lib.ListN.{length, take, drop, length-drop}
use lib.Seq.{length-take-le}
use Rattle.wire.proofs.TwoBytes.{to_two}
use mir.Syntax.{w16}
use Rattle.std.specs.Int.{to_be_bytes}
use Rattle.wire.specs.Numbers.{bytes_of}
use Rattle.node.specs.declared.Node.{Node}
use Rattle.node.specs.Families.{address_length}
use Rattle.node.specs.Nodes.{packed_node}
use Rattle.node.specs.Values.{info_of, IsNode}
use Rattle.node.proofs.Owned.{is_node}
use Rattle.node.proofs.WriteLaws.{address_kept, port_kept, filled}
use Rattle.node.proofs.writer.put.Goals as goal

-- all that is behind a place
rest_length : (l : List ℕ) (at : ℕ) → length (take (length l - at) (drop at l)) ≡ length l - at
rest_length l at = length-take-le (length l - at) (drop at l) (let d = length-drop at l in omega arith)

-- how long the parts are
part_lengths : (n : Node) (a : ℕ) (address port : List ℕ) → IsNode n → a ≤ 16 → address ≡ take a n.address → port ≡ to_be_bytes w16 n.port
    → (length address ≡ a) × (length port ≡ 2)
part_lengths n a address port held most x y = (
  ap length x ∙ length-take-le a n.address (let l = held.long in omega arith),
  ap length y,
)

pub slice_bounds-copy_from_slice-end-3 : goal.slice_bounds-copy_from_slice-end-3
slice_bounds-copy_from_slice-end-3 c =
    let n = c.args.node in
    let held = is_node n c.well_formed.0.0 c.well_formed.0.1.1 in
    let a = c.address_length-length.result in
    let x = c.copy_from_slice in
    let most : a ≤ 16 = omega arith in
    let long = ap length x.ensures.after ∙ length-take-le a n.address (let l = held.long in omega arith) in
    omega (arith, address_kept c.args.out.now x.new.self n.family a (omega arith) long)

pub copy_from_slice-requires-3 : goal.copy_from_slice-requires-3
copy_from_slice-requires-3 c =
    let n = c.args.node in
    let held = is_node n c.well_formed.0.0 c.well_formed.0.1.1 in
    let a = c.address_length-length.result in
    let x = c.copy_from_slice in
    let y = c.copy_from_slice-2 in
    let most : a ≤ 16 = omega arith in
    let long = part_lengths n a x.new.self y.new.self held most x.ensures.after (y.ensures.after ∙ c.to_be_bytes.ensures) in
    let kept = port_kept c.args.out.now x.new.self n.family a (omega arith) long.0 y.new.self long.1 in
    rest_length _ (1 + a + 2) ∙ (let h = held.key.long in omega arith)

pub returns : goal.returns
unfolding packed_node info_of
returns c =
    let n = c.args.node in
    let held = is_node n c.well_formed.0.0 c.well_formed.0.1.1 in
    let a = c.address_length-length.result in
    let x = c.copy_from_slice in
    let y = c.copy_from_slice-2 in
    let z = c.copy_from_slice-3 in
    let most : a ≤ 16 = omega arith in
    let q = y.ensures.after ∙ c.to_be_bytes.ensures in
    let long = part_lengths n a x.new.self y.new.self held most x.ensures.after q in
    let e : x.new.self ≡ take (address_length n.family) n.address =
    x.ensures.after ∙ ap (λ (k : ℕ). take k n.address) (c.address_length-length.ensures.value ∙ ap address_length (sym c.requires.named)) in
    let p : y.new.self ≡ bytes_of 2 n.port = q ∙ to_two n.port in
    let k : z.new.self ≡ n.key.0 = z.ensures.after in
    filled c.args.out.now x.new.self n.family a (omega arith) long.0 y.new.self long.1 z.new.self (ap length k ∙ held.key.long)
    ∙ (cc)

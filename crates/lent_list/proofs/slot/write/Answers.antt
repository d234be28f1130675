-- `slot::write` meets its contract: the family, the address, the port and the key, one behind the other, fill the slot. These are the parts of
-- a packed node with 16 address bytes, so node's laws of writing serve. Assumes nothing.
use mathlib.Core.Path.{◌≡◌, ◌∙◌, ap}
use native.Mathlib.Omega.{arith}
use lib.ListN.{length}
use Rattle.wire.proofs.TwoBytes.{to_two}
use Rattle.wire.specs.Numbers.{bytes_of}
use Rattle.node.proofs.Owned.{is_node}
use Rattle.node.proofs.WriteLaws.{filled}
use Rattle.lent_list_laws.specs.Layout.{slot_bytes}
use Rattle.lent_list.proofs.slot.write.Goals as goal

pub returns : goal.returns
unfolding slot_bytes
returns c =
    let n = c.args.node in
    let held = is_node n c.well_formed.0.0 c.well_formed.0.1.1 in
    let x = c.copy_from_slice in
    let y = c.copy_from_slice-2 in
    let z = c.copy_from_slice-3 in
    let room = c.requires in
    let p : y.new.self ≡ bytes_of 2 n.port = y.ensures.after ∙ c.to_be_bytes.ensures ∙ to_two n.port in
    filled c.args.out.now x.new.self n.family 16 (omega arith) (ap length x.ensures.after ∙ held.long) y.new.self (ap length (y.ensures.after ∙ c.to_be_bytes.ensures)) z.new.self
    (ap length z.ensures.after ∙ held.key.long)
    ∙ (cc)

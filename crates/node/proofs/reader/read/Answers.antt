-- `node::reader::read` meets its contract: each return is the check of the definition that failed first, or the node. Assumes nothing.
use mathlib.Core.Path.{◌≡◌, ◌∙◌, refl, sym, ap, ap₂}
use mathlib.Core.List.{List}
use Prim.Native.Nat.{ℕ, ◌+◌, ◌<◌, ◌≤◌}
use native.Mathlib.Omega.{arith}
use lib.ListN.{length, get_or, drop}
use Rattle.std.specs.Borrow.{Bor}
use Rattle.std.specs.Prelude.{Option, Some, Ok}
use Rattle.std.specs.Slice.{IsItemAt}
use Rattle.std.proofs.lemmas.Result.{err_from_is_err_and}
use Rattle.std.proofs.lemmas.Grind.{common_steps}
use Rattle.refusal.specs.declared.Refusal.TheVariants.{NodeCutShort}
use Rattle.node.specs.declared.Node.{Node}
use Rattle.node.specs.declared.family.Family.{Family}
use Rattle.node.specs.Nodes.{node_of}
use Rattle.node.specs.Values.{value_of}
use Rattle.node.specs.Families.{family_byte, packed_length}
use Rattle.node.proofs.FamilyLaws.{byte_known}
use Rattle.node.proofs.ReadLaws.{reads_nothing, from_part, left_long, reads_unknown, reads_cut, reads_whole}
use Rattle.node.proofs.reader.read.Goals as goal

-- a byte stands at the place
record Here (bytes : List ℕ) (at byte : ℕ) : Type 0 where
  inside : at < length bytes
  same : get_or bytes at 0 ≡ byte

here : (bytes : List ℕ) (at : ℕ) (got : Option (Bor ℕ)) (byte : Bor ℕ) → IsItemAt bytes at got → got ≡ Some byte → Here bytes at byte.now
here bytes at got byte is e = record { inside = grind (arith, common_steps); same = grind (arith, common_steps) }

-- and it is a family's
named : (bytes : List ℕ) (at : ℕ) (got : Option (Bor ℕ)) (byte : Bor ℕ) (family : Family) → IsItemAt bytes at got → got ≡ Some byte → family_byte family ≡ byte.now
    → Here bytes at (family_byte family)
named bytes at got byte family is e n = let h = here bytes at got byte is e in record { inside = h.inside; same = h.same ∙ sym n }

pub returns-in_err-byte : goal.returns-in_err-byte
returns-in_err-byte c =
    let a = c.args in
    let p = err_from_is_err_and c.from_residual.result c.from_residual.ensures.1 in
    let w : c.in_err-byte.field-0.0 ≡ NodeCutShort = grind (arith, common_steps, c.in_err-byte.ensures.value) in
    let h : length a.bytes.now ≤ a.at = grind (arith, common_steps, c.in_err-byte.ensures.ok_part, c.get.ensures.lookup) in
    rw (p.1, p.2, w) (reads_nothing a.bytes.now a.at _ h refl)

pub returns-in_err-family : goal.returns-in_err-family
returns-in_err-family c =
    let a = c.args in
    let p = err_from_is_err_and c.from_residual-in_err-family.result c.from_residual-in_err-family.ensures.1 in
    let h = here a.bytes.now a.at c.get.result c.in_ok-byte.field-0 c.get.ensures.lookup c.in_ok-byte.ensures.ok_part in
    rw (p.1, p.2, c.in_err-family.ensures.0) (reads_unknown a.bytes.now a.at _ h.inside (rw h.same c.in_err-family.ensures.1) refl)

pub returns-then-bytes-at : goal.returns-then-bytes-at
returns-then-bytes-at c =
    let a = c.args in
    let f = c.in_ok-family.family in
    let h = named a.bytes.now a.at c.get.result c.in_ok-byte.field-0 f c.get.ensures.lookup c.in_ok-byte.ensures.ok_part c.in_ok-family.ensures in
    reads_cut a.bytes.now a.at _ h.inside (rw h.same (byte_known f)) (omega (arith, ap packed_length h.same)) refl

pub unpacked-requires : goal.unpacked-requires
unpacked-requires c =
    let a = c.args in
    let h = named a.bytes.now a.at c.get.result c.in_ok-byte.field-0 c.in_ok-family.family c.get.ensures.lookup c.in_ok-byte.ensures.ok_part c.in_ok-family.ensures in
    let f = from_part a.bytes.now a.at h.inside in
    record { named = ap (λ (l : List ℕ). get_or l 0 0) f ∙ h.same; whole = let l = ap length f ∙ left_long a.bytes.now a.at h.inside in omega arith }

pub returns : goal.returns
returns c =
    let a = c.args in
    let f = c.in_ok-family.family in
    let h = named a.bytes.now a.at c.get.result c.in_ok-byte.field-0 f c.get.ensures.lookup c.in_ok-byte.ensures.ok_part c.in_ok-family.ensures in
    reads_whole a.bytes.now a.at _ h.inside (rw h.same (byte_known f)) (omega (arith, ap packed_length h.same))
    (ap₂ (λ (n : Node) (size : ℕ). Ok (n, a.at + size))
    (c.unpacked.ensures ∙ ap₂ (λ (byte : ℕ) (l : List ℕ). value_of (node_of byte (drop 1 l))) (sym h.same) (from_part a.bytes.now a.at h.inside))
    (c.packed_length-size.ensures ∙ ap packed_length (sym h.same)))

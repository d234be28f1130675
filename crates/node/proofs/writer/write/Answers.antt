-- `node::writer::write` meets its contract: each refusal leaves the output, and else its front is the packed node. Assumes nothing.
use mathlib.Core.Path.{◌∙◌, sym, ap}
use mathlib.Core.List.{List, ◌++◌}
use Prim.Native.Nat.{ℕ}
use native.Mathlib.Omega.{arith}
use lib.ListN.{drop}
use Rattle.std.proofs.lemmas.Result.{err_from_is_err_and}
use Rattle.node.specs.Families.{known_family, packed_length}
use Rattle.node.specs.Values.{info_of}
use Rattle.node.proofs.FamilyLaws.{byte_known}
use Rattle.node.proofs.NodeLaws.{length_value}
use Rattle.node.proofs.Owned.{is_node}
use Rattle.node.proofs.WriteLaws.{writes_unknown, writes_short, writes_node}
use Rattle.node.proofs.writer.write.Goals as goal

pub returns-in_err-family : goal.returns-in_err-family
unfolding info_of
returns-in_err-family c =
    let p = err_from_is_err_and c.from_residual.result c.from_residual.ensures.1 in
    rw (p.1, p.2, c.in_err-family.ensures.0)
    (record {
      fits = is_node c.args.node c.well_formed.0.0 c.well_formed.0.1.1;
      writes = writes_unknown (info_of c.args.node) c.args.out.now c.in_err-family.ensures.1;
    })

pub returns-then-out-size : goal.returns-then-out-size
unfolding info_of
returns-then-out-size c =
    let held = is_node c.args.node c.well_formed.0.0 c.well_formed.0.1.1 in
    let named = c.in_ok-family.ensures in
    record {
      fits = held;
      writes =
          writes_short (info_of c.args.node) c.args.out.now (sym (ap known_family named) ∙ byte_known c.in_ok-family.family)
          (length_value c.args.node held.long held.key.long) (omega (arith, ap packed_length named));
    }

pub returns : goal.returns
unfolding info_of
returns c =
    let held = is_node c.args.node c.well_formed.0.0 c.well_formed.0.1.1 in
    let size = c.packed_length-size in
    let named = c.in_ok-family.ensures in
    record {
      fits = held;
      writes =
          writes_node (info_of c.args.node) c.args.out.now (sym (ap known_family named) ∙ byte_known c.in_ok-family.family)
          (length_value c.args.node held.long held.key.long) size.result _ (size.ensures ∙ ap packed_length named) (omega arith)
          (ap (λ (l : List ℕ). l ++ drop size.result c.args.out.now) c.put.ensures);
    }

-- `banavoge_nodes_step` meets its contract: the node shown, the end, or the refusal. Assumes nothing.
use mathlib.Core.Path.{◌∙◌}
use mir.Syntax.{w32}
use mir.ValLaws.{to_z-of_z}
use Rattle.wire.proofs.Numbers.{bytes_each}
use Rattle.banavoge_laws.proofs.NodeTelling.{told_next, step_told, step_ended, step_turned}
use Rattle.banavoge.proofs.nodes.banavoge_nodes_step.Goals as goal

pub returns-in-Ok-Some : goal.returns-in-Ok-Some
returns-in-Ok-Some c =
    let a = c.args in
    let shown = c.in-Ok-Some.shown in
    record {
      bytes = bytes_each a.list.now (λ i. (c.type_inv.list i).fits);
      does = step_told a.place a.count _ shown _ _ (rw c.in-Ok-Some.field-0-is at c.in-Ok-Some.ensures).exact (told_next shown.node shown.place _ c.tell.ensures);
    }

pub returns-in-Ok-None : goal.returns-in-Ok-None
returns-in-Ok-None c =
    let a = c.args in
    record {
      bytes = bytes_each a.list.now (λ i. (c.type_inv.list i).fits);
      does = step_ended a.place a.count _ _ (rw c.in-Ok-None.field-0-is at c.in-Ok-None.ensures).exact;
    }

pub returns-in-Err : goal.returns-in-Err
returns-in-Err c =
    let a = c.args in
    record {
      bytes = bytes_each a.list.now (λ i. (c.type_inv.list i).fits);
      does = step_turned a.place a.count _ c.in-Err.why _ _ c.in-Err.ensures.exact (to_z-of_z w32 c.refused.result (record { sfits = c.refused.type_inv }) ∙ c.refused.ensures);
    }

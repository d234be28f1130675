-- `search::with_node` meets its contract: by whether the node's place is behind the four. Assumes nothing.
use native.Mathlib.Omega.{arith}
use Rattle.buckets.proofs.KeptLaws.{place_few, kept_stays, kept_put}
use Rattle.buckets.proofs.search.with_node.Goals as goal

pub returns-then-place-ge-MOST : goal.returns-then-place-ge-MOST
returns-then-place-ge-MOST c =
    let a = c.args in
    let p = c.position-place in
    kept_stays a.memory.now a.target.now a.kept c.requires.0 a.at c.requires.1 p.result p.ensures c.if-place-ge-MOST.true

pub opened-requires : goal.opened-requires
opened-requires c =
    let a = c.args in
    let p = c.position-place in
    let f = place_few a.memory.now a.target.now a.kept c.requires.0 a.at c.requires.1 p.result p.ensures in
    (omega arith, omega arith)

pub returns : goal.returns
returns c =
    let a = c.args in
    let p = c.position-place in
    kept_put a.memory.now a.target.now a.kept c.requires.0 a.at c.requires.1 p.result p.ensures c.min-last.result (omega arith)
    c.opened.result c.opened.ensures

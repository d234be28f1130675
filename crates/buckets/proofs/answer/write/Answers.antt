-- `answer::write` meets its contract. The invariant: the nodes passed are written, and what stands behind them is as it was. Assumes nothing.
use borrow.Author.Rules.{rules}
use mathlib.Core.Path.{◌≡◌, ◌∙◌, refl, sym, ap, ap₂}
use mathlib.Core.List.{List, ◌++◌}
use Prim.Native.Nat.{ℕ, ◌+◌, ◌-◌, ◌<◌, ◌≤◌}
use native.Mathlib.Omega.{arith}
use lib.ListN.{length, get_or, take, drop}
use Rattle.wire.proofs.Copy.{length_lent}
use Rattle.node.specs.declared.Node.{Node}
use Rattle.node.specs.Families.{packed_length}
use Rattle.buckets_laws.specs.Layout.{record_node}
use Rattle.buckets.specs.declared.search.Found.{Found}
use Rattle.buckets.specs.Kept.{node_at, Starts}
use Rattle.buckets.proofs.PackedLaws.{front_bytes, front_none, front_longer, front_count, front_start, room_left, node_fits, written_more}
use Rattle.buckets.proofs.answer.write.Goals as goal

-- where the i-th record kept begins, read in the part lent of all places
module _ (memory : List ℕ) (kept : Found) (s : Starts memory kept) (i : ℕ) (h : i < length (take kept.count kept.starts)) where
  abbrev start : ℕ
  start = get_or (take kept.count kept.starts) i 0

  turn : i < kept.count
  turn = let n = front_count memory kept s in omega arith

  inside : start + 51 ≤ length memory
  inside = let e = front_start kept i turn in let g = s.inside i turn in omega arith

  -- the node read is the one that stands there
  same_node : (node : Node) → node ≡ record_node (take (start + 51 - start) (drop start memory)) → node ≡ node_at memory (get_or kept.starts i 0)
  same_node node e =
      e ∙ ap (λ (k : ℕ). record_node (take k (drop start memory))) (let q : start + 51 - start ≡ 51 = omega arith in q)
      ∙ ap (node_at memory) (front_start kept i turn)

pub loop-start-init : goal.loop-start-init
loop-start-init c =
    let a = c.args in
    let e = front_none a.memory.now a.kept.starts in
    (sym (ap length e), refl, ap (λ (x : List ℕ). x ++ a.out.now) (sym e))

-- the record lies within the memory
pub overflow_add-end : goal.overflow_add-end
overflow_add-end c = let h = inside c.args.memory.now c.args.kept c.requires.0 c.loop-start.start-index c.loop-start-test.true in omega arith

pub slice_bounds-read-end : goal.slice_bounds-read-end
slice_bounds-read-end c = let h = inside c.args.memory.now c.args.kept c.requires.0 c.loop-start.start-index c.loop-start-test.true in omega arith

pub read-node-requires : goal.read-node-requires
read-node-requires c =
    let a = c.args in
    let at = get_or (take a.kept.count a.kept.starts) c.loop-start.start-index 0 in
    let h = inside a.memory.now a.kept c.requires.0 c.loop-start.start-index c.loop-start-test.true in
    length_lent a.memory.now at (at + 51 - at) (omega arith) ∙ (let q : at + 51 - at ≡ 51 = omega arith in q)

-- there is room behind those written
pub slice_bounds-write-count : goal.slice_bounds-write-count
slice_bounds-write-count c =
    let l = c.loop-start in
    let a = c.args in
    let t = turn a.memory.now a.kept c.requires.0 l.start-index c.loop-start-test.true in
    let h = room_left a.memory.now a.kept c.requires.0 l.start-index t c.requires.1 a.out.now l.out c.requires.2 l.at l.invariant.2 l.invariant.0 in
    omega arith

pub slice_bounds-write-start : goal.slice_bounds-write-start
slice_bounds-write-start c =
    let l = c.loop-start in
    let a = c.args in
    let t = turn a.memory.now a.kept c.requires.0 l.start-index c.loop-start-test.true in
    room_left a.memory.now a.kept c.requires.0 l.start-index t c.requires.1 a.out.now l.out c.requires.2 l.at l.invariant.2 l.invariant.0

pub overflow_add-at : goal.overflow_add-at
overflow_add-at c =
    let l = c.loop-start in
    let a = c.args in
    let t = turn a.memory.now a.kept c.requires.0 l.start-index c.loop-start-test.true in
    let h = node_fits a.memory.now a.kept c.requires.0 l.start-index t c.requires.1 a.out.now l.out c.requires.2 l.at l.invariant.2 l.invariant.0
    c.read-node.result (same_node a.memory.now a.kept c.requires.0 l.start-index c.loop-start-test.true c.read-node.result c.read-node.ensures) in
    let e = c.packed_length-at.ensures in
    omega arith

pub loop-start-preserved : goal.loop-start-preserved
loop-start-preserved c =
    let l = c.loop-start in
    let a = c.args in
    let m = a.memory.now in
    let h = turn m a.kept c.requires.0 l.start-index c.loop-start-test.true in
    let node = c.read-node.result in
    let same = same_node m a.kept c.requires.0 l.start-index c.loop-start-test.true node c.read-node.ensures in
    let w = c.write in
    let e = c.packed_length-at.ensures in
    let f = ap (λ (n : Node). packed_length n.family) same in
    let q = front_longer m a.kept c.requires.0 l.start-index h in
    let b = l.invariant.0 in (
      omega arith,
      search rules,
      written_more m a.kept c.requires.0 l.start-index h c.requires.1 a.out.now l.out c.requires.2 l.at l.invariant.2 b node same _ w.result w.ensures
          ∙ ap (λ (k : ℕ). front_bytes m a.kept.starts (l.start-index + 1) ++ drop (l.at + k) a.out.now) (sym e),
    )

pub returns : goal.returns
returns c =
    let l = c.loop-start in
    let a = c.args in
    let n = front_count a.memory.now a.kept c.requires.0 in
    let e : l.start-index ≡ a.kept.count = omega arith in
    l.invariant.2
    ∙ ap₂ (λ (i at : ℕ). front_bytes a.memory.now a.kept.starts i ++ drop at a.out.now) e
    (l.invariant.0 ∙ ap (λ (i : ℕ). length (front_bytes a.memory.now a.kept.starts i)) e)

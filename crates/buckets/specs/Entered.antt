-- What a bucket does with a node, as the private function `enter` has it: whether it is kept, and every byte of the bucket afterwards.
use Rattle.std.specs.Prelude.{Bool, List, ◌≡◌, ℕ}
use Rattle.node.specs.declared.Node.{Node}
use Rattle.buckets_laws.specs.Layout.{bucket_nodes}
use Rattle.buckets_laws.specs.Effect.{taken_by, is_kept, bucket_after}

pub record Enters (n : Node) (t left : List ℕ) (kept : Bool) : Type 0 where
  pub answers : kept ≡ is_kept (taken_by n (bucket_nodes t))
  pub leaves : left ≡ bucket_after (taken_by n (bucket_nodes t)) n t

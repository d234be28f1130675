-- What an offer does. Document 02, request 05: "The base key is never held; offering it answers no. Unlike the nearest list, a full bucket takes no new key; a held
-- key has its node replaced."
use Rattle.std.specs.Prelude.{Bool, true, false, cond, List, ℕ, ltb, length}
use Rattle.key.specs.Keys.{same_key}
use Rattle.node.specs.declared.Node.{Node}
use Rattle.nearest.specs.Lists.{node_key}
use Rattle.nearest.specs.Effect.{holds}
use Rattle.table_laws.specs.Table.{found, lowest_free, put_in, overwritten_in}
use Rattle.buckets_laws.specs.Layout.{bucket_size, record_length, family_place, base_of, bucket_at, held_in, node_fields, node_record, with_bucket}
use Rattle.buckets_laws.specs.Whole.{bucket_of}

-- the node is put in; it replaces the node of its key; its bucket is full and takes no new key; its key is the base key
pub data BucketEffect : Type 0 where
  added : BucketEffect
  replaced : BucketEffect
  full : BucketEffect
  base_key : BucketEffect

-- what a bucket that holds ns does with a node
unfoldable pub taken_by : Node → List Node → BucketEffect
taken_by n ns = cond (holds (node_key n) ns) replaced (cond (ltb (length ns) bucket_size) added full)

-- what offering a node does, by the base key and the nodes of the key's bucket
unfoldable pub bucket_effect : List ℕ → Node → List Node → BucketEffect
bucket_effect base n ns = cond (same_key base (node_key n)) base_key (taken_by n ns)

-- the same, by the memory. The base key has no bucket, and then what is held has no say
unfoldable pub effect_on : List ℕ → Node → BucketEffect
effect_on memory n = bucket_effect (base_of memory) n (held_in memory (bucket_of (base_of memory) (node_key n)))

-- whether the node offered is kept: the base key "answers no", and a full bucket takes none
unfoldable pub is_kept : BucketEffect → Bool
is_kept added = true
is_kept replaced = true
is_kept full = false
is_kept base_key = false

-- every byte of the bucket afterwards: a node that is added gets the lowest free place; of one that is replaced all but the key is written
unfoldable pub bucket_after : BucketEffect → Node → List ℕ → List ℕ
bucket_after added n t = put_in bucket_size record_length t (lowest_free bucket_size t) (node_record n)
bucket_after replaced n t = overwritten_in bucket_size record_length t (found bucket_size record_length t (node_key n)) family_place (node_fields n)
bucket_after full n t = t
bucket_after base_key n t = t

-- and of the memory: of an offer that is kept the key's bucket is changed, of another nothing is
unfoldable pub memory_after : BucketEffect → List ℕ → Node → List ℕ
memory_after e memory n =
    cond (is_kept e)
    (with_bucket memory (bucket_of (base_of memory) (node_key n)) (bucket_after e n (bucket_at memory (bucket_of (base_of memory) (node_key n)))))
    memory

-- K-buckets in lent bytes: where each part stands, the nodes that the bytes hold, and the bytes of a node. Document 02, request 05: "256 buckets by a base key, each of
-- up to 8 nodes, in memory the host lends." docs/ARCHITECTURE.md has the picture.
--
--     base key (32) | bucket 0 (417) | bucket 1 (417) | .. | bucket 255 (417)
--     a bucket is a table of 8 places: count (1) | order (8) | 8 records of 51 bytes
--     a record: key (32), family (1), address (16), port (2), whatever the family
use Rattle.std.specs.Prelude.{List, [], ◌∷◌, ◌++◌, map, ℕ, zero, suc, ◌+◌, ◌*◌, get_or, take, drop}
use Rattle.wire.specs.Numbers.{number_of, bytes_of}
use Rattle.node.specs.declared.Node.{Node}
use Rattle.nearest.specs.Lists.{node_key}
use Rattle.table_laws.specs.Bytes.{splice}
use Rattle.table_laws.specs.Table.{listed, record_at}

-- ---- sizes and places

abbrev pub bucket_number : ℕ
bucket_number = 256

abbrev pub bucket_size : ℕ
bucket_size = 8

abbrev pub base_length : ℕ
base_length = 32

abbrev pub record_length : ℕ
record_length = 51

-- 1 + 8 + 8 * 51
abbrev pub bucket_length : ℕ
bucket_length = 417

-- 32 + 256 * 417
abbrev pub buckets_length : ℕ
buckets_length = 106784

-- where a bucket begins
abbrev pub bucket_start : ℕ → ℕ
bucket_start b = base_length + b * bucket_length

-- the 256 buckets behind the base key
abbrev pub all_buckets_length : ℕ
all_buckets_length = 106752

-- where the record of a place of a bucket begins
abbrev pub record_start : ℕ → ℕ → ℕ
record_start b place = bucket_start b + 9 + place * record_length

-- where the fields of a record stand behind its key
abbrev pub family_place : ℕ
family_place = 32

abbrev pub address_place : ℕ
address_place = 33

abbrev pub port_place : ℕ
port_place = 49

-- ---- from bytes to nodes

abbrev pub base_of : List ℕ → List ℕ
base_of memory = take base_length memory

unfoldable pub bucket_at : List ℕ → ℕ → List ℕ
bucket_at memory b = take bucket_length (drop (bucket_start b) memory)

-- the node that a record is
unfoldable pub record_node : List ℕ → Node
record_node r = record {
  family = get_or r family_place 0;
  address = take 16 (drop address_place r);
  port = number_of (take 2 (drop port_place r));
  key = record { 0 = take 32 r };
}

-- the nodes of a bucket, in the order in which it lists them
unfoldable pub bucket_nodes : List ℕ → List Node
bucket_nodes t = map (λ (place : ℕ). record_node (record_at bucket_size record_length t place)) (listed bucket_size t)

-- the nodes held in bucket b
abbrev pub held_in : List ℕ → ℕ → List Node
held_in memory b = bucket_nodes (bucket_at memory b)

-- the nodes held in the first n buckets, bucket by bucket
unfoldable pub held_below : List ℕ → ℕ → List Node
held_below memory zero = []
held_below memory (suc b) = held_below memory b ++ held_in memory b

-- all held nodes
unfoldable pub held_nodes : List ℕ → List Node
held_nodes memory = held_below memory bucket_number

-- ---- from a node to bytes

-- what a record has behind its key
unfoldable pub node_fields : Node → List ℕ
node_fields n = n.family ∷ (n.address ++ bytes_of 2 n.port)

-- the record of a node: its key comes first
unfoldable pub node_record : Node → List ℕ
node_record n = node_key n ++ node_fields n

-- memory with the bytes of bucket b replaced
unfoldable pub with_bucket : List ℕ → ℕ → List ℕ → List ℕ
with_bucket memory b t = splice memory (bucket_start b) t bucket_length

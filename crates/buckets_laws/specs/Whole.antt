-- The rules that buckets keep. Document 02, request 05: "20 for buckets that hold a wrong, doubled or base key". Document 01, "Refusal numbers": "Every lent state is
-- tested in full before use: one too short, over its size, or holding a node of unknown family breaks its own rules."
use Rattle.std.specs.Prelude.{Bool, true, ◌&&◌, List, [], ◌∷◌, ℕ, zero, suc, eqb, leb, length}
use Rattle.key.specs.Bits.{shared_bits}
use Rattle.node.specs.declared.Node.{Node}
use Rattle.node.specs.Families.{known_family}
use Rattle.nearest.specs.Lists.{node_key}
use Rattle.table_laws.specs.Table.{is_table}
use Rattle.buckets_laws.specs.Layout.{bucket_number, bucket_size, record_length, buckets_length, base_of, bucket_at, bucket_nodes}

-- "A key's bucket is the number of leading bits it shares with the base key." The base key shares 256, and so belongs to none of the buckets 0 to 255
abbrev pub bucket_of : List ℕ → List ℕ → ℕ
bucket_of base key = shared_bits base key

-- a node that bucket b may hold
unfoldable pub belongs : List ℕ → ℕ → Node → Bool
belongs base b n = eqb (bucket_of base (node_key n)) b && known_family n.family

unfoldable pub all_belong : List ℕ → ℕ → List Node → Bool
all_belong base b [] = true
all_belong base b (n ∷ ns) = belongs base b n && all_belong base b ns

-- bucket b keeps its rules: its bytes are a table, so that it lists at most 8 places and no key twice, and each node that it lists belongs to it
unfoldable pub bucket_whole : List ℕ → ℕ → List ℕ → Bool
bucket_whole base b t = is_table bucket_size record_length t && all_belong base b (bucket_nodes t)

-- the first n buckets do
unfoldable pub whole_below : List ℕ → ℕ → Bool
whole_below memory zero = true
whole_below memory (suc b) = whole_below memory b && bucket_whole (base_of memory) b (bucket_at memory b)

-- memory that is long enough and whose buckets all do
unfoldable pub buckets_whole : List ℕ → Bool
buckets_whole memory = leb buckets_length (length memory) && whole_below memory bucket_number

-- Two buckets, computed. The base key is 32 bytes 0; each node is of family 2 at 127.0.0.1, and its key is one byte and 31 bytes 0. A key that begins with
-- 128 or more shares no bit with the base key and belongs to bucket 0; one that begins with 64 to 127 shares one, and belongs to bucket 1.
--
--     bucket 0: 2   1 0 (six zeros)   200.. port 258   150.. port 259   (six free places)
--     bucket 1: 1   0 (seven zeros)   100.. port 260   (seven free places)
--
-- Bucket 0 lists place 1, with the lower key, before place 0. Assumes nothing.
use Rattle.std.proofs.Common.{Err}
use mathlib.Core.Path.{◌≡◌, refl}
use mathlib.Core.Bool.{true, false}
use mathlib.Core.List.{List, [], ◌∷◌, ◌++◌}
use Prim.Native.Nat.{ℕ}
use lib.ListN.{drop, replicate}
use Rattle.wire.specs.Numbers.{number_of, bytes_of}
use Rattle.refusal.specs.declared.Refusal.TheVariants.{OutputTooShort, BucketsNotWhole}
use Rattle.key.specs.Keys.{same_key, xor_bytes, distance, nearer}
use Rattle.key.specs.Bits.{bits_of, bits, alike, shared_bits}
use Rattle.lists.specs.Find.{leading, member}
use Rattle.node.specs.declared.Node.{Node}
use Rattle.node.specs.Families.{known_family, address_length}
use Rattle.node.specs.Nodes.{packed_node}
use Rattle.node.specs.Values.{info_of}
use Rattle.node.specs.Walks.{packed_nodes}
use Rattle.nearest.specs.Effect.{holds, insert}
use Rattle.table_laws.specs.Bytes.{key_before}
use Rattle.table_laws.specs.Table.{fits_table, listed, record_at, key_at, rising_after, rising, table_whole, is_table, find_key, found, lowest, lowest_free}
use Rattle.table_laws.specs.Table.{entered, put, may_put, put_in, refilled, may_overwrite, overwritten_in}
use Rattle.buckets_laws.specs.Layout.{bucket_at, record_node, bucket_nodes, held_below, held_nodes, node_fields, node_record, with_bucket}
use Rattle.buckets_laws.specs.Whole.{bucket_of, belongs, all_belong, bucket_whole, whole_below, buckets_whole}
use Rattle.buckets_laws.specs.Effect.{added, replaced, full, base_key, taken_by, bucket_effect, effect_on, is_kept, bucket_after, memory_after}
use Rattle.buckets_laws.specs.Calls.{begun_answer, begun_memory, offer_answered, offer_left, nearest_held, answer_bytes, nearest_answered, nearest_left}

abbrev key : ℕ → List ℕ
key first = first ∷ replicate 31 0

abbrev base : List ℕ
base = key 0

abbrev address : List ℕ
address = 127 ∷ 0 ∷ 0 ∷ 1 ∷ replicate 12 0

abbrev node : ℕ → ℕ → Node
node first port = record { family = 2; address = address; port = port; key = record { 0 = key first } }

-- a record: the key, the family, the address, the port with its higher byte first
abbrev entry : ℕ → ℕ → List ℕ
entry first low = key first ++ (2 ∷ (address ++ (1 ∷ low ∷ [])))

abbrev bucket0 : List ℕ
bucket0 = 2 ∷ 1 ∷ 0 ∷ (replicate 6 0 ++ (entry 200 2 ++ (entry 150 3 ++ replicate 306 0)))

abbrev bucket1 : List ℕ
bucket1 = 1 ∷ 0 ∷ (replicate 7 0 ++ (entry 100 4 ++ replicate 357 0))

abbrev small : List ℕ
small = base ++ (bucket0 ++ bucket1)

-- another node of the key 200
abbrev other : Node
other = record { family = 10; address = replicate 16 7; port = 261; key = record { 0 = key 200 } }

-- eight nodes
abbrev eight : List Node
eight = node 128 258 ∷ node 129 258 ∷ node 130 258 ∷ node 131 258 ∷ node 132 258 ∷ node 133 258 ∷ node 134 258 ∷ node 135 258 ∷ []

-- ---- records

pub record_written : node_record (node 200 258) ≡ entry 200 2
unfolding node_record node_fields bytes_of
record_written = refl

pub record_read : record_node (entry 200 2) ≡ node 200 258
unfolding record_node number_of
record_read = refl

-- ---- buckets

pub buckets_stand : bucket_at small 0 ∷ bucket_at small 1 ∷ [] ≡ bucket0 ∷ bucket1 ∷ []
unfolding bucket_at
buckets_stand = refl

-- a bucket's nodes in the order in which it lists them, and those of one bucket behind those of the one before
pub nodes_in_order : bucket_nodes bucket0 ≡ node 150 259 ∷ node 200 258 ∷ []
unfolding bucket_nodes record_node record_at listed number_of
nodes_in_order = refl

pub nodes_of_both : held_below small 2 ≡ node 150 259 ∷ node 200 258 ∷ node 100 260 ∷ []
unfolding held_below bucket_at bucket_nodes record_node record_at listed number_of
nodes_of_both = refl

-- what stands behind a bucket and before it stays
pub bucket_replaced : with_bucket small 0 bucket1 ≡ base ++ (bucket1 ++ bucket1)
unfolding with_bucket
bucket_replaced = refl

-- ---- the leading bits

pub buckets_of : bucket_of base (key 200) ∷ bucket_of base (key 100) ∷ bucket_of base (key 1) ∷ bucket_of base base ∷ [] ≡ 0 ∷ 1 ∷ 7 ∷ 256 ∷ []
unfolding shared_bits alike bits bits_of
buckets_of = refl

pub belongs_there : belongs base 1 (node 100 260) ≡ true
unfolding belongs known_family shared_bits alike bits bits_of
belongs_there = refl

pub belongs_elsewhere : belongs base 0 (node 100 260) ≡ false
unfolding belongs shared_bits alike bits bits_of
belongs_elsewhere = refl

pub belongs_unknown : belongs base 1 (record { family = 3; address = address; port = 260; key = record { 0 = key 100 } }) ≡ false
unfolding belongs known_family shared_bits alike bits bits_of
belongs_unknown = refl

-- ---- whole

pub both_whole : whole_below small 2 ≡ true
unfolding whole_below bucket_whole all_belong belongs known_family shared_bits alike bits bits_of bucket_at bucket_nodes record_node record_at listed is_table fits_table table_whole rising rising_after key_at key_before
both_whole = refl

-- "20 for buckets that hold a wrong, doubled or base key"
pub wrong_key : bucket_whole base 1 bucket0 ≡ false
unfolding bucket_whole all_belong belongs shared_bits alike bits bits_of bucket_nodes record_node record_at listed is_table fits_table table_whole rising rising_after key_at key_before
wrong_key = refl

pub doubled_key : bucket_whole base 0 (2 ∷ 1 ∷ 1 ∷ drop 3 bucket0) ≡ false
unfolding bucket_whole is_table fits_table table_whole listed rising rising_after key_at key_before
doubled_key = refl

-- the base key shares 256 bits with itself, and the last bucket is 255
pub base_key_lem : bucket_whole (key 100) 255 bucket1 ≡ false
unfolding bucket_whole all_belong belongs shared_bits alike bits bits_of bucket_nodes record_node record_at listed is_table fits_table table_whole rising rising_after
base_key_lem = refl

pub short_not_whole : buckets_whole small ≡ false
unfolding buckets_whole
short_not_whole = refl

-- ---- what an offer does

pub effect_added : taken_by (node 130 261) (bucket_nodes bucket0) ≡ added
unfolding taken_by holds same_key bucket_nodes record_node record_at listed
effect_added = refl

pub effect_replaced : taken_by (node 200 261) (bucket_nodes bucket0) ≡ replaced
unfolding taken_by holds same_key bucket_nodes record_node record_at listed
effect_replaced = refl

-- "a full bucket takes no new key; a held key has its node replaced"
pub effect_full : taken_by (node 200 261) eight ≡ full
unfolding taken_by holds same_key
effect_full = refl

pub effect_full_held : taken_by (node 131 261) eight ≡ replaced
unfolding taken_by holds same_key
effect_full_held = refl

-- seven leave room
pub effect_seven : taken_by (node 200 261) (drop 1 eight) ≡ added
unfolding taken_by holds same_key
effect_seven = refl

pub effect_base : bucket_effect base (node 0 261) (bucket_nodes bucket0) ≡ base_key
unfolding bucket_effect same_key
effect_base = refl

-- the bucket asked is that of the key
pub effects_on : effect_on small (node 100 261) ∷ effect_on small (node 101 261) ∷ effect_on small (node 150 261) ∷ effect_on small (node 0 261) ∷ []
    ≡ replaced ∷ added ∷ replaced ∷ base_key ∷ []
unfolding effect_on bucket_effect taken_by holds same_key shared_bits alike bits bits_of bucket_at bucket_nodes record_node record_at listed
effects_on = refl

pub kept_which : is_kept added ∷ is_kept replaced ∷ is_kept full ∷ is_kept base_key ∷ [] ≡ true ∷ true ∷ false ∷ false ∷ []
unfolding is_kept
kept_which = refl

-- ---- what it leaves

-- put in place 2, the lowest that is free, and listed first, by its key
pub after_added : bucket_after added (node 130 261) bucket0
    ≡ 3 ∷ 2 ∷ 1 ∷ 0 ∷ (replicate 5 0 ++ (entry 200 2 ++ (entry 150 3 ++ (entry 130 5 ++ replicate 255 0))))
unfolding bucket_after put_in may_put put fits_table entered leading listed key_at key_before lowest_free lowest member node_record node_fields bytes_of
after_added = refl

-- of place 0 all behind the key is another: the family, the 16 address bytes and the port
pub after_replaced : bucket_after replaced other bucket0
    ≡ 2 ∷ 1 ∷ 0 ∷ (replicate 6 0 ++ (key 200 ++ (10 ∷ (replicate 16 7 ++ (1 ∷ 5 ∷ (entry 150 3 ++ replicate 306 0))))))
unfolding bucket_after overwritten_in may_overwrite refilled fits_table listed member found find_key key_at same_key node_fields bytes_of
after_replaced = refl

pub after_full : bucket_after full (node 130 261) bucket0 ≡ bucket0
unfolding bucket_after
after_full = refl

pub after_base : bucket_after base_key (node 0 261) bucket0 ≡ bucket0
unfolding bucket_after
after_base = refl

-- the bucket of the key alone is changed
pub memory_replaced : memory_after replaced small (node 100 261) ≡ base ++ (bucket0 ++ (1 ∷ 0 ∷ (replicate 7 0 ++ (entry 100 5 ++ replicate 357 0))))
unfolding memory_after is_kept with_bucket bucket_after overwritten_in may_overwrite refilled fits_table listed member found find_key key_at same_key node_fields bytes_of shared_bits alike bits bits_of bucket_at
memory_replaced = refl

pub memory_base : memory_after base_key small (node 0 261) ≡ small
unfolding memory_after is_kept
memory_base = refl

-- ---- the question: the distances to the key 101 are 1 for 100, 173 for 200 and 243 for 150, at the highest byte

pub nearest_of_three : nearest_held small (key 101) ≡ node 100 260 ∷ node 200 258 ∷ node 150 259 ∷ []
unfolding nearest_held held_nodes held_below bucket_at bucket_nodes record_node record_at listed insert nearer distance xor_bytes number_of
nearest_of_three = refl

-- written nearest first: of the address the 4 bytes that the family uses
abbrev packed : ℕ → ℕ → List ℕ
packed first low = 2 ∷ 127 ∷ 0 ∷ 0 ∷ 1 ∷ 1 ∷ low ∷ key first

pub answer_of_three : answer_bytes small (key 101) ≡ packed 100 4 ++ (packed 200 2 ++ packed 150 3)
unfolding answer_bytes packed_nodes packed_node info_of address_length bytes_of nearest_held held_nodes held_below bucket_at bucket_nodes record_node record_at listed insert nearer distance xor_bytes number_of
answer_of_three = refl

-- ---- refusals: memory too short for buckets

pub begun_short : begun_answer small ≡ Err OutputTooShort
unfolding begun_answer
begun_short = refl

pub begun_leaves : begun_memory (record { 0 = key 9 }) small ≡ small
unfolding begun_memory
begun_leaves = refl

pub offer_refused : offer_answered small (node 130 261) ≡ Err BucketsNotWhole
unfolding offer_answered buckets_whole
offer_refused = refl

pub offer_leaves : offer_left small (node 130 261) ≡ small
unfolding offer_left buckets_whole
offer_leaves = refl

pub question_refused : nearest_answered small (key 101) [] ≡ Err BucketsNotWhole
unfolding nearest_answered buckets_whole
question_refused = refl

pub question_leaves : nearest_left small (key 101) (7 ∷ []) ≡ 7 ∷ []
unfolding nearest_left buckets_whole
question_leaves = refl
